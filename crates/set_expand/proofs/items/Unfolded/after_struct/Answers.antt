-- A struct declares no signals, and unfolds to nothing.
use Rattle.std.proofs.Common.{◌∙◌, refl, ap, map, arith}
use Rattle.c2po_ast.specs.ItemShape.{structure, field_shape}
use Rattle.c2po_types.specs.Environment.{declare, fields}
use Rattle.set_expand.specs.declared.items.Unfolded.{Unfolded}
use Rattle.set_expand.proofs.Growing.{more_same}
use Rattle.set_expand.proofs.Stepping.{stands-after}
use Rattle.set_expand.proofs.items.Unfolded.after_struct.Goals as goal

pub returns : goal.returns
returns c = λ place told h.
    let u : Unfolded = c.args.self in
    let fs = map field_shape c.args.decls.now in
    stands-after u (record u { names = c.in_ok-names.names }) (structure c.args.name.now fs) place told refl h
    (c.in_ok-names.ensures.env ∙ ap (declare c.args.name.now (fields (map (λ f. f.name) fs))) h.values)
    (omega arith) (c.in_ok-names.ensures.below u.signals h.below) (more_same u.names u.nodes) (c.in_ok-names.ensures.kept u.nodes h.kept) refl
