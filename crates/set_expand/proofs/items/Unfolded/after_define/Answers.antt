-- A definition is known after it, and declares no signals.
use Rattle.std.proofs.Common.{◌∙◌, refl, ap, arith}
use Rattle.c2po_ast.specs.Shape.{shape}
use Rattle.c2po_ast.specs.ItemShape.{define}
use Rattle.c2po_types.specs.Environment.{declare, value, value_of}
use Rattle.set_expand.specs.declared.items.Unfolded.{Unfolded}
use Rattle.set_expand.proofs.Stepping.{stands-after}
use Rattle.set_expand.proofs.items.Unfolded.after_define.Goals as goal

pub returns : goal.returns
returns c = λ place told h.
    let u : Unfolded = c.args.self in
    let e = shape c.args.e.now in
    let v : Unfolded = record { names = c.in_ok-names.names; signals = u.signals; nodes = c.unfold_if.new.nodes; outs = u.outs } in
    let more = c.in_ok-made.ensures.more in
    stands-after u v (define c.args.name.now e) place told refl h
    (c.in_ok-names.ensures.env ∙ ap (λ env. declare c.args.name.now (value (value_of e env)) env) h.values)
    (omega arith) (c.in_ok-names.ensures.below u.signals h.below) more (c.in_ok-names.ensures.kept v.nodes (more.kept h.kept) c.in_ok-made.ensures.made) refl
