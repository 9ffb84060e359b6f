-- Two formulas that are unfolded are an output.
use Rattle.std.proofs.Common.{◌++◌, ◌∙◌, List, ap, subst, sym}
use Rattle.c2po_ast.specs.Shape.{shape}
use Rattle.c2po_ast.specs.ItemShape as item
use Rattle.c2po_ast.specs.Nodes.{formula}
use Rattle.c2po_ast.specs.declared.nodes.PlainOut.{PlainOut}
use Rattle.c2po_types.specs.Outputs.{asked_at, place_after, name_of}
use Rattle.c2po_types.specs.Environment.{value_of}
use Rattle.c2po_types.specs.Values.{formula_of}
use Rattle.set_expand.specs.declared.items.Unfolded.{Unfolded}
use Rattle.set_expand.specs.Names.{env_now}
use Rattle.set_expand.specs.Unfolded.{StandsAt}
use Rattle.set_expand.proofs.Growing.{more_then}
use Rattle.set_expand.proofs.Stepping.{stands-contract}
use Rattle.set_expand.proofs.items.Unfolded.after_contract.Goals as goal

pub returns : goal.returns
returns c = λ place told h.
    let u : Unfolded = c.args.self in
    let e = shape c.args.left.now in
    let f = shape c.args.right.now in
    let body = item.contract c.args.engine c.args.label.now e f in
    let nodes = c.unfold-2.new.nodes in
    subst (λ (os : List PlainOut). StandsAt (record u { nodes = nodes; outs = os }) (place_after body place) (told ++ asked_at body place))
    (sym c.in_ok-push.ensures.pushed)
    (stands-contract u nodes place told c.args.engine c.args.label.now e f c.in_ok-left.left c.in_ok-right.right c.output_name-name.result h
    (more_then u.names u.nodes c.unfold.new.nodes nodes c.in_ok-left.ensures.more c.in_ok-right.ensures.more)
    (c.output_name-name.ensures ∙ ap (λ k. name_of k c.args.label.now) c.len.ensures)
    (c.in_ok-right.ensures.more.grows.kept c.in_ok-left.left (formula (formula_of (value_of e (env_now u.names)))) c.in_ok-left.ensures.has)
    c.in_ok-right.ensures.has)
