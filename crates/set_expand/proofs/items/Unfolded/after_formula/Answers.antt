-- A formula that is unfolded is an output.
use Rattle.std.proofs.Common.{◌++◌, ◌∙◌, List, ap, subst, sym}
use Rattle.c2po_ast.specs.Shape.{shape}
use Rattle.c2po_ast.specs.ItemShape as item
use Rattle.c2po_ast.specs.declared.nodes.PlainOut.{PlainOut}
use Rattle.c2po_types.specs.Outputs.{asked_at, place_after, name_of}
use Rattle.set_expand.specs.declared.items.Unfolded.{Unfolded}
use Rattle.set_expand.specs.Unfolded.{StandsAt}
use Rattle.set_expand.proofs.Stepping.{stands-formula}
use Rattle.set_expand.proofs.items.Unfolded.after_formula.Goals as goal

pub returns : goal.returns
returns c = λ place told h.
    let u : Unfolded = c.args.self in
    let e = shape c.args.e.now in
    let body = item.formula c.args.engine c.args.label.now e in
    subst (λ (os : List PlainOut). StandsAt (record u { nodes = c.unfold.new.nodes; outs = os }) (place_after body place) (told ++ asked_at body place))
    (sym c.in_ok-push.ensures.pushed)
    (stands-formula u c.unfold.new.nodes place told c.args.engine c.args.label.now e c.in_ok-node.node c.output_name-name.result h
    c.in_ok-node.ensures.more (c.output_name-name.ensures ∙ ap (λ k. name_of k c.args.label.now) c.len.ensures) c.in_ok-node.ensures.has)
