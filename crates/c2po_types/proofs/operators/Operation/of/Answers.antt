-- A quantifier's bodies are those of its expression.
use Rattle.std.proofs.Common.{ap, sym, ◌∙◌}
use Rattle.mltl_base.specs.declared.operators.LogicOp.TheVariants.{And, Or}
use Rattle.c2po_ast.specs.Shape.{shape, node_shape}
use Rattle.c2po_types.specs.Values.{connected_all, counted}
use Rattle.c2po_types.specs.Environment.{value_of}
use Rattle.c2po_types.proofs.Loops.{values_over}
use Rattle.c2po_types.proofs.operators.Operation.of.Goals as goal

pub returns-in-Each : goal.returns-in-Each
returns-in-Each c = λ env o.
    ap (λ d. connected_all And (values_over d c.in-Each.name env (value_of (shape c.deref-in-Each.result.now) env))) c.deref-in-Each-2.ensures
    ∙ (ap (λ d. connected_all And (values_over c.in-Each.body.value c.in-Each.name env (value_of (shape d) env))) c.deref-in-Each.ensures
    ∙ ap (λ n. value_of (node_shape c.args.e.now.line n) env) (sym c.in-Each.is))

pub returns-in-Exists : goal.returns-in-Exists
returns-in-Exists c = λ env o.
    ap (λ d. connected_all Or (values_over d c.in-Exists.name env (value_of (shape c.deref-in-Exists.result.now) env))) c.deref-in-Exists-2.ensures
    ∙ (ap (λ d. connected_all Or (values_over c.in-Exists.body.value c.in-Exists.name env (value_of (shape d) env))) c.deref-in-Exists.ensures
    ∙ ap (λ n. value_of (node_shape c.args.e.now.line n) env) (sym c.in-Exists.is))

pub returns-in-Count : goal.returns-in-Count
returns-in-Count c = λ env o.
    ap (λ d. counted c.in-Count.op c.in-Count.number (values_over d c.in-Count.name env (value_of (shape c.deref-in-Count.result.now) env))) c.deref-in-Count-2.ensures
    ∙ (ap (λ d. counted c.in-Count.op c.in-Count.number (values_over c.in-Count.body.value c.in-Count.name env (value_of (shape d) env))) c.deref-in-Count.ensures
    ∙ ap (λ n. value_of (node_shape c.args.e.now.line n) env) (sym c.in-Count.is))
