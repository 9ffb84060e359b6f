use Rattle.std.proofs.lemmas.Result.{err_from_is_err_and}
use Rattle.c2po_ast.specs.Shape.{shape}
use Rattle.c2po_types.specs.Items.{with_label, formula_kind}
use Rattle.c2po_types.specs.Environment.{value_of}
use Rattle.c2po_types.specs.Stepwise.{one_out}
use Rattle.c2po_types.specs.Reaching.{state_of}
use Rattle.c2po_types.proofs.Parts.{fails-second}
use Rattle.c2po_types.proofs.progress.Progress.step_formula.Goals as goal

pub returns-in_err-check_formula-clause-reached : goal.returns-in_err-check_formula-clause-reached
returns-in_err-check_formula-clause-reached c = λ env stands.
    let p = err_from_is_err_and c.from_residual-in_err-check_formula.result c.from_residual-in_err-check_formula.ensures.1 in
    let old = c.args.self.now in
    rw (p.1, p.2) (fails-second c.in_err-check_formula.field-0.0 (with_label c.args.head.line c.args.head.label.now old.labels) c.declare_label.new.labels
    (formula_kind c.args.head.line (shape c.args.expr.now) old.declared)
    (λ labels _. one_out c.args.head.line c.args.head.engine labels (value_of (shape c.args.expr.now) env) (state_of old env))
    c.in_ok-declare_label.ensures c.in_err-check_formula.ensures)
