use Rattle.std.proofs.lemmas.Result.{err_from_is_err_and}
use Rattle.c2po_ast.specs.Shape.{shape}
use Rattle.c2po_types.specs.Items.{with_label, contract_kind}
use Rattle.c2po_types.specs.Environment.{value_of}
use Rattle.c2po_types.specs.Stepwise.{two_out}
use Rattle.c2po_types.specs.Reaching.{state_of}
use Rattle.c2po_types.proofs.Parts.{fails-second}
use Rattle.c2po_types.proofs.progress.Progress.step_contract.Goals as goal

pub returns-in_err-check_contract-clause-reached : goal.returns-in_err-check_contract-clause-reached
returns-in_err-check_contract-clause-reached c = λ env stands.
    let p = err_from_is_err_and c.from_residual-in_err-check_contract.result c.from_residual-in_err-check_contract.ensures.1 in
    let old = c.args.self.now in
    rw (p.1, p.2) (fails-second c.in_err-check_contract.field-0.0 (with_label c.args.head.line c.args.head.label.now old.labels) c.declare_label.new.labels
    (contract_kind c.args.head.line (shape c.args.left.now) (shape c.args.right.now) old.declared)
    (λ labels _. two_out c.args.head.line c.args.head.engine labels (value_of (shape c.args.left.now) env) (value_of (shape c.args.right.now) env) (state_of old env))
    c.in_ok-declare_label.ensures c.in_err-check_contract.ensures)
