use Rattle.std.proofs.Common.{sym, Ok, Err}
use Rattle.mltl_base.specs.Ranges.{divisor, wide}
use Rattle.obs_verify.proofs.ExpressionLaws.{op_ranged}
use Rattle.obs_verify.proofs.booleanizer.check_op.Goals as goal

pub returns-in-Ok-clause-answer : goal.returns-in-Ok-clause-answer
returns-in-Ok-clause-answer c =
    (op_ranged c.args.program.now c.args.before.now c.args.op.now (Ok c.in-Ok.range) (sym c.if-not-has_operands.ensures) c.requires.known c.requires.here c.in-Ok.ensures).fault_is

pub returns-in-Ok-clause-range : goal.returns-in-Ok-clause-range
returns-in-Ok-clause-range c =
    (op_ranged c.args.program.now c.args.before.now c.args.op.now (Ok c.in-Ok.range) (sym c.if-not-has_operands.ensures) c.requires.known c.requires.here c.in-Ok.ensures).range_is

pub returns-in-Err-Divisor-clause-answer : goal.returns-in-Err-Divisor-clause-answer
returns-in-Err-Divisor-clause-answer c = λ other.
    (op_ranged c.args.program.now c.args.before.now c.args.op.now (Err divisor) (sym c.if-not-has_operands.ensures) c.requires.known c.requires.here (rw c.in-Err-Divisor.field-0-is at c.in-Err-Divisor.ensures)).fault_is

pub returns-in-Err-Wide-clause-answer : goal.returns-in-Err-Wide-clause-answer
returns-in-Err-Wide-clause-answer c = λ other.
    (op_ranged c.args.program.now c.args.before.now c.args.op.now (Err wide) (sym c.if-not-has_operands.ensures) c.requires.known c.requires.here (rw c.in-Err-Wide.field-0-is at c.in-Err-Wide.ensures)).fault_is
