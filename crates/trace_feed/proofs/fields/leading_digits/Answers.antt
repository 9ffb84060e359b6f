use Rattle.std.proofs.Common.{◌∙◌, arith, sym}
use Rattle.trace_feed.proofs.DigitLaws.{digit_more, value_more, value_short}
use Rattle.trace_feed.proofs.fields.leading_digits.Goals as goal

pub returns-then-not-is_ascii_digit-clause-small : goal.returns-then-not-is_ascii_digit-clause-small
returns-then-not-is_ascii_digit-clause-small c =
    omega (arith, c.loop-i.invariant.number, value_short c.args.bytes.now c.loop-i.i 18 c.loop-i.invariant.digits (omega arith) (omega arith))

pub returns-clause-small : goal.returns-clause-small
returns-clause-small c =
    omega (arith, c.loop-i.invariant.number, value_short c.args.bytes.now c.loop-i.i 18 c.loop-i.invariant.digits (omega arith) (omega arith))

pub overflow_mul-number : goal.overflow_mul-number
overflow_mul-number c =
    omega (arith, c.loop-i.invariant.number, value_short c.args.bytes.now c.loop-i.i 17 c.loop-i.invariant.digits (omega arith) (omega arith))

pub overflow_add-number : goal.overflow_add-number
overflow_add-number c =
    omega (arith, c.loop-i.invariant.number, value_short c.args.bytes.now c.loop-i.i 17 c.loop-i.invariant.digits (omega arith) (omega arith))

pub loop-i-preserved : goal.loop-i-preserved
loop-i-preserved c =
    let is = sym c.is_ascii_digit.ensures.value ∙ c.if-not-is_ascii_digit.false in
    record {
      digits = digit_more c.args.bytes.now c.loop-i.i (omega arith) is c.loop-i.invariant.digits;
      number = omega (arith, c.loop-i.invariant.number, value_more c.args.bytes.now c.loop-i.i (omega arith) is);
    }
