use Rattle.std.proofs.Common.{◌∙◌, ap, arith, cond, rules, sym}
use Rattle.std.specs.Int.{w64}
use Rattle.std.specs.Prelude.{FitsSigned, neg_ℤ, pos, ◌==◌, slice_index}
use Rattle.std.proofs.lemmas.Int.{to_z-of_z}
use Rattle.trace_feed.proofs.DigitLaws.{numeral_front, value_front}
use Rattle.trace_feed.proofs.fields.leading_numeral.Goals as goal

pub returns-clause-numeral : goal.returns-clause-numeral
returns-clause-numeral c =
    let rest = c.without_sign-rest.ensures in
    rw rest (numeral_front c.args.line.now c.leading_digits-digits.result.size (omega arith) (rw rest at c.leading_digits-digits.ensures.within) (rw rest at c.leading_digits-digits.ensures.digits))

pub returns-clause-number : goal.returns-clause-number
returns-clause-number c =
    let rest = c.without_sign-rest.ensures in
    let fits : FitsSigned w64 c.signed.result = search rules in
    rw (rest, to_z-of_z w64 c.signed.result fits) (
    c.signed.ensures
    ∙ ap (λ n. cond (slice_index c.args.line.now 0 == 45) (neg_ℤ (pos n)) (pos n)) (rw rest at c.leading_digits-digits.ensures.number)
    ∙ sym (value_front c.args.line.now c.leading_digits-digits.result.size (omega arith) (rw rest at c.leading_digits-digits.ensures.within))
    )
