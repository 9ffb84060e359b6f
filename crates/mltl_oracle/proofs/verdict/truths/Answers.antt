-- An atom without a value on a row can't be computed there.
use Rattle.std.proofs.Common.{◌≡◌, None, arith, rules}
use Rattle.std.proofs.lemmas.Option.{MatchOption-at_none}
use Rattle.mltl_oracle.proofs.verdict.truths.Goals as goal

pub returns-in_err-truth-clause-cause : goal.returns-in_err-truth-clause-cause
returns-in_err-truth-clause-cause c = λ h.
    let none : c.holds.result ≡ None = search rules in
    absurd (MatchOption-at_none _ _ none c.holds.ensures.none (rw (c.as_slice.ensures, c.row-item.is) (h c.loop-row.row-index _ (omega arith))))
