-- The tenses of a formula.
-- A reader of the contracts needs this file.

use Rattle.std.specs.Prelude.{Bool, true, false, ◌||◌}
use Rattle.mltl_base.specs.Formula.{Formula, truth, falsity, atom, negation, conjunction, disjunction, implication}
use Rattle.mltl_base.specs.Formula.{equivalence, finally, globally, until, release, once, historically, since}

-- the formula has an operator of the past
unfoldable pub has_past : Formula → Bool
has_past truth = false
has_past falsity = false
has_past (atom a) = false
has_past (negation p) = has_past p
has_past (conjunction p q) = has_past p || has_past q
has_past (disjunction p q) = has_past p || has_past q
has_past (implication p q) = has_past p || has_past q
has_past (equivalence p q) = has_past p || has_past q
has_past (finally i p) = has_past p
has_past (globally i p) = has_past p
has_past (until i p q) = has_past p || has_past q
has_past (release i p q) = has_past p || has_past q
has_past (once i p) = true
has_past (historically i p) = true
has_past (since i p q) = true

-- the formula has an operator of the future
unfoldable pub has_future : Formula → Bool
has_future truth = false
has_future falsity = false
has_future (atom a) = false
has_future (negation p) = has_future p
has_future (conjunction p q) = has_future p || has_future q
has_future (disjunction p q) = has_future p || has_future q
has_future (implication p q) = has_future p || has_future q
has_future (equivalence p q) = has_future p || has_future q
has_future (finally i p) = true
has_future (globally i p) = true
has_future (until i p q) = true
has_future (release i p q) = true
has_future (once i p) = has_future p
has_future (historically i p) = has_future p
has_future (since i p q) = has_future p || has_future q
