-- Formulas of one tense.

use Rattle.std.proofs.Common.{◌≡◌, false}
use Rattle.std.proofs.lemmas.Bool.{or_parts}
use Rattle.mltl_base.specs.declared.interval.Engine.{Engine}
use Rattle.mltl_base.specs.declared.interval.Engine.TheVariants.{Ft, Pt}
use Rattle.mltl_base.specs.Formula.{Formula, truth, falsity, atom, negation, conjunction, disjunction, implication, equivalence, finally, globally, until, release, once, historically, since}
use Rattle.mltl_base.specs.Settled.{IsFuture, IsPast}
use Rattle.mltl_base.specs.Subformulas.{IsOfTense}
use Rattle.c2po_ast.specs.Tenses.{has_past, has_future}
use Rattle.c2po_types.specs.FirstFault.{is_mixed}

is_future : (p : Formula) → has_past p ≡ false → IsFuture p
unfolding has_past
is_future truth h = tt
is_future falsity h = tt
is_future (atom a) h = tt
is_future (negation p) h = is_future p h
is_future (conjunction p q) h = let n = or_parts (has_past p) (has_past q) h in (is_future p n.0, is_future q n.1)
is_future (disjunction p q) h = let n = or_parts (has_past p) (has_past q) h in (is_future p n.0, is_future q n.1)
is_future (implication p q) h = let n = or_parts (has_past p) (has_past q) h in (is_future p n.0, is_future q n.1)
is_future (equivalence p q) h = let n = or_parts (has_past p) (has_past q) h in (is_future p n.0, is_future q n.1)
is_future (finally i p) h = is_future p h
is_future (globally i p) h = is_future p h
is_future (until i p q) h = let n = or_parts (has_past p) (has_past q) h in (is_future p n.0, is_future q n.1)
is_future (release i p q) h = let n = or_parts (has_past p) (has_past q) h in (is_future p n.0, is_future q n.1)
is_future (once i p) h = absurd (cc)
is_future (historically i p) h = absurd (cc)
is_future (since i p q) h = absurd (cc)

is_past : (p : Formula) → has_future p ≡ false → IsPast p
unfolding has_future
is_past truth h = tt
is_past falsity h = tt
is_past (atom a) h = tt
is_past (negation p) h = is_past p h
is_past (conjunction p q) h = let n = or_parts (has_future p) (has_future q) h in (is_past p n.0, is_past q n.1)
is_past (disjunction p q) h = let n = or_parts (has_future p) (has_future q) h in (is_past p n.0, is_past q n.1)
is_past (implication p q) h = let n = or_parts (has_future p) (has_future q) h in (is_past p n.0, is_past q n.1)
is_past (equivalence p q) h = let n = or_parts (has_future p) (has_future q) h in (is_past p n.0, is_past q n.1)
is_past (once i p) h = is_past p h
is_past (historically i p) h = is_past p h
is_past (since i p q) h = let n = or_parts (has_future p) (has_future q) h in (is_past p n.0, is_past q n.1)
is_past (finally i p) h = absurd (cc)
is_past (globally i p) h = absurd (cc)
is_past (until i p q) h = absurd (cc)
is_past (release i p q) h = absurd (cc)

-- a formula that isn't mixed is of its engine's tense
pub of_tense : (engine : Engine) (p : Formula) → is_mixed engine p ≡ false → IsOfTense engine p
of_tense Ft p h = is_future p h
of_tense Pt p h = is_past p h
