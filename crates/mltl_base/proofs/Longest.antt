-- Known verdicts are the longest list of times at which the strong Kleene value of the formula is known.

use Rattle.std.proofs.Common.{◌≡◌, ℕ, zero, suc, ◌+◌, ◌-◌, ◌<◌, ◌≤◌, ◌⊎◌, inl, inr, Bool, true, false, Option, None, List, length, map, slice_get, refl, arith}
use Rattle.std.proofs.lemmas.Bool.{cases_lt}
use Rattle.std.proofs.lemmas.List.{length-map}
use Rattle.std.proofs.lemmas.Option.{slice_get_past}
use Rattle.mltl_base.specs.Atoms.{Row, holds}
use Rattle.mltl_base.specs.Formula.{Formula, truth, falsity, atom, negation, conjunction, disjunction, implication, equivalence, finally, globally, until, release, once, historically, since}
use Rattle.mltl_base.specs.Kleene.{k_not, k_and, k_or, k_implies, k_some_below, k_every_below}
use Rattle.mltl_base.specs.Verdicts.{kleene_over, verdicts, IsLongestKnown, kleene}
use Rattle.mltl_base.specs.Settled.{IsFuture, IsOrdered}
use Rattle.mltl_base.proofs.Bounds.{verdicts_fit, unknown_until, unknown_both, unknown_not}
use Rattle.mltl_base.proofs.Unique.{front_longest}

pub verdicts_longest : (rows : List Row) (p : Formula) → IsLongestKnown (kleene rows p) (length rows) (verdicts rows p)
unfolding verdicts
verdicts_longest rows p = front_longest (kleene rows p) (length rows)

-- nothing of a future formula is known past the rows
past_rows : (rows : List Row) (p : Formula) (t : ℕ) → length rows ≤ t → slice_get (verdicts rows p) t ≡ None
past_rows rows p t l = slice_get_past (verdicts rows p) t (let h = verdicts_fit rows p in omega arith)

past_map : (f : Row → Bool) (rows : List Row) (t : ℕ) → length rows ≤ t → slice_get (map f rows) t ≡ None
past_map f rows t l = slice_get_past (map f rows) t (simp length-map l)

unknown_or : (x y : Option Bool) → x ≡ None → y ≡ None → k_or x y ≡ None
unfolding k_or k_and k_not
unknown_or x y e f = rw (e, f) refl

unknown_implies : (x y : Option Bool) → x ≡ None → y ≡ None → k_implies x y ≡ None
unfolding k_and k_not
unknown_implies x y e f = rw (e, f) refl

unknown_every_below : (n : ℕ) (f : ℕ → Option Bool) → ((k : ℕ) → f k ≡ None) → k_every_below (suc n) f ≡ None
unfolding k_every_below k_and
unknown_every_below zero f h = h 0
unknown_every_below (suc n) f h = rw (unknown_every_below n f h, h (suc n)) refl

unknown_some_below : (n : ℕ) (f : ℕ → Option Bool) → ((k : ℕ) → f k ≡ None) → k_some_below (suc n) f ≡ None
unknown_some_below n f h = Rattle.mltl_base.proofs.Order.unknown_some n f (λ k l. h k)

some_window : (lo hi : ℕ) (f : ℕ → Option Bool) → lo ≤ hi → ((k : ℕ) → f k ≡ None) → k_some_below (suc hi - lo) f ≡ None
some_window lo hi f o h = let e : suc hi - lo ≡ suc (hi - lo) = omega arith in rw e (unknown_some_below (hi - lo) f h)

every_window : (lo hi : ℕ) (f : ℕ → Option Bool) → lo ≤ hi → ((k : ℕ) → f k ≡ None) → k_every_below (suc hi - lo) f ≡ None
every_window lo hi f o h = let e : suc hi - lo ≡ suc (hi - lo) = omega arith in rw e (unknown_every_below (hi - lo) f h)

unknown_later : (rows : List Row) (p : Formula) → IsFuture p → IsOrdered p → (t : ℕ) → length rows ≤ t → kleene rows p t ≡ None
unfolding verdicts kleene_over
unknown_later rows truth f o t l = past_map (λ r. true) rows t l
unknown_later rows falsity f o t l = past_map (λ r. false) rows t l
unknown_later rows (atom a) f o t l = past_map (holds a) rows t l
unknown_later rows (negation p) f o t l = unknown_not _ (past_rows rows p t l)
unknown_later rows (conjunction p q) f o t l = unknown_both _ _ (past_rows rows p t l) (past_rows rows q t l)
unknown_later rows (disjunction p q) f o t l = unknown_or _ _ (past_rows rows p t l) (past_rows rows q t l)
unknown_later rows (implication p q) f o t l = unknown_implies _ _ (past_rows rows p t l) (past_rows rows q t l)
unknown_later rows (equivalence p q) f o t l =
    unknown_both _ _ (unknown_implies _ _ (past_rows rows p t l) (past_rows rows q t l)) (unknown_implies _ _ (past_rows rows q t l) (past_rows rows p t l))
unknown_later rows (finally i p) f o t l = some_window i.lo i.hi _ o.0 (λ k. past_rows rows p (t + (i.lo + k)) (omega arith))
unknown_later rows (globally i p) f o t l = every_window i.lo i.hi _ o.0 (λ k. past_rows rows p (t + (i.lo + k)) (omega arith))
unknown_later rows (until i p q) f o t l =
    unknown_until i _ _ t o.0 (λ s c. past_rows rows p s (omega arith)) (λ s c. past_rows rows q s (omega arith))
unknown_later rows (release i p q) f o t l =
    unknown_not _ (unknown_until i _ _ t o.0 (λ s c. unknown_not _ (past_rows rows p s (omega arith))) (λ s c. unknown_not _ (past_rows rows q s (omega arith))))
unknown_later rows (once i p) f o t l = absurd f
unknown_later rows (historically i p) f o t l = absurd f
unknown_later rows (since i p q) f o t l = absurd f

-- the first time that is missing is unknown, with no bound by the rows
pub future_ends_unknown : (rows : List Row) (p : Formula) → IsFuture p → IsOrdered p → kleene rows p (length (verdicts rows p)) ≡ None
future_ends_unknown rows p f o = go (cases_lt (length (verdicts rows p)) (length rows))
  where
    go : (length (verdicts rows p) < length rows) ⊎ (length rows ≤ length (verdicts rows p)) → kleene rows p (length (verdicts rows p)) ≡ None
    go (inl l) = let h : IsLongestKnown (kleene rows p) (length rows) (verdicts rows p) = verdicts_longest rows p in h.longest l
    go (inr l) = unknown_later rows p f o (length (verdicts rows p)) l
