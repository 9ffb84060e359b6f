-- What is known of a formula is what it means, whatever rows follow; and each verdict comes by the worst-case delay.

use Rattle.std.proofs.Common.{◌≡◌, ℕ, zero, suc, ◌+◌, ◌-◌, ◌<◌, ◌≤◌, max, Bool, true, false, not, ◌&&◌, Option, Some, None, List, [], ◌∷◌, ◌++◌, length, map, slice_get, slice_index_or, refl, sym, arith}
use Rattle.std.proofs.lemmas.List.{length-map}
use Rattle.mltl_base.specs.declared.interval.Interval.{Interval}
use Rattle.mltl_base.specs.Atoms.{Row, holds}
use Rattle.mltl_base.specs.Formula.{Formula, truth, falsity, atom, negation, conjunction, disjunction, implication, equivalence, finally, globally, until, release, once, historically, since, wpd}
use Rattle.mltl_base.specs.Kleene.{every_in}
use Rattle.mltl_base.specs.Meaning.{within, until_at, since_at, sat}
use Rattle.mltl_base.specs.Verdicts.{Known, k_until, k_since, known_front, kleene_over, verdicts}
use Rattle.mltl_base.specs.Settled.{Settled, SettledAmong}
use Rattle.mltl_base.proofs.Order.{Below, below_trans, right_not, right_and, right_or, right_implies, right_some, right_every, Found, found_not, found_and, found_or, found_implies, found_some, found_every}
use Rattle.mltl_base.proofs.Fronts.{front_below, front_within, found_within, prefix_below}
use Rattle.mltl_base.proofs.Leaves.{front_map}
use Rattle.mltl_base.proofs.Prefixes.{verdicts_begin}

-- what is known by k is true of f
abbrev pub IsRight : Known → (ℕ → Bool) → Type 0
IsRight k f = (t : ℕ) → Below (k t) (Some (f t))

pub right_until : (i : Interval) (p q : Known) (f g : ℕ → Bool) → IsRight p f → IsRight q g → IsRight (k_until i p q) (until_at i f g)
right_until i p q f g u v t =
    right_some (suc i.hi - i.lo) _ (λ k. g (t + (i.lo + k)) && every_in i.lo (i.lo + k) (λ j. f (t + j)))
    (λ k. right_and (q (t + (i.lo + k))) _ _ _ (v (t + (i.lo + k)))
    (right_every (i.lo + k - i.lo) _ (λ j. f (t + (i.lo + j))) (λ j. u (t + (i.lo + j)))))

pub right_since : (i : Interval) (p q : Known) (f g : ℕ → Bool) → IsRight p f → IsRight q g → IsRight (k_since i p q) (since_at i f g)
right_since i p q f g u v t =
    right_some (suc t) _ (λ m. within i (t - m) && (g m && every_in (suc m) (suc t) f))
    (λ m. right_and (Some (within i (t - m))) _ _ _ refl
    (right_and (q m) _ _ _ (v m) (right_every (suc t - suc m) _ (λ j. f (suc m + j)) (λ j. u (suc m + j)))))

right_front : (k : Known) (n : ℕ) (f : ℕ → Bool) → IsRight k f → IsRight (slice_get (known_front k n)) f
right_front k n f h t = below_trans (slice_get (known_front k n) t) (k t) (Some (f t)) (front_below k n t) (h t)

right_constant : (b : Bool) (rows : List Row) → IsRight (slice_get (map (λ r. b) rows)) (λ t. b)
right_constant b [] t = tt
right_constant b (r ∷ rows) zero = refl
right_constant b (r ∷ rows) (suc t) = right_constant b rows t

right_map : (f : Row → Bool) (rows : List Row) → IsRight (slice_get (map f rows)) (λ t. f (slice_index_or rows t []))
right_map f [] t = tt
right_map f (r ∷ rows) zero = refl
right_map f (r ∷ rows) (suc t) = right_map f rows t

pub verdicts_right : (rows : List Row) (p : Formula) → IsRight (slice_get (verdicts rows p)) (sat rows p)
unfolding verdicts kleene_over sat
verdicts_right rows truth = right_front _ _ _ (right_constant true rows)
verdicts_right rows falsity = right_front _ _ _ (right_constant false rows)
verdicts_right rows (atom a) = right_front _ _ _ (right_map (holds a) rows)
verdicts_right rows (negation p) = right_front _ _ _ (λ t. right_not _ _ (verdicts_right rows p t))
verdicts_right rows (conjunction p q) = right_front _ _ _ (λ t. right_and _ _ _ _ (verdicts_right rows p t) (verdicts_right rows q t))
verdicts_right rows (disjunction p q) = right_front _ _ _ (λ t. right_or _ _ _ _ (verdicts_right rows p t) (verdicts_right rows q t))
verdicts_right rows (implication p q) = right_front _ _ _ (λ t. right_implies _ _ _ _ (verdicts_right rows p t) (verdicts_right rows q t))
verdicts_right rows (equivalence p q) =
    right_front _ _ _ (λ t. right_and _ _ _ _
    (right_implies _ _ _ _ (verdicts_right rows p t) (verdicts_right rows q t))
    (right_implies _ _ _ _ (verdicts_right rows q t) (verdicts_right rows p t)))
verdicts_right rows (finally i p) = right_front _ _ _ (λ t. right_some (suc i.hi - i.lo) _ _ (λ k. verdicts_right rows p (t + (i.lo + k))))
verdicts_right rows (globally i p) = right_front _ _ _ (λ t. right_every (suc i.hi - i.lo) _ _ (λ k. verdicts_right rows p (t + (i.lo + k))))
verdicts_right rows (until i p q) = right_front _ _ _ (right_until i _ _ _ _ (verdicts_right rows p) (verdicts_right rows q))
verdicts_right rows (release i p q) =
    right_front _ _ _ (λ t. right_not _ _ (right_until i _ _ _ _
    (λ s. right_not _ _ (verdicts_right rows p s)) (λ s. right_not _ _ (verdicts_right rows q s)) t))
verdicts_right rows (once i p) =
    right_front _ _ _ (λ t. right_some (suc t) _ _ (λ m. right_and (Some (within i (t - m))) _ _ _ refl (verdicts_right rows p m)))
verdicts_right rows (historically i p) =
    right_front _ _ _ (λ t. right_every (suc t) _ _ (λ m. right_or (Some (not (within i (t - m)))) _ _ _ refl (verdicts_right rows p m)))
verdicts_right rows (since i p q) = right_front _ _ _ (right_since i _ _ _ _ (verdicts_right rows p) (verdicts_right rows q))

-- a value that is found, and true of v, is v
found_right : (x : Option Bool) (v : Bool) → Found x → Below x (Some v) → x ≡ Some v
found_right None v f h = absurd f
found_right (Some w) v f h = sym h

-- the first verdict of a longer list of rows is that of the shorter one
pub verdict_stays : (rows more : List Row) (p : Formula) (t : ℕ) (v : Bool) → slice_get (verdicts rows p) t ≡ Some v → slice_get (verdicts (rows ++ more) p) t ≡ Some v
verdict_stays rows more p t v e =
    rw e at (prefix_below (verdicts rows p) (verdicts (rows ++ more) p) t (verdicts_begin rows more p))

pub verdict_settled : (rows : List Row) (p : Formula) (t : ℕ) (v : Bool) → slice_get (verdicts rows p) t ≡ Some v → Settled rows p t v
verdict_settled rows p t v e more l =
    let h : Below (Some v) (Some (sat (rows ++ more) p t)) = rw (verdict_stays rows more p t v e) at (verdicts_right (rows ++ more) p t) in
    cc

-- what all further rows say, those of a class say
pub settled_among : (IsIn : List Row → Type 0) (rows : List Row) (p : Formula) (t : ℕ) (v : Bool) → Settled rows p t v → SettledAmong IsIn rows p t v
settled_among IsIn rows p t v h more among l = h more l

-- the verdicts come by the worst-case delay
abbrev pub ComesBy : ℕ → ℕ → List Bool → Type 0
ComesBy n d vs = n ≤ length vs + d

found_before : (n d t : ℕ) (vs : List Bool) → ComesBy n d vs → t + d < n → Found (slice_get vs t)
found_before n d t vs h l = found_within vs t (omega arith)

pub found_until : (i : Interval) (p q : Known) (t n d : ℕ) → ((s : ℕ) → s + d < n → Found (p s)) → ((s : ℕ) → s + d < n → Found (q s)) → t + (d + i.hi) < n → Found (k_until i p q t)
found_until i p q t n d f g l =
    found_some (suc i.hi - i.lo) _ (λ k b. found_and (q (t + (i.lo + k))) _ (g (t + (i.lo + k)) (omega arith))
    (found_every (i.lo + k - i.lo) _ (λ j c. f (t + (i.lo + j)) (omega arith))))

pub found_since : (i : Interval) (p q : Known) (t n d : ℕ) → ((s : ℕ) → s + d < n → Found (p s)) → ((s : ℕ) → s + d < n → Found (q s)) → t + d < n → Found (k_since i p q t)
found_since i p q t n d f g l =
    found_some (suc t) _ (λ m b. found_and (Some (within i (t - m))) _ tt
    (found_and (q m) _ (g m (omega arith)) (found_every (suc t - suc m) _ (λ j c. f (suc m + j) (omega arith)))))

pub verdicts_in_time : (rows : List Row) (p : Formula) → ComesBy (length rows) (wpd p) (verdicts rows p)
unfolding verdicts kleene_over wpd
verdicts_in_time rows truth = rw (front_map (λ r. true) rows, length-map) (omega arith)
verdicts_in_time rows falsity = rw (front_map (λ r. false) rows, length-map) (omega arith)
verdicts_in_time rows (atom a) = rw (front_map (holds a) rows, length-map) (omega arith)
verdicts_in_time rows (negation p) =
    front_within _ _ _ (λ t l. found_not _ (found_before _ _ t _ (verdicts_in_time rows p) l))
verdicts_in_time rows (conjunction p q) =
    front_within _ _ _ (λ t l. found_and _ _ (found_before _ _ t _ (verdicts_in_time rows p) (omega arith)) (found_before _ _ t _ (verdicts_in_time rows q) (omega arith)))
verdicts_in_time rows (disjunction p q) =
    front_within _ _ _ (λ t l. found_or _ _ (found_before _ _ t _ (verdicts_in_time rows p) (omega arith)) (found_before _ _ t _ (verdicts_in_time rows q) (omega arith)))
verdicts_in_time rows (implication p q) =
    front_within _ _ _ (λ t l. found_implies _ _ (found_before _ _ t _ (verdicts_in_time rows p) (omega arith)) (found_before _ _ t _ (verdicts_in_time rows q) (omega arith)))
verdicts_in_time rows (equivalence p q) =
    front_within _ _ _ (λ t l. found_and _ _
    (found_implies _ _ (found_before _ _ t _ (verdicts_in_time rows p) (omega arith)) (found_before _ _ t _ (verdicts_in_time rows q) (omega arith)))
    (found_implies _ _ (found_before _ _ t _ (verdicts_in_time rows q) (omega arith)) (found_before _ _ t _ (verdicts_in_time rows p) (omega arith))))
verdicts_in_time rows (finally i p) =
    front_within _ _ _ (λ t l. found_some (suc i.hi - i.lo) _ (λ k b. found_before _ _ (t + (i.lo + k)) _ (verdicts_in_time rows p) (omega arith)))
verdicts_in_time rows (globally i p) =
    front_within _ _ _ (λ t l. found_every (suc i.hi - i.lo) _ (λ k b. found_before _ _ (t + (i.lo + k)) _ (verdicts_in_time rows p) (omega arith)))
verdicts_in_time rows (until i p q) =
    front_within _ _ _ (λ t l. found_until i _ _ t (length rows) (max (wpd p) (wpd q))
    (λ s c. found_before _ _ s _ (verdicts_in_time rows p) (omega arith)) (λ s c. found_before _ _ s _ (verdicts_in_time rows q) (omega arith)) l)
verdicts_in_time rows (release i p q) =
    front_within _ _ _ (λ t l. found_not _ (found_until i _ _ t (length rows) (max (wpd p) (wpd q))
    (λ s c. found_not _ (found_before _ _ s _ (verdicts_in_time rows p) (omega arith))) (λ s c. found_not _ (found_before _ _ s _ (verdicts_in_time rows q) (omega arith))) l))
verdicts_in_time rows (once i p) =
    front_within _ _ _ (λ t l. found_some (suc t) _ (λ m b. found_and (Some (within i (t - m))) _ tt (found_before _ _ m _ (verdicts_in_time rows p) (omega arith))))
verdicts_in_time rows (historically i p) =
    front_within _ _ _ (λ t l. found_every (suc t) _ (λ m b. found_or (Some (not (within i (t - m)))) _ tt (found_before _ _ m _ (verdicts_in_time rows p) (omega arith))))
verdicts_in_time rows (since i p q) =
    front_within _ _ _ (λ t l. found_since i _ _ t (length rows) (max (wpd p) (wpd q))
    (λ s c. found_before _ _ s _ (verdicts_in_time rows p) (omega arith)) (λ s c. found_before _ _ s _ (verdicts_in_time rows q) (omega arith)) l)

pub verdict_known : (rows : List Row) (p : Formula) (t : ℕ) → t + wpd p < length rows → slice_get (verdicts rows p) t ≡ Some (sat rows p t)
verdict_known rows p t l =
    found_right (slice_get (verdicts rows p) t) (sat rows p t) (found_before (length rows) (wpd p) t (verdicts rows p) (verdicts_in_time rows p) l) (verdicts_right rows p t)
