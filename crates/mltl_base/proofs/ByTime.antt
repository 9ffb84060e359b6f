-- What is known by time is what the lists of known verdicts hold.

use Rattle.std.proofs.Common.{◌≡◌, ℕ, suc, ◌<◌, ◌≤◌, Bool, true, false, ◌&&◌, nat_lt, if◌then◌else◌, Decides, Option, Some, None, List, length, slice_get, refl, sym, ap, arith}
use Rattle.std.specs.Option.{is_some}
use mathlib.Core.Path.{fun_ext}
use Rattle.std.proofs.lemmas.Bool.{lt-ltb, ltb-true, false≢true}
use Rattle.std.proofs.lemmas.Bool.Decides.{Decides-and}
use Rattle.std.proofs.lemmas.Option.{slice_get_within}
use Rattle.mltl_base.specs.Atoms.{Row}
use Rattle.mltl_base.specs.Formula.{Formula}
use Rattle.mltl_base.specs.Kleene.{every_below}
use Rattle.mltl_base.specs.Verdicts.{Known, known_front, kleene_over, listed_by, verdicts, without_gap, known_by_time}
use Rattle.mltl_base.proofs.Order.{Found}
use Rattle.mltl_base.proofs.Fronts.{front_fits, front_below, found_within}
use Rattle.mltl_base.proofs.Unique.{same_value, front_value}
use Rattle.mltl_base.proofs.CoreVerdicts.{front_reaches}
use Rattle.mltl_base.proofs.Deciding.{every_decides}

some_decides_found : (x : Option Bool) → Decides (is_some x) (Found x)
some_decides_found None = (λ e. absurd (cc), λ h. absurd h)
some_decides_found (Some v) = (λ e. tt, λ h. refl)

-- the times up to t are known, and t is that of a row
abbrev pub Reached : Known → ℕ → ℕ → Type 0
Reached k n t = (t < n) × ((s : ℕ) → s < suc t → Found (k s))

reached_decides : (k : Known) (n t : ℕ) → Decides (nat_lt t n && every_below (suc t) (λ s. is_some (k s))) (Reached k n t)
reached_decides k n t =
    Decides-and (nat_lt t n) (every_below (suc t) (λ s. is_some (k s))) (ltb-true t n, lt-ltb t n)
    (every_decides (suc t) (λ s. is_some (k s)) (λ s. Found (k s)) (λ s. some_decides_found (k s)))

found_listed : (k : Known) (n t : ℕ) (v : Bool) → slice_get (known_front k n) t ≡ Some v → Reached k n t
found_listed k n t v e =
    let l : t < length (known_front k n) = slice_get_within (known_front k n) t v e in
    let m : length (known_front k n) ≤ n = front_fits k n in
    (omega arith, λ s c. found_along _ _ (sym (front_value k n s (omega arith))) (found_within (known_front k n) s (omega arith)))
  where
    found_along : (x y : Option Bool) → x ≡ y → Found x → Found y
    found_along x y e h = rw (← e) h

nothing_unless : (x : Option Bool) → ((v : Bool) → x ≡ Some v → ⊥) → x ≡ None
nothing_unless None h = refl
nothing_unless (Some v) h = absurd (h v refl)

pub listed_without_gap : (n : ℕ) (k : Known) (t : ℕ) → listed_by n k t ≡ without_gap n k t
listed_without_gap n k t = go (nat_lt t n && every_below (suc t) (λ s. is_some (k s))) (reached_decides k n t)
  where
    go : (b : Bool) → Decides b (Reached k n t) → slice_get (known_front k n) t ≡ (if b then k t else None)
    go true d =
        let h : Reached k n t = d.0 refl in
        sym (same_value (slice_get (known_front k n) t) (k t) (front_reaches k n t h.0 (λ s c. h.1 s (omega arith))) (front_below k n t))
    go false d = nothing_unless (slice_get (known_front k n) t) (λ v e. absurd (false≢true (d.1 (found_listed k n t v e))))

pub verdicts_by_time : (rows : List Row) (p : Formula) (t : ℕ) → slice_get (verdicts rows p) t ≡ known_by_time rows p t
unfolding verdicts
verdicts_by_time rows p t =
    ap (λ (seen : Known → Known). seen (kleene_over seen rows p) t) (fun_ext (λ k. fun_ext (listed_without_gap (length rows) k)))
