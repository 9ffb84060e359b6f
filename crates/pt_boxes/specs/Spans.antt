-- Boxes: stretches of times at which a Since will hold if its left operand stays true.

use Rattle.std.specs.Prelude.{◌≡◌, ℕ, suc, ◌+◌, ◌-◌, ◌<◌, ◌≤◌, nat_le, nat_lt, Bool, false, ◌&&◌, if◌then◌else◌, List}
use Rattle.std.specs.Prelude.{[], ◌∷◌, ◌++◌, ⊤}
use Rattle.std.specs.List.{list_any}
use Rattle.mltl_base.specs.declared.interval.Interval.{Interval}
use Rattle.mltl_base.specs.Kleene.{some_below, every_in}
use Rattle.mltl_base.specs.Meaning.{within}
use Rattle.pt_boxes.specs.declared.boxes.Span.{Span}

-- true if the time lies in the stretch
abbrev pub covers : Span → ℕ → Bool
covers s u = nat_le s.first u && nat_le u s.last

-- true if the time lies in one of the stretches
abbrev pub in_some : List Span → ℕ → Bool
in_some boxes u = list_any (λ s. covers s u) boxes

-- After n rows, p since q at time u, as far as these rows decide it if p stays true: some time m below n has q, u is as far
-- from it as the interval says, and p holds at each time after m and below n.
abbrev pub since_after : Interval → (ℕ → Bool) → (ℕ → Bool) → ℕ → ℕ → Bool
since_after i p q n u = some_below n (λ m. within i (u - m) && (q m && every_in (suc m) n p))

-- the boxes of p since q after n rows: from time n - 1 on, they cover the times at which it holds if p stays true
pub record SpanSince (i : Interval) (p q : ℕ → Bool) (n : ℕ) (boxes : List Span) : Type 0 where
  pub each : (u : ℕ) → n ≤ u + 1 → in_some boxes u ≡ since_after i p q n u

-- After n rows, each box covers more times than the interval's ends lie apart, and ends from n - 1 to n - 1 + hi; the first
-- starts at or past `low`, and each later one at least 2 after the end of the box before it.
unfoldable pub SpansLieApart : Interval → ℕ → ℕ → List Span → Type 0
SpansLieApart i n low [] = ⊤
SpansLieApart i n low (s ∷ ss) =
    (low ≤ s.first) × (s.first + (i.hi - i.lo) ≤ s.last) × (n ≤ s.last + 1) × (s.last < n + i.hi)
    × SpansLieApart i n (s.last + 2) ss

-- the boxes without the first one, if it ended before this time
unfoldable pub without_ended : ℕ → List Span → List Span
without_ended now [] = []
without_ended now (s ∷ ss) = if nat_lt s.last now then ss else s ∷ ss

-- the stretch that a right operand opens if it is true at this time
abbrev pub stretch_at : Interval → ℕ → Span
stretch_at i now = record { first = now + i.lo; last = now + i.hi }

-- true if a stretch that starts at this time meets or touches the newest box
unfoldable pub meets : ℕ → List Span → Bool
meets first [] = false
meets first (s ∷ []) = nat_le first (s.last + 1)
meets first (s ∷ s' ∷ ss) = meets first (s' ∷ ss)

-- the boxes with a new end of the newest one
unfoldable pub prolonged : ℕ → List Span → List Span
prolonged last [] = []
prolonged last (s ∷ []) = record { first = s.first; last = last } ∷ []
prolonged last (s ∷ s' ∷ ss) = s ∷ prolonged last (s' ∷ ss)

-- the boxes and a stretch, which is joined with the newest box if it meets or touches it
abbrev pub with_stretch : Span → List Span → List Span
with_stretch new boxes = if meets new.first boxes then prolonged new.last boxes else boxes ++ new ∷ []
