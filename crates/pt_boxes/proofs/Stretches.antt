-- Stretches of times, one after another.
use Rattle.std.proofs.Common.{◌≡◌, ℕ, ◌+◌, ◌-◌, ◌<◌, ◌≤◌, true, nat_le, List, [], ◌∷◌, ◌++◌, length, arith, refl, ap}
use Rattle.std.proofs.lemmas.Bool.Decides.{nat_tests}
use Rattle.pt_boxes.specs.declared.boxes.Span.{Span}
use Rattle.pt_boxes.specs.Spans.{meets, prolonged, without_ended}

-- past the end of a list of stretches
abbrev pub no_span : Span
no_span = record { first = 0; last = 0 }

-- the newest box decides
pub meets-append : (first : ℕ) (front : List Span) (s : Span) → meets first (front ++ s ∷ []) ≡ nat_le first (s.last + 1)
unfolding meets
meets-append first [] s = refl
meets-append first (t ∷ []) s = refl
meets-append first (t ∷ t' ∷ ts) s = meets-append first (t' ∷ ts) s

pub meets_some : (first : ℕ) (boxes : List Span) → meets first boxes ≡ true → 0 < length boxes
unfolding meets
meets_some first [] h = cc
meets_some first (s ∷ ss) h = omega arith

pub prolonged-append : (last : ℕ) (front : List Span) (s : Span) → prolonged last (front ++ s ∷ []) ≡ front ++ record { first = s.first; last = last } ∷ []
unfolding prolonged
prolonged-append last [] s = refl
prolonged-append last (t ∷ []) s = refl
prolonged-append last (t ∷ t' ∷ ts) s = ap (λ (xs : List Span). t ∷ xs) (prolonged-append last (t' ∷ ts) s)

-- a first box that ended, and one that did not
pub without_ended-past : (now : ℕ) (s : Span) (ss : List Span) → s.last < now → without_ended now (s ∷ ss) ≡ ss
unfolding without_ended
without_ended-past now s ss h = grind (arith, nat_tests)

pub without_ended-lasting : (now : ℕ) (s : Span) (ss : List Span) → now ≤ s.last → without_ended now (s ∷ ss) ≡ s ∷ ss
unfolding without_ended
without_ended-lasting now s ss h = grind (arith, nat_tests)

pub without_ended-none : (now : ℕ) → without_ended now [] ≡ []
unfolding without_ended
without_ended-none now = refl

-- to start right after a time at the latest
pub starts_by : (first last : ℕ) → nat_le (first - 1) last ≡ nat_le first (last + 1)
starts_by first last = grind (arith, nat_tests)
