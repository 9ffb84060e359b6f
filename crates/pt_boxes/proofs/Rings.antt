-- The boxes that a ring holds, by its first and its newest one.
use Rattle.std.proofs.Common.{◌≡◌, ℕ, ◌-◌, ◌<◌, List, [], ◌∷◌, ◌++◌, length, get_or, arith, ap, inl, inr}
use Rattle.std.proofs.lemmas.Bool.{cases_lt}
use Rattle.scq_ring.specs.Runs.{window, ring_index_of}
use Rattle.scq_ring.proofs.Windows.{window_before_pop, window_last, length-window}
use Rattle.pt_boxes.specs.declared.boxes.Boxes.{Boxes}
use Rattle.pt_boxes.specs.declared.boxes.Span.{Span}
use Rattle.pt_boxes.specs.Boxes.{SpansOf, kept}
use Rattle.pt_boxes.proofs.Stretches.{no_span}

pub none_kept : (boxes : Boxes) (spans : List Span) → boxes.used ≡ 0 → kept boxes spans ≡ []
none_kept boxes spans none = ap (λ (n : ℕ). window boxes.oldest n spans) none

module _ (boxes : Boxes) (spans : List Span) (b : SpansOf boxes spans) where
  pub length-kept : length (kept boxes spans) ≡ boxes.used
  length-kept = elim (cases_lt 0 boxes.used) [
    | inl some ↦ length-window boxes.oldest boxes.used spans (b.oldest_in (omega (arith, b.used_in))) b.used_in
    | inr none ↦ omega (arith, ap (λ (xs : List Span). length xs) (none_kept boxes spans (omega arith)))
  ]

  pub kept_first : 0 < boxes.used → kept boxes spans ≡ get_or spans boxes.oldest no_span ∷ window (ring_index_of boxes.oldest 1 (length spans)) (boxes.used - 1) spans
  kept_first some = window_before_pop boxes.oldest boxes.used spans (b.oldest_in (omega (arith, b.used_in))) b.used_in no_span some

  pub kept_newest : 0 < boxes.used → kept boxes spans ≡ window boxes.oldest (boxes.used - 1) spans ++ get_or spans (ring_index_of boxes.oldest (boxes.used - 1) (length spans)) no_span ∷ []
  kept_newest some = window_last boxes.oldest boxes.used spans (b.oldest_in (omega (arith, b.used_in))) b.used_in some no_span
