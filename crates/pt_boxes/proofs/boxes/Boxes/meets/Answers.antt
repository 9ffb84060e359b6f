use Rattle.std.proofs.Common.{◌≡◌, ℕ, ◌-◌, List, [], ◌∷◌, ◌++◌, get_or, nat_le, arith, ap, sym, ◌∙◌}
use Rattle.std.proofs.lemmas.Bool.Decides.{nat_tests}
use Rattle.scq_ring.specs.Runs.{window}
use Rattle.pt_boxes.specs.declared.boxes.Span.{Span}
use Rattle.pt_boxes.specs.Boxes.{kept}
use Rattle.pt_boxes.specs.Spans.{meets}
use Rattle.pt_boxes.proofs.Rings.{kept_newest, none_kept}
use Rattle.pt_boxes.proofs.Stretches.{meets-append, no_span, starts_by}
use Rattle.pt_boxes.proofs.boxes.Boxes.meets.Goals as goal

pub returns-then-self-gt0 : goal.returns-then-self-gt0
returns-then-self-gt0 c =
    let boxes = c.args.self.now in
    let spans : List Span = c.args.spans.now in
    let first : ℕ = c.args.first in
    let front : List Span = window boxes.oldest (boxes.used - 1) spans in
    let newest : Span = get_or spans c.ring_index.result no_span in
    let e : kept boxes spans ≡ front ++ newest ∷ [] =
    kept_newest boxes spans c.requires.belongs c.if-self-gt0.true ∙ ap (λ (j : ℕ). front ++ get_or spans j no_span ∷ []) (sym c.ring_index.ensures.ring_index) in
    let before : c.saturating_sub.result ≡ first - 1 = c.saturating_sub.ensures in
    record { meets = ap (λ (k : ℕ). nat_le k newest.last) before ∙ starts_by first newest.last ∙ sym (ap (λ (xs : List Span). meets first xs) e ∙ meets-append first front newest) }

pub returns-else-self-gt0 : goal.returns-else-self-gt0
unfolding meets
returns-else-self-gt0 c =
    let e = none_kept c.args.self.now c.args.spans.now (omega (arith, c.if-self-gt0.false)) in
    record { meets = rw e (grind (arith, nat_tests)) }
