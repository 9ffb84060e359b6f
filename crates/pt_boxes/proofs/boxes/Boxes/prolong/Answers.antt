use Rattle.std.proofs.Common.{◌≡◌, ℕ, ◌-◌, List, [], ◌∷◌, ◌++◌, get_or, set, arith, ap, sym, ◌∙◌}
use Rattle.scq_ring.specs.Runs.{window, ring_index_of}
use Rattle.scq_ring.proofs.Windows.{window_after_change}
use Rattle.pt_boxes.specs.declared.boxes.Span.{Span}
use Rattle.pt_boxes.specs.Boxes.{kept}
use Rattle.pt_boxes.specs.Spans.{prolonged}
use Rattle.pt_boxes.proofs.Rings.{kept_newest}
use Rattle.pt_boxes.proofs.Stretches.{no_span, prolonged-append}
use Rattle.pt_boxes.proofs.boxes.Boxes.prolong.Goals as goal

pub returns-clause-prolonged : goal.returns-clause-prolonged
returns-clause-prolonged c =
    let boxes = c.args.self.now in
    let spans : List Span = c.args.spans.now in
    let j : ℕ = c.ring_index-newest.result in
    let front : List Span = window boxes.oldest (boxes.used - 1) spans in
    let newest : Span = get_or spans j no_span in
    let new : Span = record { first = newest.first; last = c.args.last } in
    let b = c.requires.belongs in
    let used_in = b.used_in in
    let j_is : j ≡ ring_index_of boxes.oldest (boxes.used - 1) _ = c.ring_index-newest.ensures.ring_index in
    let e : kept boxes spans ≡ front ++ newest ∷ [] =
    kept_newest boxes spans b c.requires.some_box ∙ ap (λ (k : ℕ). front ++ get_or spans k no_span ∷ []) (sym j_is) in
    ap (λ (k : ℕ). window boxes.oldest boxes.used (set spans k new)) j_is
    ∙ window_after_change boxes.oldest boxes.used spans (b.oldest_in (omega (arith, c.requires.some_box))) b.used_in c.requires.some_box new
    ∙ sym (ap (λ (xs : List Span). prolonged c.args.last xs) e ∙ prolonged-append c.args.last front newest)
