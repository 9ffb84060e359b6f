use Rattle.std.proofs.Common.{◌≡◌, ℕ, ◌-◌, ◌<◌, ◌≤◌, List, ◌∷◌, get_or, arith, ap, sym, ◌∙◌}
use Rattle.scq_ring.specs.Runs.{window}
use Rattle.pt_boxes.specs.declared.boxes.Span.{Span}
use Rattle.pt_boxes.specs.Boxes.{kept}
use Rattle.pt_boxes.specs.Spans.{without_ended}
use Rattle.pt_boxes.proofs.Rings.{kept_first, none_kept}
use Rattle.pt_boxes.proofs.Stretches.{no_span, without_ended-lasting, without_ended-none, without_ended-past}
use Rattle.pt_boxes.proofs.boxes.Boxes.let_ended_go.Goals as goal
use Rattle.pt_boxes.proofs.boxes.Boxes.let_ended_go.Goals.{else-self-gt0-via-then-self-gt0+else-spans-self, else-self-gt0-via-else-self-gt0}

pub returns-then-spans-self-clause-rest : goal.returns-then-spans-self-clause-rest
returns-then-spans-self-clause-rest c =
    let boxes = c.args.self.now in
    let spans : List Span = c.args.spans.now in
    let first : Span = get_or spans boxes.oldest no_span in
    let rest : List Span = window c.ring_index-self.result (boxes.used - 1) spans in
    let ended : first.last < c.args.now = c.if-spans-self.true in
    let e : kept boxes spans ≡ first ∷ rest =
    kept_first boxes spans c.requires.belongs c.if-self-gt0.true ∙ ap (λ (j : ℕ). first ∷ window j (boxes.used - 1) spans) (sym c.ring_index-self.ensures.ring_index) in
    sym (ap (λ (xs : List Span). without_ended c.args.now xs) e ∙ without_ended-past c.args.now first rest ended)

pub returns-else-self-gt0-clause-rest : goal.returns-else-self-gt0-clause-rest
returns-else-self-gt0-clause-rest c =
    let boxes = c.args.self.now in
    let spans : List Span = c.args.spans.now in
    let first : Span = get_or spans boxes.oldest no_span in
    elim c.else-self-gt0.branch [
      | else-self-gt0-via-then-self-gt0+else-spans-self w ↦
          let lasts : c.args.now ≤ first.last = omega (arith, w.if-spans-self.false) in
          let e = kept_first boxes spans c.requires.belongs w.if-self-gt0.true in
          e ∙ sym (ap (λ (xs : List Span). without_ended c.args.now xs) e ∙ without_ended-lasting c.args.now first _ lasts)
      | else-self-gt0-via-else-self-gt0 w ↦
          let e = none_kept boxes spans (omega (arith, w.if-self-gt0.false)) in
          e ∙ sym (ap (λ (xs : List Span). without_ended c.args.now xs) e ∙ without_ended-none c.args.now)
    ]
