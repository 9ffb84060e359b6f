use Rattle.std.proofs.Common.{ℕ, ◌+◌, List, set, arith, ap, ◌∙◌}
use Rattle.scq_ring.specs.Runs.{window}
use Rattle.scq_ring.proofs.Windows.{window_after_push}
use Rattle.pt_boxes.specs.declared.boxes.Span.{Span}
use Rattle.pt_boxes.proofs.boxes.Boxes.push.Goals as goal

pub returns-clause-pushed : goal.returns-clause-pushed
returns-clause-pushed c =
    let boxes = c.args.self.now in
    let spans : List Span = c.args.spans.now in
    let b = c.requires.belongs in
    ap (λ (j : ℕ). window boxes.oldest (boxes.used + 1) (set spans j c.args.stretch)) c.ring_index.ensures.ring_index
    ∙ window_after_push boxes.oldest boxes.used spans (b.oldest_in (omega (arith, c.requires.room))) b.used_in c.args.stretch c.requires.room
