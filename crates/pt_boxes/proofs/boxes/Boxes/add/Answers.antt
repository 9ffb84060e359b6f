use Rattle.std.proofs.Common.{◌≡◌, true, arith, sym, ◌∙◌}
use Rattle.pt_boxes.specs.Boxes.{kept}
use Rattle.pt_boxes.specs.Spans.{meets}
use Rattle.pt_boxes.proofs.Rings.{length-kept}
use Rattle.pt_boxes.proofs.Stretches.{meets_some}
use Rattle.pt_boxes.proofs.boxes.Boxes.add.Goals as goal

pub prolong-requires-clause-some_box : goal.prolong-requires-clause-some_box
prolong-requires-clause-some_box c =
    let met : meets c.args.stretch.first (kept c.args.self.now c.args.spans.now) ≡ true = sym c.meets.ensures.meets ∙ c.if-meets.true in
    omega (arith, meets_some _ _ met, length-kept c.args.self.now c.args.spans.now c.requires.belongs)
