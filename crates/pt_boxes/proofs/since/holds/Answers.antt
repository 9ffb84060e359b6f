use Rattle.std.proofs.Common.{sym, ◌∙◌}
use Rattle.pt_boxes.specs.Boxes.{kept}
use Rattle.pt_boxes.proofs.Covering.{in_some_first}
use Rattle.pt_boxes.proofs.since.holds.Goals as goal

pub returns-in-Some : goal.returns-in-Some
returns-in-Some c =
    let found = sym c.oldest.ensures.oldest ∙ c.in-Some.is in
    record { holds = in_some_first c.args.window c.args.now (kept c.args.boxes.now c.args.spans.now) c.in-Some.oldest c.requires.apart found }
