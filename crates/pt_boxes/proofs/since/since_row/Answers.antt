use Rattle.std.proofs.Common.{List}
use Rattle.pt_boxes.specs.declared.boxes.Span.{Span}
use Rattle.pt_boxes.specs.Boxes.{kept}
use Rattle.pt_boxes.proofs.Covering.{tells_more}
use Rattle.pt_boxes.proofs.since.since_row.Goals as goal

pub returns-clause-told : goal.returns-clause-told
returns-clause-told g c =
    let old : List Span = kept c.args.boxes.now c.args.spans.now in
    tells_more c.args.window c.args.now old _ _ c.args.left c.args.right c.requires.ordered (c.age.ensures.apart c.args.window c.requires.kept.apart) c.age.ensures.rest c.open.ensures.opened
