use Rattle.std.proofs.Common.{◌∙◌}
use Rattle.sparse_feed.proofs.Digits.{digits_utf8, parsed}
use Rattle.sparse_feed.proofs.stamp.number_of.Goals as goal

pub unreachable-requires : goal.unreachable-requires
unreachable-requires c = c.in-Err.ensures.cases.0 (digits_utf8 c.args.digits.now c.requires.alone)

pub returns : goal.returns
returns c = c.ok.ensures.value ∙ parsed c.args.digits.now c.parse.result (rw c.in-Ok.ensures.cases.0 at c.parse.ensures.value.0) c.requires.alone c.requires.some
