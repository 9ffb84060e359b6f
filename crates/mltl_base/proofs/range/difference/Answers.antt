use Rattle.std.proofs.Common.{arith}
use Rattle.std.proofs.lemmas.Int.{ints}
use Rattle.mltl_base.specs.Ranges.{lessened}
use Rattle.mltl_base.proofs.range.difference.Goals as goal

pub in_word-requires : goal.in_word-requires
in_word-requires c = omega (arith, ints)

pub returns : goal.returns
returns c = c.in_word.ensures (lessened c.args.a c.args.b) (omega (arith, ints)) (omega (arith, ints))
