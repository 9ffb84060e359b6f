use Rattle.std.proofs.Common.{arith}
use Rattle.std.proofs.lemmas.Int.{ints}
use Rattle.mltl_base.specs.Ranges.{summed}
use Rattle.mltl_base.proofs.range.sum.Goals as goal

pub returns : goal.returns
returns c = c.in_word.ensures (summed c.args.a c.args.b) (omega (arith, ints)) (omega (arith, ints))
