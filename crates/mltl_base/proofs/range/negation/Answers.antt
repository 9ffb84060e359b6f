use Rattle.std.proofs.Common.{arith}
use Rattle.std.proofs.lemmas.Int.{ints}
use Rattle.mltl_base.specs.Ranges.{negated}
use Rattle.mltl_base.proofs.range.negation.Goals as goal

pub returns : goal.returns
returns c = c.in_word.ensures (negated c.args.a) (omega (arith, ints)) (omega (arith, ints))
