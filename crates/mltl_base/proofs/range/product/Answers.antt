use Rattle.std.proofs.Common.{arith}
use Rattle.std.proofs.lemmas.Int.{ints}
use Rattle.std.proofs.Math.Facts.{to_z-of_z}
use Rattle.mltl_base.specs.Ranges.{multiplied}
use Rattle.mltl_base.proofs.range.product.Goals as goal

pub in_word-requires : goal.in_word-requires
in_word-requires c = omega (arith, ints)

pub returns : goal.returns
returns c = c.in_word.ensures (multiplied c.args.a c.args.b) (grind (arith, to_z-of_z)) (grind (arith, to_z-of_z))
