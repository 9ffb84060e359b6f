use Rattle.std.proofs.Common.{arith}
use Rattle.std.proofs.Math.Facts.{to_z-of_z}
use Rattle.mltl_base.specs.Ranges.{divided}
use Rattle.mltl_base.proofs.range.quotient.Goals as goal

pub returns-then-least-greatest : goal.returns-then-least-greatest
returns-then-least-greatest c =
    let one = c.in_ok-divisor.ensures.one in
    rw one.0 (c.in_word.ensures (divided c.args.a c.args.b.least) (grind (arith, to_z-of_z)) (grind (arith, to_z-of_z)))

pub returns : goal.returns
returns c =
    let one = c.in_ok-divisor.ensures.one in
    rw one.0 (c.in_word-2.ensures (divided c.args.a c.args.b.least) (grind (arith, to_z-of_z)) (grind (arith, to_z-of_z)))
