use Rattle.std.proofs.Common.{◌≡◌, ◌-◌, arith, true, false}
use Rattle.std.specs.Prelude.{pos, neg_ℤ, int_le, unsigned_abs}
use Rattle.std.proofs.lemmas.Int.{ints}
use Rattle.std.proofs.Math.Facts.{to_z-of_z}
use Rattle.mltl_base.specs.Ranges.{range_from}
use Rattle.mltl_base.proofs.range.remainder.Goals as goal

pub returns-then-greatest-le0 : goal.returns-then-greatest-le0
returns-then-greatest-le0 c =
    let one = c.in_ok-divisor_of.ensures.one in
    let below : int_le (pos 0) c.args.a.least ≡ false = grind (arith, to_z-of_z, c.if-least-ge0.false) in
    let none : int_le c.args.a.greatest (pos 0) ≡ true = grind (arith, to_z-of_z) in
    rw (one.0, below, none)
    (c.in_word-then-greatest-le0.ensures (range_from (neg_ℤ (pos (unsigned_abs c.args.b.least - 1))) (pos 0)) (omega (arith, ints)) (omega (arith, ints)))

pub returns-else-greatest-le0 : goal.returns-else-greatest-le0
returns-else-greatest-le0 c =
    let one = c.in_ok-divisor_of.ensures.one in
    let below : int_le (pos 0) c.args.a.least ≡ false = grind (arith, to_z-of_z) in
    let above : int_le c.args.a.greatest (pos 0) ≡ false = grind (arith, to_z-of_z) in
    let most = pos (unsigned_abs c.args.b.least - 1) in
    rw (one.0, below, above) (c.in_word-else-greatest-le0.ensures (range_from (neg_ℤ most) most) (omega (arith, ints)) (omega (arith, ints)))
