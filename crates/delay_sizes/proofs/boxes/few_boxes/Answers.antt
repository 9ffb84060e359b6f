use Rattle.std.proofs.Common.{ℕ, ◌+◌, ◌-◌, ◌*◌, ◌/◌, ◌<◌, ◌≤◌, List, [], ◌∷◌, length, arith}
use Rattle.std.proofs.Math.Nat.{le-div_iff_mul-le}
use Rattle.mltl_base.specs.Queues.{AreApart, boxes}
use Rattle.mltl_base.specs.declared.interval.Interval.{Interval}
use Rattle.delay_sizes.proofs.BoxLaws.{spread}
use Rattle.delay_sizes.proofs.boxes.few_boxes.Goals as goal

few : (i : Interval) (low : ℕ) (ends : List ℕ) → i.lo ≤ i.hi → AreApart (i.hi - i.lo + 2) low (low + i.hi) ends → length ends ≤ boxes i
few i low [] ordered apart = omega arith
few i low (t ∷ ts) ordered apart =
    let room : low + (i.hi - i.lo + 2) * length ts ≤ low + i.hi = spread (i.hi - i.lo + 2) low (low + i.hi) t ts apart in
    let some : 0 < i.hi - i.lo + 2 = omega arith in
    let product : length ts * (i.hi - i.lo + 2) ≤ i.hi = omega (arith, room) in
    let fits : length ts ≤ i.hi / (i.hi - i.lo + 2) = (le-div_iff_mul-le some).1 product in
    omega (arith, fits)

pub returns : goal.returns
returns c = few
