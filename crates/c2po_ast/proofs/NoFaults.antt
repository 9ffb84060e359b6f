-- What has no fault, and operands of what has none.

use Rattle.std.proofs.Common.{◌≡◌, ℤ, Option, Some, None, Ok, Err, refl}
use Rattle.mltl_base.specs.Ranges.{NoRange, Range, Ranged, over, over_both, over_divisor}
use Rattle.c2po_ast.specs.Faults.{why_none, or_later}

-- neither of two faults
pub neither : (a b : Option NoRange) → or_later a b ≡ None → (a ≡ None) × (b ≡ None)
neither None b h = (refl, h)
neither (Some why) b h = absurd (cc)

-- the operand of a whole number that has a range has one
pub over_none : (f : Range → Range) (r : Ranged) → why_none (over f r) ≡ None → why_none r ≡ None
over_none f (Ok r) h = refl
over_none f (Err why) h = h

-- both operands have
pub both_none : (f : Range → Range → Range) (r s : Ranged) → why_none (over_both f r s) ≡ None → (why_none r ≡ None) × (why_none s ≡ None)
both_none f (Ok r) (Ok s) h = (refl, refl)
both_none f (Ok r) (Err why) h = (refl, h)
both_none f (Err why) s h = absurd (cc)

-- dividend and divisor have
pub divisor_none : (f : Range → ℤ → Range) (r s : Ranged) → why_none (over_divisor f r s) ≡ None → (why_none r ≡ None) × (why_none s ≡ None)
divisor_none f (Ok r) (Ok s) h = (refl, refl)
divisor_none f (Ok r) (Err why) h = (refl, h)
divisor_none f (Err why) s h = absurd (cc)
