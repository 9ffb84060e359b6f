-- The room of lists: it is at least their length, stays while it isn't full, and is at most an eighth above.

use Rattle.std.proofs.Common.{◌≡◌, ◌+◌, ◌*◌, ◌/◌, ◌<◌, ◌≤◌, ℕ, zero, suc, refl, arith}
use Rattle.std.proofs.lemmas.Bool.Decides.{nat_tests}
use Rattle.mltl_base.specs.Room.{room, room_by}

-- an empty list has no block
pub none : room 0 ≡ 0
unfolding room_by
none = refl

pub enough : (halvings n : ℕ) → n ≤ room_by halvings n
unfolding room_by
enough zero n = omega arith
enough (suc halvings) n = grind (arith, nat_tests, enough halvings ((n + 1) / 2))

-- where room is left, one more member needs no other block
pub stays : (halvings n : ℕ) → n < room_by halvings n → room_by halvings (n + 1) ≡ room_by halvings n
unfolding room_by
stays zero n h = absurd (omega arith)
stays (suc halvings) n h = grind (arith, nat_tests, stays halvings ((n + 1) / 2))

-- a short list has room for its members alone
pub short : (halvings n : ℕ) → n < 16 → room_by halvings n ≡ n
unfolding room_by
short zero n h = refl
short (suc halvings) n h = grind (arith, nat_tests)

-- a list of nine members or more has less than an eighth more room
eighth : (halvings n : ℕ) → 9 ≤ n → 8 * room_by halvings n + 9 ≤ 9 * n
unfolding room_by
eighth zero n h = omega arith
eighth (suc halvings) n h = grind (arith, nat_tests, eighth halvings ((n + 1) / 2), short halvings ((n + 1) / 2))

pub close : (halvings n : ℕ) → 8 * room_by halvings n ≤ 9 * n
close halvings n = grind (arith, short halvings n, eighth halvings n)
