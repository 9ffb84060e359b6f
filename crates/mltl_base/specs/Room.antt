-- The number of members that the block of a list has room for.
-- A reader of the contracts needs this file.

use Rattle.std.specs.Prelude.{ℕ, zero, suc, ◌+◌, ◌*◌, ◌/◌, nat_lt, if◌then◌else◌}

-- n below 16; from there on twice the room for half of n, rounded up, with at most this many halvings
unfoldable pub room_by : ℕ → ℕ → ℕ
room_by zero n = n
room_by (suc halvings) n = if nat_lt n 16 then n else 2 * room_by halvings ((n + 1) / 2)

-- The members that a list of n members has room for: n below 16, and from there on n rounded up to a number whose binary
-- digits after the first four are 0. It depends on n alone, and is at most an eighth above n.
abbrev pub room : ℕ → ℕ
room n = room_by 60 n
