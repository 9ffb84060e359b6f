-- The time at the start of a line of a stamped trace.

use Rattle.std.specs.Prelude.{ℕ, ◌-◌, ◌+◌, ◌==◌, min, Bool, true, ◌&&◌, if◌then◌else◌, nat_lt, nat_le, Option, Some}
use Rattle.std.specs.Prelude.{None, List, [], ◌∷◌, length, take, drop, slice_index, ⊤}
use Rattle.std.specs.Char.{is_ascii_digit}
use Rattle.std.specs.List.{prefix_len}
use Rattle.std.specs.Str.Parse.{digits_value}
use Rattle.mltl_base.specs.Blanks.{is_blank_line}
use Rattle.sparse_feed.specs.declared.stamp.Stamp.{Stamp}
use Rattle.sparse_feed.specs.declared.stamp.Stamp.TheVariants.{At, Blank, Bad, Order, Late}

-- the digits at the start of a text, as many as there are
abbrev pub digits_at_front : List ℕ → List ℕ
digits_at_front text = take (prefix_len is_ascii_digit text) text

-- the text after the digits at its start
abbrev pub after_digits : List ℕ → List ℕ
after_digits text = drop (prefix_len is_ascii_digit text) text

-- true if a stamp ends here: at a comma or with its line
abbrev pub ends_stamp : List ℕ → Bool
ends_stamp [] = true
ends_stamp (byte ∷ bytes) = byte == 44

-- true if the line begins with a stamp: the sign `@`, one or more digits, and then a comma or the line's end
abbrev pub has_stamp : List ℕ → Bool
has_stamp line =
    (slice_index line 0 == 64) && (nat_lt 0 (prefix_len is_ascii_digit (drop 1 line))
    && ends_stamp (after_digits (drop 1 line)))

-- the digits of a stamp
unfoldable pub stamp_digits : List ℕ → List ℕ
stamp_digits line = digits_at_front (drop 1 line)

-- the time that a stamp's digits write
abbrev pub time_of : List ℕ → ℕ
time_of line = digits_value 10 (stamp_digits line)

-- the place after the stamp and its comma, or the line's length if it has no comma
abbrev pub after_stamp : List ℕ → ℕ
after_stamp line = min (length line) (length (stamp_digits line) + 2)

-- true if the first time is 0, or a later time is above the time before it
abbrev pub may_follow : Option ℕ → ℕ → Bool
may_follow None time = time == 0
may_follow (Some last) time = nat_lt last time

-- the result for a time, by the time before it and the mission time
abbrev pub timed : Option ℕ → ℕ → ℕ → ℕ → Stamp
timed last mission place time =
    if may_follow last time then (if nat_le mission time then Late else At time place) else Order

-- the result for a line: nothing, a fault in the order of faults, or its time and the place after its stamp
abbrev pub stamp_meaning : List ℕ → Option ℕ → ℕ → Stamp
stamp_meaning line last mission =
    if is_blank_line line then Blank
    else if has_stamp line then timed last mission (after_stamp line) (time_of line)
    else Bad

-- P holds of the line's time and place, if it has them
abbrev pub IfAt : Stamp → (ℕ → ℕ → Type 0) → Type 0
IfAt (At time place) P = P time place
IfAt Blank P = ⊤
IfAt Bad P = ⊤
IfAt Order P = ⊤
IfAt Late P = ⊤

-- the number of times between a time and the one before it; 0 for the first time
abbrev pub times_between : Option ℕ → ℕ → ℕ
times_between None time = 0
times_between (Some last) time = time - (last + 1)

-- the number, if it has 64 bits
abbrev pub in_64_bits : ℕ → Option ℕ
in_64_bits n = if nat_lt n 18446744073709551616 then Some n else None
