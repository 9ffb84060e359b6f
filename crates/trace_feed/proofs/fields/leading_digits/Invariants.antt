use Rattle.std.proofs.Common.{◌≡◌, take}
use Rattle.std.specs.Str.Parse.{AllDigits, digits_value}
use Rattle.trace_feed.proofs.fields.leading_digits.Given as goal

-- the bytes so far are digits, which write the number so far
abbrev pub invariant-loop-i : goal.invariant-loop-i
invariant-loop-i l = record {
  digits : AllDigits 10 (take l.i l.bytes);
  number : l.number ≡ digits_value 10 (take l.i l.bytes);
}
