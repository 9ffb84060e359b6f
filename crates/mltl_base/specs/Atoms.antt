-- Whole-number expressions and atoms, and their values on one row.
-- A reader of the contracts needs this file.

use Rattle.std.specs.Prelude.{ℕ, ℤ, pos, neg_ℤ, ◌+ℤ◌, ◌-ℤ◌, ◌*ℤ◌, int_div, int_rem, int_lt, int_le, Bool, not, List}
use Rattle.std.specs.Prelude.{slice_index_or, slice_index}
use Rattle.std.specs.Ordering.{int_eq}

-- a row: one integer for each column
abbrev pub Row : Type 0
Row = List ℤ

-- a whole-number expression, over columns
pub data Term : Type 0 where
  column : ℕ → Term
  constant : ℤ → Term
  negative : Term → Term
  plus : Term → Term → Term
  minus : Term → Term → Term
  times : Term → Term → Term
  quotient : Term → Term → Term
  remainder : Term → Term → Term

-- an atom: the Boolean in a column, or a comparison of two expressions
pub data Atom : Type 0 where
  is_true : ℕ → Atom
  equal : Term → Term → Atom
  less : Term → Term → Atom
  at_most : Term → Term → Atom
  different : Term → Term → Atom
  greater : Term → Term → Atom
  at_least : Term → Term → Atom

-- the integer in a column of a row; 0 if the row has no such column
abbrev pub in_column : Row → ℕ → ℤ
in_column row c = slice_index_or row c (pos 0)

-- the value of an expression on a row: quotient and remainder truncate toward zero
unfoldable pub value : Term → Row → ℤ
value (column c) row = in_column row c
value (constant n) row = n
value (negative a) row = neg_ℤ (value a row)
value (plus a b) row = value a row +ℤ value b row
value (minus a b) row = value a row -ℤ value b row
value (times a b) row = value a row *ℤ value b row
value (quotient a b) row = int_div (value a row) (value b row)
value (remainder a b) row = int_rem (value a row) (value b row)

-- true if the atom holds on the row
unfoldable pub holds : Atom → Row → Bool
holds (is_true c) row = int_eq (in_column row c) (pos 1)
holds (equal a b) row = int_eq (value a row) (value b row)
holds (less a b) row = int_lt (value a row) (value b row)
holds (at_most a b) row = int_le (value a row) (value b row)
holds (different a b) row = not (int_eq (value a row) (value b row))
holds (greater a b) row = int_lt (value b row) (value a row)
holds (at_least a b) row = int_le (value b row) (value a row)

-- the expression with each signal's number replaced by the signal's column
unfoldable pub term_over : List ℕ → Term → Term
term_over columns (column s) = column (slice_index columns s)
term_over columns (constant n) = constant n
term_over columns (negative a) = negative (term_over columns a)
term_over columns (plus a b) = plus (term_over columns a) (term_over columns b)
term_over columns (minus a b) = minus (term_over columns a) (term_over columns b)
term_over columns (times a b) = times (term_over columns a) (term_over columns b)
term_over columns (quotient a b) = quotient (term_over columns a) (term_over columns b)
term_over columns (remainder a b) = remainder (term_over columns a) (term_over columns b)

-- the atom with each signal's number replaced by the signal's column
unfoldable pub atom_over : List ℕ → Atom → Atom
atom_over columns (is_true s) = is_true (slice_index columns s)
atom_over columns (equal a b) = equal (term_over columns a) (term_over columns b)
atom_over columns (less a b) = less (term_over columns a) (term_over columns b)
atom_over columns (at_most a b) = at_most (term_over columns a) (term_over columns b)
atom_over columns (different a b) = different (term_over columns a) (term_over columns b)
atom_over columns (greater a b) = greater (term_over columns a) (term_over columns b)
atom_over columns (at_least a b) = at_least (term_over columns a) (term_over columns b)
