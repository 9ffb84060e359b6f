-- A row fits a program exactly where it is as wide, and each of its columns can hold its number.

use Rattle.std.proofs.Common.{◌≡◌, inl, inr, ℕ, ◌+◌, ◌<◌, ℤ, pos, Bool, true, false, Option, None, Some, List, length, get_or, refl, ap, arith, sym, subst, ◌∙◌, eq-eqb}
use Rattle.std.specs.Prelude.{FitsSigned, MatchOption, if◌then◌else◌}
use Rattle.std.specs.Int.{w32}
use Rattle.std.specs.List.{list_any}
use Rattle.std.proofs.lemmas.Bool.{cases_lt}
use Rattle.std.proofs.lemmas.List.{get_or_past}
use Rattle.std.proofs.lemmas.List.Folds.{Any-from_list_any, list_any_at}
use Rattle.mltl_base.specs.declared.operators.BzOp.{BzOp}
use Rattle.mltl_base.specs.declared.operators.BzOp.TheVariants.{Column, IsTrue}
use Rattle.mltl_base.specs.declared.program.Program.{Program}
use Rattle.mltl_base.specs.Atoms.{Row, in_column}
use Rattle.mltl_base.specs.Programs.{FitsRow, IsFit}
use Rattle.trace_feed.specs.declared.fields.Reading.{Reading}
use Rattle.trace_feed.specs.declared.fields.Reading.TheVariants.{Unread, Whole, Truth}
use Rattle.trace_feed.specs.Rows.{reading_of, reads_truth, reads_whole}
use Rattle.trace_feed.specs.Readings.{AreReadings, readings_of}
use Rattle.trace_feed.proofs.FieldLaws.{fits_from_has}
use Rattle.trace_feed.proofs.ReadingLaws.{are_readings_of, length-readings_of}
use Rattle.r2u2_monitor.specs.declared.row_fault.RowFault.{RowFault}
use Rattle.r2u2_monitor.specs.declared.row_fault.RowFault.TheVariants.{ReportsLeft, NotARow, TooManyRows}
use Rattle.r2u2_monitor.specs.declared.state.State.{State}
use Rattle.r2u2_monitor.specs.RowFaults.{CanHold, FitsColumn, IsFirstUnfit, IsReady, IsRowCause, IsUnfitAt}

-- what a column can hold, by whether it is read as a truth and as a whole number
held_as : (n : ℤ) (truth whole : Bool) → (truth ≡ true → CanHold Truth n) → (whole ≡ true → CanHold Whole n)
    → CanHold (if truth then Truth else if whole then Whole else Unread) n
held_as n true whole as_truth as_whole = as_truth refl
held_as n false true as_truth as_whole = as_whole refl
held_as n false false as_truth as_whole = tt

-- one that is read as a truth has 0 or 1
truth_held : (n : ℤ) (truth whole : Bool) → truth ≡ true → CanHold (if truth then Truth else if whole then Whole else Unread) n → CanHold Truth n
truth_held n true whole reads held = held
truth_held n false whole reads held = absurd (cc)

-- 0 and 1 have 32 bits
bit_fits : (n : ℤ) → CanHold Truth n → CanHold Whole n
bit_fits n (inl zero) = subst (FitsSigned w32) (sym zero) (fits_from_has (pos 0) refl)
bit_fits n (inr one) = subst (FitsSigned w32) (sym one) (fits_from_has (pos 1) refl)

-- one that is read as a whole number has 32 bits
whole_held : (n : ℤ) (truth whole : Bool) → whole ≡ true → CanHold (if truth then Truth else if whole then Whole else Unread) n → CanHold Whole n
whole_held n true whole reads held = bit_fits n held
whole_held n false true reads held = held
whole_held n false false reads held = absurd (cc)

-- what an instruction asks of the column that it reads
truth_asked : (row : Row) (c : ℕ) (op : BzOp) → reads_truth c op ≡ true → FitsRow row op → CanHold Truth (in_column row c)
truth_asked row c (IsTrue d) reads fits = let same : d ≡ c = grind arith in subst (λ (k : ℕ). CanHold Truth (in_column row k)) same fits
truth_asked row c op reads fits = absurd (cc)

whole_asked : (row : Row) (c : ℕ) (op : BzOp) → reads_whole c op ≡ true → FitsRow row op → CanHold Whole (in_column row c)
whole_asked row c (Column d) reads fits = let same : d ≡ c = grind arith in subst (λ (k : ℕ). CanHold Whole (in_column row k)) same fits
whole_asked row c op reads fits = absurd (cc)

-- each column of a row that fits can hold its number
pub column_fits : (program : Program) (row : Row) → IsFit program row → (c : ℕ) → FitsColumn (reading_of program.bz) row c
column_fits program row fit c =
    held_as (in_column row c) (list_any (reads_truth c) program.bz) (list_any (reads_whole c) program.bz)
    (λ reads. let found = Any-from_list_any (reads_truth c) program.bz reads in truth_asked row c found.1 found.4 (subst (FitsRow row) found.3 (fit.kinds found.0 found.1 found.2)))
    (λ reads. let found = Any-from_list_any (reads_whole c) program.bz reads in whole_asked row c found.1 found.4 (subst (FitsRow row) found.3 (fit.kinds found.0 found.1 found.2)))

-- so has what an instruction asks of a row whose columns can hold their numbers
op_fits : (ops : List BzOp) (row : Row) → ((c : ℕ) → c < length row → FitsColumn (reading_of ops) row c) → (i : ℕ) (d op : BzOp) → i < length ops → op ≡ get_or ops i d → FitsRow row op
op_fits ops row held i d (Column c) inside is =
    let reads : list_any (reads_whole c) ops ≡ true = list_any_at (reads_whole c) ops i d inside (ap (reads_whole c) (sym is) ∙ eq-eqb c c refl) in
    elim (cases_lt c (length row)) [
      | inl within ↦ whole_held (in_column row c) (list_any (reads_truth c) ops) (list_any (reads_whole c) ops) reads (held c within)
      | inr past ↦ subst (FitsSigned w32) (sym (get_or_past row c (pos 0) past)) (fits_from_has (pos 0) refl)
    ]
op_fits ops row held i d (IsTrue c) inside is =
    let reads : list_any (reads_truth c) ops ≡ true = list_any_at (reads_truth c) ops i d inside (ap (reads_truth c) (sym is) ∙ eq-eqb c c refl) in
    elim (cases_lt c (length row)) [
      | inl within ↦ truth_held (in_column row c) (list_any (reads_truth c) ops) (list_any (reads_whole c) ops) reads (held c within)
      | inr past ↦ inl (get_or_past row c (pos 0) past)
    ]
op_fits ops row held i d op inside is = tt

-- a row that is as wide as the program fits where each of its columns can hold its number
pub fit_from_columns : (program : Program) (row : Row) → length row ≡ program.width → ((c : ℕ) → c < length row → FitsColumn (reading_of program.bz) row c) → IsFit program row
fit_from_columns program row wide held = record {
  width = wide;
  kinds = λ i d inside. op_fits program.bz row held i d (get_or program.bz i d) inside refl;
}

-- one more column can hold its number
pub one_more_fits : (reading : ℕ → Reading) (row : Row) (c : ℕ) → ((k : ℕ) → k < c → FitsColumn reading row k) → FitsColumn reading row c → (k : ℕ) → k < c + 1 → FitsColumn reading row k
one_more_fits reading row c before here k within =
    elim (cases_lt k c) [
      | inl earlier ↦ before k earlier
      | inr late ↦ let same : c ≡ k = omega (arith, within, late) in subst (FitsColumn reading row) same here
    ]

-- the first column of all that can't hold its number, in a row that is as wide as the program
pub unfit_there : (program : Program) (row : Row) (found : Option ℕ) → length row ≡ program.width
    → MatchOption found ((c : ℕ) → c < length row → FitsColumn (reading_of program.bz) row c) (λ column. IsFirstUnfit (reading_of program.bz) row column)
    → MatchOption found (IsFit program row) (λ column. IsUnfitAt program row column)
unfit_there program row None wide held = fit_from_columns program row wide held
unfit_there program row (Some column) wide first = record {
  unfit = λ fit. first.unfit (column_fits program row fit column);
  few = λ short. absurd (omega (arith, short, wide));
  many = λ long. absurd (omega (arith, long, wide));
  first = λ _. first;
}

-- where the numbers are too few
pub too_few : (program : Program) (row : Row) → length row < program.width → IsUnfitAt program row (length row)
too_few program row short = record {
  unfit = λ fit. absurd (omega (arith, short, fit.width));
  few = λ _. refl;
  many = λ long. absurd (omega (arith, short, long));
  first = λ wide. absurd (omega (arith, short, wide));
}

-- and where they are too many
pub too_many : (program : Program) (row : Row) (width : ℕ) → width ≡ program.width → program.width < length row → IsUnfitAt program row width
too_many program row width is long = record {
  unfit = λ fit. absurd (omega (arith, long, fit.width));
  few = λ short. absurd (omega (arith, short, long));
  many = λ _. is;
  first = λ wide. absurd (omega (arith, long, wide));
}

-- the readings of a program, as many as it has columns
pub one_each_of : (program : Program) (readings : List Reading) → readings ≡ readings_of program → length readings ≡ program.width
one_each_of program readings is = ap (λ (rs : List Reading). length rs) is ∙ length-readings_of program

pub are_readings : (program : Program) (readings : List Reading) → readings ≡ readings_of program → AreReadings (reading_of program.bz) readings
are_readings program readings is = subst (AreReadings (reading_of program.bz)) (sym is) (are_readings_of program)

-- where a cause stands against a row, the monitor isn't ready for it
pub unready : (fault : RowFault) (monitor : State) (row : Row) → IsRowCause fault monitor row → IsReady monitor row → ⊥
unready ReportsLeft monitor row cause ready = cause ready.drained
unready (NotARow column) monitor row cause ready = cause.1.unfit ready.fit
unready TooManyRows monitor row cause ready = omega (arith, ready.early, cause.2)
