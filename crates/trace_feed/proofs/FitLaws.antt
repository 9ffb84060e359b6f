-- The row of a line fits the program.
use Rattle.std.proofs.Common.{◌≡◌, ◌<◌, ◌+◌, ◌⊎◌, inl, inr, ℕ, ℤ, pos, zero, suc, Bool, true, false, cond, List, [], ◌∷◌, length, take, get_or, Result, Ok, Err, refl, arith, sym, ◌∙◌, ap, eq-eqb, subst}
use Rattle.std.specs.Prelude.{FitsSigned, nat_lt}
use Rattle.std.specs.Int.{w32}
use Rattle.std.specs.List.{list_any}
use Rattle.std.specs.Str.Parse.{signed_digits_value}
use Rattle.std.proofs.lemmas.Bool.{cases_lt, ltb-false}
use Rattle.std.proofs.lemmas.Int.{ints}
use Rattle.std.proofs.lemmas.List.{get_or_past, length-take-le}
use Rattle.std.proofs.lemmas.List.Folds.{list_any_at}
use Rattle.mltl_base.specs.Atoms.{Row, in_column}
use Rattle.mltl_base.specs.Programs.{FitsRow, IsFit}
use Rattle.mltl_base.specs.declared.operators.BzOp.{BzOp}
use Rattle.mltl_base.specs.declared.operators.BzOp.TheVariants.{Column, IsTrue, Const}
use Rattle.mltl_base.specs.declared.program.Program.{Program}
use Rattle.mltl_base.specs.Blanks.{is_blank_line}
use Rattle.trace_columns.specs.Blanks.{trimmed}
use Rattle.trace_feed.specs.Readings.{fields_meaning}
use Rattle.trace_feed.specs.Rows.{IsMeaningOf, LineMeaning, row, blank, too_few, fields_of, has_32_bits, is_bit, is_numeral, field_before, line_meaning, field_number, reading_of, reads_truth, reads_whole, row_from, field_value}
use Rattle.trace_feed.specs.declared.fields.FieldFault.{FieldFault}
use Rattle.trace_feed.specs.declared.fields.FieldFault.TheVariants.{NotWhole, OutOfRange}
use Rattle.trace_feed.specs.declared.fields.Reading.{Reading}
use Rattle.trace_feed.specs.declared.fields.Reading.TheVariants.{Whole, Truth}
use Rattle.trace_feed.specs.declared.rows.RowAnswer as answer
use Rattle.trace_feed.proofs.FieldLaws.{bits_have, fits_from_has}

-- a line that isn't blank
meaning_fields : (program : Program) (line : List ℕ) → is_blank_line line ≡ false → line_meaning program line ≡ fields_meaning (reading_of program.bz) 0 program.width (fields_of line)
meaning_fields program line some = rw some refl

-- the values of fields that make a row
pub record HaveValues (reading : ℕ → Reading) (c : ℕ) (fields : List (List ℕ)) (values : Row) : Type 0 where
  pub size : length values ≡ length fields
  pub each : (k : ℕ) (d : ℤ) → k < length fields → field_value (reading (c + k)) (get_or fields k []) ≡ Ok (get_or values k d)

values_step : (reading : ℕ → Reading) (c : ℕ) (field : List ℕ) (fields : List (List ℕ)) (values : Row) (found : Result ℤ FieldFault) (m : LineMeaning)
    → field_value (reading c) field ≡ found → ((vs : Row) → m ≡ row vs → HaveValues reading (suc c) fields vs) → field_before c found m ≡ row values
    → HaveValues reading c (field ∷ fields) values
values_step reading c field fields values (Ok n) (row vs) is rest e =
    let h : HaveValues reading (suc c) fields vs = rest vs refl in
    let same : n ∷ vs ≡ values = cc in
    subst (HaveValues reading c (field ∷ fields)) same (record { size = ap suc h.size; each = each h })
  where
    each : HaveValues reading (suc c) fields vs → (k : ℕ) (d : ℤ) → k < length (field ∷ fields) → field_value (reading (c + k)) (get_or (field ∷ fields) k []) ≡ Ok (get_or (n ∷ vs) k d)
    each h zero d inside = let here : c + 0 ≡ c = omega arith in ap (λ k. field_value (reading k) field) here ∙ is
    each h (suc k) d inside = let there : c + suc k ≡ suc c + k = omega arith in ap (λ j. field_value (reading j) (get_or fields k [])) there ∙ h.each k d (omega arith)
values_step reading c field fields values (Err NotWhole) m is rest e = absurd (cc)
values_step reading c field fields values _ _ is rest e = absurd (cc)

pub have_values : (reading : ℕ → Reading) (c : ℕ) (fields : List (List ℕ)) (values : Row) → row_from reading c fields ≡ row values → HaveValues reading c fields values
unfolding row_from
have_values reading c [] values e =
    let same : [] ≡ values = cc in
    subst (HaveValues reading c []) same (record { size = refl; each = λ k d inside. absurd (omega arith) })
have_values reading c (field ∷ fields) values e =
    values_step reading c field fields values (field_value (reading c) field) (row_from reading (suc c) fields) refl (have_values reading (suc c) fields) e

-- a number that is found lies in its range
number_step : (range : ℤ → Bool) (m n : ℤ) (numeral has : Bool) → range m ≡ has → cond numeral (cond has (Ok m) (Err OutOfRange)) (Err NotWhole) ≡ Ok n → range n ≡ true
number_step range m n true true e h = let same : m ≡ n = cc in subst (λ k. range k ≡ true) same e
number_step range m n true false e h = absurd (cc)
number_step range m n false has e h = absurd (cc)

number_has : (range : ℤ → Bool) (field : List ℕ) (n : ℤ) → field_number range field ≡ Ok n → range n ≡ true
number_has range field n h = number_step range (signed_digits_value 10 field) n (is_numeral field) (range (signed_digits_value 10 field)) refl h

-- what a value fits, by how its column is read
truth_is : (n : ℤ) → is_bit n ≡ true → (n ≡ pos 0) ⊎ (n ≡ pos 1)
truth_is n h = grind (arith, ints)

value_truth : (ops : List BzOp) (c : ℕ) (field : List ℕ) (n : ℤ) → list_any (reads_truth c) ops ≡ true → field_value (reading_of ops c) field ≡ Ok n → (n ≡ pos 0) ⊎ (n ≡ pos 1)
value_truth ops c field n reads found = truth_is n (number_has is_bit (trimmed field) n (rw reads at found))

whole_step : (field : List ℕ) (n : ℤ) (truth : Bool) → field_value (cond truth Truth Whole) field ≡ Ok n → FitsSigned w32 n
whole_step field n true found = fits_from_has n (bits_have n (number_has is_bit (trimmed field) n found))
whole_step field n false found = fits_from_has n (number_has has_32_bits (trimmed field) n found)

value_whole : (ops : List BzOp) (c : ℕ) (field : List ℕ) (n : ℤ) → list_any (reads_whole c) ops ≡ true → field_value (reading_of ops c) field ≡ Ok n → FitsSigned w32 n
value_whole ops c field n reads found = whole_step field n (list_any (reads_truth c) ops) (rw reads at found)

fits_at : (ops : List BzOp) (fields : List (List ℕ)) (values : Row) → HaveValues (reading_of ops) 0 fields values → (c : ℕ) → (P : ℤ → Type 0) → P (pos 0) → ((field : List ℕ) (n : ℤ) → field_value (reading_of ops c) field ≡ Ok n → P n) → P (in_column values c)
fits_at ops fields values h c P none some =
    elim (cases_lt c (length fields)) [
      | inl inside ↦ some (get_or fields c []) (in_column values c) (ap (λ k. field_value (reading_of ops k) (get_or fields c [])) (zero_more c) ∙ h.each c (pos 0) inside)
      | inr past ↦ subst P (sym (get_or_past values c (pos 0) (omega (arith, h.size)))) none
    ]
  where
    zero_more : (k : ℕ) → k ≡ 0 + k
    zero_more k = omega arith

-- an instruction is met by the values of such fields
op_fits : (ops : List BzOp) (fields : List (List ℕ)) (values : Row) → HaveValues (reading_of ops) 0 fields values → (i : ℕ) (d op : BzOp) → i < length ops → op ≡ get_or ops i d → FitsRow values op
op_fits ops fields values h i d (Column c) inside is =
    let reads : list_any (reads_whole c) ops ≡ true = list_any_at (reads_whole c) ops i d inside (ap (reads_whole c) (sym is) ∙ eq-eqb c c refl) in
    fits_at ops fields values h c (FitsSigned w32) (fits_from_has (pos 0) refl) (λ field n found. value_whole ops c field n reads found)
op_fits ops fields values h i d (IsTrue c) inside is =
    let reads : list_any (reads_truth c) ops ≡ true = list_any_at (reads_truth c) ops i d inside (ap (reads_truth c) (sym is) ∙ eq-eqb c c refl) in
    fits_at ops fields values h c (λ n. (n ≡ pos 0) ⊎ (n ≡ pos 1)) (inl refl) (λ field n found. value_truth ops c field n reads found)
op_fits ops fields values h i d (Const n) inside is = tt
op_fits ops fields values h i d _ inside is = tt

fit_from : (program : Program) (fields : List (List ℕ)) (values : Row) → length fields ≡ program.width → HaveValues (reading_of program.bz) 0 fields values → IsFit program values
fit_from program fields values wide h = record {
  width = h.size ∙ wide;
  kinds = λ i d inside. op_fits program.bz fields values h i d (get_or program.bz i d) inside refl;
}

fit_step : (program : Program) (line : List ℕ) (values : Row) (blank_line few : Bool) → nat_lt (length (fields_of line)) program.width ≡ few
    → cond blank_line blank (cond few too_few (row_from (reading_of program.bz) 0 (take program.width (fields_of line)))) ≡ row values → IsFit program values
fit_step program line values true few less e = absurd (cc)
fit_step program line values false true less e = absurd (cc)
fit_step program line values false false less e =
    fit_from program (take program.width (fields_of line)) values (length-take-le program.width (fields_of line) (ltb-false (length (fields_of line)) program.width less))
    (have_values (reading_of program.bz) 0 (take program.width (fields_of line)) values e)

-- the row of a line fits
pub row_fits : (program : Program) (line : List ℕ) (values : Row) → line_meaning program line ≡ row values → IsFit program values
row_fits program line values e = fit_step program line values (is_blank_line line) (nat_lt (length (fields_of line)) program.width) refl e

-- what is told of the fields is told of the line
pub told_line : (program : Program) (line : List ℕ) (width : ℕ) (result : answer.RowAnswer) (values : Row) → is_blank_line line ≡ false → width ≡ program.width
    → IsMeaningOf result values (fields_meaning (reading_of program.bz) 0 width (fields_of line)) → IsMeaningOf result values (line_meaning program line)
told_line program line width result values some wide told =
    subst (IsMeaningOf result values) (sym (meaning_fields program line some)) (subst (λ (w : ℕ). IsMeaningOf result values (fields_meaning (reading_of program.bz) 0 w (fields_of line))) wide told)

-- an answer Good is a row
pub told_good : (result : answer.RowAnswer) (values : Row) (m : LineMeaning) → IsMeaningOf result values m → result ≡ answer.TheVariants.Good → m ≡ row values
told_good result values m told good = subst (λ r. IsMeaningOf r values m) good told
