-- The names of a program can be written after an upgrade too.
use Rattle.std.proofs.Common.{◌≡◌, ℕ, ◌+◌, ◌*◌, ◌<◌, ◌≤◌, ◌==◌, zero, suc, Bool, true, false, Some, None, List, [], ◌∷◌, ◌++◌, length, refl, ap, ◌∙◌, arith, length-append}
use Rattle.std.specs.Prelude.{◌&&◌, if◌then◌else◌, decimal}
use Rattle.std.specs.Char.{digit_value}
use Rattle.std.specs.List.{cons_option, filter_map, flat_map, list_all, range_with_len}
use Rattle.std.specs.Str.Parse.{AllDigits}
use Rattle.std.proofs.lemmas.Bool.{le-leb, leb-true}
use Rattle.std.proofs.lemmas.Fmt.{decimal_is_IsNumeral, length-decimal-le}
use Rattle.std.proofs.lemmas.List.Folds.{list_all-append}
use Rattle.std.proofs.lemmas.Str.Parse.{digit_from_value}
use Rattle.mltl_base.specs.declared.program.Program.{Program}
use Rattle.mltl_base.specs.declared.program.StoredSignal.{StoredSignal}
use Rattle.mltl_base.specs.Letters.{is_in_word}
use Rattle.obs_binary.specs.Layout.{signal_name}
use Rattle.obs_verify.specs.Upgrade.{column_name, raised, reads, signal_in, signal_of, up}
use Rattle.obs_verify.specs.WellFormed.{IsWellFormed, has_kind}
use Rattle.obs_verify.proofs.RuleLaws.{or_none, unless_true}
use Rattle.obs_binary.specs.Names.{NamesFit}

digit_written : (c : ℕ) → digit_value c < 10 → is_in_word c ≡ true
digit_written c h = let range = digit_from_value c h in rw (le-leb 48 c range.0, le-leb c 57 range.1) refl

digits_written : (ds : List ℕ) → AllDigits 10 ds → list_all is_in_word ds ≡ true
digits_written [] d = refl
digits_written (c ∷ cs) d = ap (λ b. b && list_all is_in_word cs) (digit_written c d.0) ∙ digits_written cs d.1

-- letters of at most n names of columns
record IsWritten (n : ℕ) (bytes : List ℕ) : Type 0 where
  letters : list_all is_in_word bytes ≡ true
  short : length bytes ≤ 6 * n

column_written : (c : ℕ) → c < 65536 → IsWritten 1 (column_name c)
column_written c h =
    let digits : length (decimal c) ≤ 5 = length-decimal-le 5 c (omega arith) (omega arith) (omega arith) in
    record { letters = digits_written (decimal c) (decimal_is_IsNumeral c (omega arith)).0.1; short = omega (arith, digits) }

joined : (n : ℕ) (xs ys : List ℕ) → IsWritten 1 xs → IsWritten n ys → IsWritten (suc n) (xs ++ ys)
joined n xs ys one rest = record {
  letters = list_all-append is_in_word xs ys ∙ ap (λ b. b && list_all is_in_word ys) one.letters ∙ rest.letters;
  short = omega (arith, length-append xs ys, one.short, rest.short);
}

with_column : (t w : Bool) (c n : ℕ) (rest : List StoredSignal) → c < 65536 → IsWritten n (flat_map signal_name rest)
    → IsWritten (suc n) (flat_map signal_name (cons_option (if t then Some (signal_in c true) else if w then Some (signal_in c false) else None) rest))
with_column true w c n rest h written = joined n (column_name c) (flat_map signal_name rest) (column_written c h) written
with_column false true c n rest h written = joined n (column_name c) (flat_map signal_name rest) (column_written c h) written
with_column false false c n rest h written = record { letters = written.letters; short = omega (arith, written.short) }

columns_written : (signals : List StoredSignal) (a n : ℕ) → a + n ≤ 65536 → IsWritten n (flat_map signal_name (filter_map (signal_of signals) (range_with_len a n)))
columns_written signals a zero h = record { letters = refl; short = omega arith }
columns_written signals a (suc n) h =
    with_column (has_kind signals a true) (has_kind signals a false) a n (filter_map (signal_of signals) (range_with_len (a + 1) n)) (omega arith)
    (columns_written signals (a + 1) n (omega arith))

-- in version 2 too the names of a well-formed program can be written
pub names_upgraded : (program : Program) → IsWellFormed program → NamesFit program → NamesFit (up program)
names_upgraded program well fit = by_version (program.version == 2)
  where
    narrow : program.width ≤ 65536
    narrow = leb-true _ _ (unless_true _ _ (or_none _ _ well).0)

    written : IsWritten program.width (flat_map signal_name (filter_map (signal_of (reads program.bz)) (range_with_len 0 program.width)))
    written = columns_written (reads program.bz) 0 program.width (omega (arith, narrow))

    by_version : (second : Bool) → NamesFit (if second then program else raised program)
    by_version true = fit
    by_version false = record { out_letters = fit.out_letters; out_bytes = fit.out_bytes; signal_letters = written.letters; signal_bytes = omega (arith, written.short, narrow) }
