-- Rows that were taken one after another, each with its reports.

use Rattle.std.specs.Prelude.{⊤, OnErr}
use Rattle.std.proofs.Common.{◌≡◌, ℕ, zero, suc, ◌+◌, ◌-◌, ◌*◌, ◌≤◌, min, Result, Ok, Err, IfOk, Contains, List, [], ◌∷◌, ◌++◌, length, take, drop, refl, sym, ap, subst, append_assoc, lit<, arith, ◌∙◌}
use Rattle.std.proofs.lemmas.List.{append-nil, drop-drop, drop_all, length-take-le, take_all}
use Rattle.std.proofs.Math.ListN.{drop_of_length-le}
use Rattle.std.proofs.Math.Seq.{drop-append-add, take-append-add}
use borrow.Rule.Slice.PartMut.{put_mid}
use Rattle.mltl_base.specs.declared.report.Style.{Style}
use Rattle.mltl_base.specs.Atoms.{Row}
use Rattle.r2u2_monitor.specs.declared.state.State.{State}
use Rattle.r2u2_monitor.specs.declared.row_fault.RowFault.{RowFault}
use Rattle.r2u2_monitor.specs.declared.row_fault.RowFault.TheVariants.{ReportsLeft, NotARow, TooManyRows}
use Rattle.r2u2_monitor.specs.Monitoring.{program_of}
use Rattle.r2u2_c.specs.declared.batches.Batch.{Batch}
use Rattle.r2u2_c.specs.declared.codes.TheConstants.{DONE, NOT_OPEN, REPORTS_LEFT, NOT_A_ROW, TOO_MANY_ROWS, NO_ROOM}
use Rattle.r2u2_c.specs.declared.row_why.RowWhy.{RowWhy}
use Rattle.r2u2_c.specs.declared.report.Told.{Told}
use Rattle.r2u2_c.specs.Batches.{TakesEach, TakesOne, TakesRows, rows_in}
use Rattle.r2u2_c.proofs.Calls.{Answers, fault_code, kept_by_reports}

-- one more row of an array
pub rows_more : (size count : ℕ) (numbers : Row) → rows_in size (suc count) numbers ≡ rows_in size count numbers ++ take size (drop (count * size) numbers) ∷ []
rows_more size zero numbers = let none : 0 * size ≡ 0 = omega arith in ap (λ (k : ℕ). take size (drop k numbers) ∷ []) (sym none)
rows_more size (suc count) numbers =
    let next : size + count * size ≡ suc count * size = grind arith in
    let step : drop (count * size) (drop size numbers) ≡ drop (suc count * size) numbers = drop-drop (count * size) size numbers ∙ ap (λ (k : ℕ). drop k numbers) next in
    ap (λ (rows : List Row). take size numbers ∷ rows)
    (rows_more size count (drop size numbers) ∙ ap (λ (rest : Row). rows_in size count (drop size numbers) ++ take size rest ∷ []) step)

pub rows_next : (size count : ℕ) (numbers : Row) → rows_in size (count + 1) numbers ≡ rows_in size count numbers ++ take size (drop (count * size) numbers) ∷ []
rows_next size count numbers = let next : count + 1 ≡ suc count = omega arith in ap (λ (k : ℕ). rows_in size k numbers) next ∙ rows_more size count numbers

-- and where the numbers after it begin
pub numbers_next : (size count : ℕ) (numbers : Row) → drop size (drop (count * size) numbers) ≡ drop ((count + 1) * size) numbers
numbers_next size count numbers =
    let next : count * size + size ≡ (count + 1) * size = grind arith in
    drop-drop size (count * size) numbers ∙ ap (λ (k : ℕ). drop k numbers) next

-- what was written behind the first members of a list, up to its end
pub behind : {X : Type 0} (a : ℕ) (xs ys : List X) → a ≤ length xs → put_mid a (length xs - a) xs ys ≡ take a xs ++ ys
behind {X} a xs ys within =
    let past : drop (length xs - a) (drop a xs) ≡ [] = drop-drop (length xs - a) a xs ∙ drop_of_length-le xs (omega arith) in
    ap (λ (rest : List X). take a xs ++ (ys ++ rest)) past ∙ ap (λ (zs : List X). take a xs ++ zs) (append-nil ys)

pub more_front : {X : Type 0} (a n : ℕ) (xs ys : List X) → a ≤ length xs → take (a + n) (take a xs ++ ys) ≡ take a xs ++ take n ys
more_front a n xs ys within =
    subst (λ (k : ℕ). take (k + n) (take a xs ++ ys) ≡ take a xs ++ take n ys) (length-take-le a xs within) (take-append-add (take a xs) ys n)

pub more_rest : {X : Type 0} (a n : ℕ) (xs ys : List X) → a ≤ length xs → drop (a + n) (take a xs ++ ys) ≡ drop n ys
more_rest a n xs ys within =
    subst (λ (k : ℕ). drop (k + n) (take a xs ++ ys) ≡ drop n ys) (length-take-le a xs within) (drop-append-add (take a xs) ys n)

-- one more row was taken, after others
pub taken_more : (style : Style) (rows : List Row) (row : Row) (told here : List Told) (m n o : State) → TakesEach style rows told m n → TakesOne style row here n o
    → TakesEach style (rows ++ row ∷ []) (told ++ here) m o
taken_more style [] row told here m n o (none, same) one =
    (here, [], o, ap (λ (t : List Told). t ++ here) none ∙ sym (append-nil here), subst (λ (before : State). TakesOne style row here before o) same one, (refl, refl))
taken_more style (r ∷ rows) row told here m n o (first, rest, next, is, taken, more) one =
    (first, rest ++ here, next, ap (λ (t : List Told). t ++ here) is ∙ append_assoc first rest here, taken, taken_more style rows row rest here next n o more one)

-- rows leave the program
pub kept_by_rows : (style : Style) (rows : List Row) (told : List Told) (m n : State) → TakesEach style rows told m n → program_of n ≡ program_of m
kept_by_rows style [] told m n (none, same) = ap program_of same
kept_by_rows style (row ∷ rows) told m n (first, rest, next, is, one, more) =
    kept_by_rows style rows rest next n more ∙ (kept_by_reports style first one.taken next one.each).0 ∙ one.takes.program

-- and where the first isn't taken nothing changes
pub program_kept : (taken : Result ⊤ RowFault) (style : Style) (size most : ℕ) (numbers : Row) (batch : Batch) (old new : List Told) (m n : State)
    → IfOk taken (λ _. TakesRows style size most numbers batch old new m n) → OnErr taken (n ≡ m) → program_of n ≡ program_of m
program_kept (Ok t) style size most numbers batch old new m n takes same = kept_by_rows style (rows_in size batch.rows numbers) (take batch.reports new) m n takes.each
program_kept (Err fault) style size most numbers batch old new m n takes same = ap program_of same

-- the codes of many rows
pub row_many_codes : (taken : Result ⊤ RowFault) (code : ℕ) (before after : RowWhy) → Answers taken code before after
    → Contains (DONE ∷ NOT_OPEN ∷ REPORTS_LEFT ∷ NOT_A_ROW ∷ TOO_MANY_ROWS ∷ NO_ROOM ∷ []) code
row_many_codes (Ok t) code before after answers = (0, lit< tt, sym answers.0.0)
row_many_codes (Err ReportsLeft) code before after answers = (2, lit< tt, sym (fault_code ReportsLeft code after answers.1.0 answers.1.1))
row_many_codes (Err (NotARow column)) code before after answers = (3, lit< tt, sym (fault_code (NotARow column) code after answers.1.0 answers.1.1))
row_many_codes (Err TooManyRows) code before after answers = (4, lit< tt, sym (fault_code TooManyRows code after answers.1.0 answers.1.1))

-- as many numbers as a row has, or all that are left
pub take_row : (size : ℕ) (numbers : Row) → take (min size (length numbers)) numbers ≡ take size numbers
take_row size numbers = grind (arith, take_all)

pub drop_row : (size : ℕ) (numbers : Row) → drop (min size (length numbers)) numbers ≡ drop size numbers
drop_row size numbers = grind (arith, drop_all)
