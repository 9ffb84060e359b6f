-- Reports are in their style: one for each time, or one for each stretch.

use Rattle.std.proofs.Common.{◌≡◌, ◌∙◌, ℕ, zero, suc, ◌<◌, Some, List, [], ◌∷◌, ◌++◌, All, length, get_or, slice_get, take, refl, sym, ap}
use Rattle.std.specs.List.{range_with_len}
use Rattle.std.proofs.lemmas.List.{length-map}
use Rattle.std.proofs.lemmas.List.Elements.{All-cons, All-nil}
use Rattle.std.proofs.lemmas.Option.{slice_get-get_or}
use Rattle.mltl_base.specs.declared.report.Report.{Report}
use Rattle.mltl_base.specs.declared.report.Style.{Style}
use Rattle.mltl_base.specs.declared.report.Style.TheVariants.{Each, Runs}
use Rattle.mltl_base.specs.Atoms.{Row}
use Rattle.mltl_base.specs.Formula.{truth}
use Rattle.mltl_base.specs.Reports.{Output, formula, AreDistinctBeside, of_row, reports, reports_after, reports_of, told}
use Rattle.mltl_base.proofs.Telling.{told_words}
use Rattle.mltl_base.proofs.Neighbours.{row_runs_differ, times_count_up, words_one_by_one}
use Rattle.mltl_tools.specs.Sentence.{AreInStyle, AreLongestByRow, CountUp, in_turn}

-- one report for each time
each_counts : (k : ℕ) (outs : List Output) (rows : List Row) (o : Output) → slice_get outs k ≡ Some o → CountUp k (reports Each outs rows)
each_counts k outs rows o at =
    let own : List Report = reports_of k (reports Each outs rows) in
    times_count_up k outs rows o at
    ∙ ap (range_with_len 0) (ap length (sym (words_one_by_one k outs rows o at)) ∙ length-map own (λ (r : Report). r.word))

-- the reports of further rows, row by row
abbrev row_by_row : List Output → List Row → List Row → List (List Report)
row_by_row outs rows [] = []
row_by_row outs rows (r ∷ more) = of_row Runs 0 outs rows r ∷ row_by_row outs (rows ++ r ∷ []) more

rows_join : (outs : List Output) (rows more : List Row) → in_turn (row_by_row outs rows more) ≡ reports_after Runs outs rows more
unfolding reports_after
rows_join outs rows [] = refl
rows_join outs rows (r ∷ more) = ap (λ rs. of_row Runs 0 outs rows r ++ rs) (rows_join outs (rows ++ r ∷ []) more)

-- the first of them are those of the first rows
first_join : (n : ℕ) (outs : List Output) (rows more : List Row) → in_turn (take n (row_by_row outs rows more)) ≡ reports_after Runs outs rows (take n more)
unfolding reports_after
first_join zero outs rows [] = refl
first_join zero outs rows (r ∷ more) = refl
first_join (suc n) outs rows [] = refl
first_join (suc n) outs rows (r ∷ more) = ap (λ rs. of_row Runs 0 outs rows r ++ rs) (first_join n outs (rows ++ r ∷ []) more)

rows_count : (outs : List Output) (rows more : List Row) → length (row_by_row outs rows more) ≡ length more
rows_count outs rows [] = refl
rows_count outs rows (r ∷ more) = ap suc (rows_count outs (rows ++ r ∷ []) more)

rows_differ : (k : ℕ) (outs : List Output) (rows more : List Row) (o : Output) → slice_get outs k ≡ Some o → All (λ (some : List Report). AreDistinctBeside (reports_of k some)) (row_by_row outs rows more)
rows_differ k outs rows [] o at = All-nil (λ (some : List Report). AreDistinctBeside (reports_of k some))
rows_differ k outs rows (r ∷ more) o at =
    All-cons (λ (some : List Report). AreDistinctBeside (reports_of k some)) _ _ (row_runs_differ k outs rows r o at) (rows_differ k outs (rows ++ r ∷ []) more o at)

-- one report for each stretch
runs_longest : (outs : List Output) (rows : List Row) → AreLongestByRow outs (reports Runs outs rows) rows
runs_longest outs rows = record {
  parts = row_by_row outs [] rows;
  one_each = rows_count outs [] rows;
  joined = rows_join outs [] rows;
  decided = λ n k o few at. ap (told k 0) (first_join n outs [] rows) ∙ told_words Runs k outs (take n rows) o at;
  longest = λ k less. rows_differ k outs [] rows (get_or outs k (formula truth)) (slice_get-get_or outs k (formula truth) less);
}

pub in_style : (style : Style) (outs : List Output) (rows : List Row) → AreInStyle style outs (reports style outs rows) rows
in_style Each outs rows = λ k less. each_counts k outs rows (get_or outs k (formula truth)) (slice_get-get_or outs k (formula truth) less)
in_style Runs outs rows = runs_longest outs rows
