-- The reports that the outputs' next times leave open.

use Rattle.std.specs.Prelude.{ℕ, suc, ◌≡◌, ◌+◌, ◌<◌, ◌≤◌, ◌-◌, Option, Some, None, List, [], ◌∷◌, ◌++◌, length, map}
use Rattle.std.specs.Prelude.{drop, slice_index, slice_set, sum_by}
use Rattle.mltl_base.specs.declared.program.Program.{Program}
use Rattle.mltl_base.specs.declared.report.Report.{Report}
use Rattle.mltl_base.specs.declared.report.Style.{Style}
use Rattle.mltl_base.specs.Atoms.{Row}
use Rattle.mltl_base.specs.Programs.{outputs}
use Rattle.mltl_base.specs.Reports.{Output, words, of_words}

-- the reports that the next times of outputs leave open after the rows, if the first output has the number k
unfoldable pub left_open : Style → List Row → ℕ → List Output → List ℕ → List Report
left_open style rows k [] next_times = []
left_open style rows k (o ∷ outs) [] = []
left_open style rows k (o ∷ outs) (next_time ∷ next_times) =
    of_words style k next_time (drop next_time (words rows o)) ++ left_open style rows (suc k) outs next_times

-- the reports that the next times of all outputs of a program leave open
abbrev pub open_of : Style → Program → List Row → List ℕ → List Report
open_of style program rows next_times = left_open style rows 0 (outputs program) next_times

-- the number of words of each output that are known after the rows
abbrev pub known_counts : List Row → List Output → List ℕ
known_counts rows outs = map (λ o. length (words rows o)) outs

-- the number of words of each output of a program that are known after the rows
abbrev pub known_counts_of : Program → List Row → List ℕ
known_counts_of program rows = known_counts rows (outputs program)

-- the next time of each output is at most the number of its words that are known
abbrev pub AreKnown : Program → List Row → List ℕ → Type 0
AreKnown program rows next_times =
    (k : ℕ) → k < length program.outs → slice_index next_times k ≤ slice_index (known_counts_of program rows) k

-- Each output has one time, the time of its next report. It is at most the number of words that are known, and at least the
-- number that were known before the last row.
pub record ArePlaced (program : Program) (rows : List Row) (next_times : List ℕ) : Type 0 where
  pub count : length next_times ≡ length program.outs
  pub known : AreKnown program rows next_times
  pub recent : (before : List Row) (row : Row) → rows ≡ before ++ row ∷ [] → (k : ℕ) → k < length program.outs
      → slice_index (known_counts_of program before) k ≤ slice_index next_times k

-- the result is the first of the reports that were open, and the other reports are still open; no result if none was open
abbrev pub GivesFirst : Style → Program → List Row → List ℕ → List ℕ → Option Report → Type 0
GivesFirst style program rows before after None = open_of style program rows before ≡ []
GivesFirst style program rows before after (Some report) =
    open_of style program rows before ≡ report ∷ open_of style program rows after

-- the number of times below n that the next times leave
abbrev pub times_left : ℕ → List ℕ → ℕ
times_left n next_times = sum_by (λ next_time. n - next_time) next_times

-- A report was returned after n rows: it is of an existing output, at a time that was taken. Only the next time of this
-- output moved, past the report, so fewer times are left.
pub record IsGiven (program : Program) (n : ℕ) (report : Report) (before after : List ℕ) : Type 0 where
  pub exists : report.out < length program.outs
  pub taken : report.time < n
  pub moved : after ≡ slice_set before report.out (report.time + 1)
  pub fewer : times_left n after < times_left n before
