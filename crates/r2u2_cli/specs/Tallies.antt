-- The number of reports of each verdict.

use Rattle.std.specs.Prelude.{◌≡◌, ℕ, ◌<◌, ◌==◌, ◌&&◌, ◌++◌, List, length, count_by, slice_index_or}
use Rattle.mltl_base.specs.declared.report.Report.{Report}
use Rattle.mltl_base.specs.declared.report.Style.TheVariants.{Each}
use Rattle.mltl_base.specs.declared.report.Word.{Word}
use Rattle.mltl_base.specs.declared.report.Word.TheVariants.{T, F, Inactive, Invalid, Verified}
use Rattle.mltl_base.specs.Atoms.{Row}
use Rattle.mltl_base.specs.Programs.{outputs}
use Rattle.mltl_base.specs.Reports.{reports, same_word}
use Rattle.r2u2_monitor.specs.declared.state.State.{State}
use Rattle.r2u2_monitor.specs.Monitoring.{open_in, program_of}
use Rattle.r2u2_cli.specs.declared.demo.tally.Tally.{Tally}

-- the number of reports of output k with this word
abbrev pub count_of : ℕ → Word → List Report → ℕ
count_of k w told = count_by (λ r. r.out == k && same_word r.word w) told

-- the number of a word in a tally
abbrev pub tallied : Tally → Word → ℕ
tallied tally T = tally.holds
tallied tally F = tally.fails
tallied tally Inactive = tally.inactive
tallied tally Invalid = tally.invalid
tallied tally Verified = tally.verified

-- the tally without reports
abbrev pub none : Tally
none = record { holds = 0; fails = 0; inactive = 0; invalid = 0; verified = 0 }

-- the tallies count these reports, output by output
pub record AreTallies (tallies : List Tally) (told : List Report) : Type 0 where
  pub each : (k : ℕ) (w : Word) → k < length tallies → tallied (slice_index_or tallies k none) w ≡ count_of k w told

-- The reports that a monitor has returned for its rows are counted, with one tally for each output.
pub record AreCounted (tallies : List Tally) (monitor : State) (rows : List Row) : Type 0 where
  pub told : List Report
  pub all : reports Each (outputs (program_of monitor)) rows ≡ told ++ open_in Each monitor rows
  pub counted : AreTallies tallies told
  pub enough : length tallies ≡ length (program_of monitor).outs
