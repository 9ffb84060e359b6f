-- The reports that one more row brings, over the rows before it and all rows.
-- Only contracts of inner functions cite it: it is the proof's own.

use Rattle.std.specs.Prelude.{ℕ, suc, Bool, true, not, List, [], ◌∷◌, ◌++◌, length, drop}
use Rattle.mltl_base.specs.declared.report.Word.{Word}
use Rattle.mltl_base.specs.declared.report.Style.{Style}
use Rattle.mltl_base.specs.declared.report.Style.TheVariants.{Each, Runs}
use Rattle.mltl_base.specs.declared.report.Report.{Report}
use Rattle.mltl_base.specs.Atoms.{Row}
use Rattle.mltl_base.specs.Reports.{Output, words, goes_on, of_words}

-- a word has a report of its own: each word, or the last word of a run
abbrev pub is_told : Style → Word → List Word → Bool
is_told Each w ws = true
is_told Runs w ws = not (goes_on w ws)

-- the reports of the words that are known now and weren't before, for each output in order
unfoldable pub of_outputs : Style → ℕ → List Output → List Row → List Row → List Report
of_outputs style k [] before now = []
of_outputs style k (o ∷ outs) before now =
    of_words style k (length (words before o)) (drop (length (words before o)) (words now o))
    ++ of_outputs style (suc k) outs before now
