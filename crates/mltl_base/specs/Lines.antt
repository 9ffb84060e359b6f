-- The text of reports.
-- A reader of the contracts needs this file.

use Rattle.std.specs.Prelude.{ℕ, List, [], ◌++◌, map, codes, decimal, slice_index_or}
use Rattle.std.specs.List.{concat}
use Rattle.mltl_base.specs.declared.report.Word.{Word}
use Rattle.mltl_base.specs.declared.report.Word.TheVariants.{T, F, Inactive, Invalid, Verified}
use Rattle.mltl_base.specs.declared.report.Style.{Style}
use Rattle.mltl_base.specs.declared.report.Report.{Report}
use Rattle.mltl_base.specs.Atoms.{Row}
use Rattle.mltl_base.specs.Reports.{Output, reports}

-- the text of a word
abbrev pub word_text : Word → List ℕ
word_text T = codes "T"
word_text F = codes "F"
word_text Inactive = codes "inactive"
word_text Invalid = codes "invalid"
word_text Verified = codes "verified"

-- the line of a report, over the name of its output: name, colon, time, comma, word, newline
abbrev pub line_with : List ℕ → Report → List ℕ
line_with name report = name ++ codes ":" ++ decimal report.time ++ codes "," ++ word_text report.word ++ codes "\n"

-- the line of a report, over the names of all outputs
abbrev pub line : List (List ℕ) → Report → List ℕ
line names report = line_with (slice_index_or names report.out []) report

-- the lines of reports
abbrev pub lines_of_reports : List (List ℕ) → List Report → List ℕ
lines_of_reports names told = concat (map (line names) told)

-- the lines of the reports on the rows
abbrev pub lines : Style → List (List ℕ) → List Output → List Row → List ℕ
lines style names outs rows = lines_of_reports names (reports style outs rows)
