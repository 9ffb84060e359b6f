-- The summary of the demo.

use Rattle.std.specs.Prelude.{ℕ, suc, List, [], ◌∷◌, ◌++◌, map, codes, decimal}
use Rattle.std.specs.List.{concat, range_with_len}
use Rattle.mltl_base.specs.declared.program.Out.{Out}
use Rattle.mltl_base.specs.declared.program.Out.TheVariants as out
use Rattle.mltl_base.specs.declared.report.Report.{Report}
use Rattle.mltl_base.specs.declared.report.Style.TheVariants.{Each}
use Rattle.mltl_base.specs.declared.report.Word.{Word}
use Rattle.mltl_base.specs.declared.report.Word.TheVariants.{T, F, Inactive, Invalid, Verified}
use Rattle.mltl_base.specs.Atoms.{Row}
use Rattle.mltl_base.specs.Lines.{word_text}
use Rattle.mltl_base.specs.Programs.{out_name}
use Rattle.mltl_base.specs.Reports.{Output, formula, contract, reports}
use Rattle.mltl_base.specs.Subformulas.{Asked}
use Rattle.r2u2_monitor.specs.Header.{columns_in_order}
use Rattle.c2po_compile.specs.Compiled.{outputs_in}
use Rattle.c2po_compile.specs.Image.{plain_outputs}
use Rattle.r2u2_cli.specs.DemoRow.{demo_row}
use Rattle.r2u2_cli.specs.Tallies.{count_of}
use Rattle.r2u2_cli.specs.Text.{demo_text}

-- An output as the summary lists it: its name, and the verdicts that its reports may have.
pub record Listed : Type 0 where
  pub name : List ℕ
  pub words : List Word

-- the verdicts that a formula's reports may have
abbrev pub formula_verdicts : List Word
formula_verdicts = T ∷ F ∷ []

-- the verdicts that a contract's reports may have
abbrev pub contract_verdicts : List Word
contract_verdicts = Inactive ∷ Invalid ∷ Verified ∷ []

-- the verdicts that the reports of a specification's output may have
abbrev pub words_of : Output → List Word
words_of (formula p) = formula_verdicts
words_of (contract p q) = contract_verdicts

-- an output of a specification, as the summary lists it
abbrev pub summary_entry : Asked → Listed
summary_entry asked = record { name = asked.name; words = words_of asked.output }

-- the verdicts that the reports of a program's output may have
abbrev pub out_words : Out → List Word
out_words (out.Formula engine i name) = formula_verdicts
out_words (out.Contract engine i j name) = contract_verdicts

-- an output of a program, as the summary lists it
abbrev pub listed_out : Out → Listed
listed_out o = record { name = out_name o; words = out_words o }

-- the text of a verdict and the number of its reports
abbrev pub count_text : Word → ℕ → List ℕ
count_text w n = codes " " ++ word_text w ++ codes "=" ++ decimal n

-- the line of an output: its name, and the number of reports of each of its verdicts
abbrev pub summary_line : Listed → (Word → ℕ) → List ℕ
summary_line o count = o.name ++ codes ":" ++ concat (map (λ w. count_text w (count w)) o.words) ++ codes "\n"

-- the lines of outputs, if the first has the number k
unfoldable pub lines_from : ℕ → List Listed → List Report → List ℕ
lines_from k [] told = []
lines_from k (o ∷ outs) told = summary_line o (λ w. count_of k w told) ++ lines_from (suc k) outs told

-- the summary: the number of rows, and a line for each output
abbrev pub summary_of : ℕ → List Listed → List Report → List ℕ
summary_of rows outs told = codes "rows=" ++ decimal rows ++ codes "\n" ++ lines_from 0 outs told

-- the rows of the demo
abbrev pub demo_rows : ℕ → ℕ → List Row
demo_rows seed rows = map (demo_row seed) (range_with_len 0 rows)

-- the reports of the text's formulas over these rows, with its signals in the order of declaration
abbrev pub demo_reports : ℕ → ℕ → List Report
demo_reports seed rows = reports Each (plain_outputs (columns_in_order 3) (outputs_in demo_text)) (demo_rows seed rows)

-- the summary of this many rows that are generated from a seed
unfoldable pub demo_summary : ℕ → ℕ → List ℕ
demo_summary seed rows = summary_of rows (map summary_entry (outputs_in demo_text)) (demo_reports seed rows)
