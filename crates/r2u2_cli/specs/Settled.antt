-- Reports of formulas in lines.

use Rattle.std.specs.Prelude.{◌≡◌, ℕ, ◌+◌, ◌<◌, Some, List, length, map, slice_get}
use Rattle.mltl_base.specs.declared.program.Columns.{Columns}
use Rattle.mltl_base.specs.declared.program.Program.{Program}
use Rattle.mltl_base.specs.declared.report.Style.{Style}
use Rattle.mltl_base.specs.declared.report.Word.{Word}
use Rattle.mltl_base.specs.Atoms.{Row}
use Rattle.mltl_base.specs.Lines.{lines}
use Rattle.mltl_base.specs.Programs.{outputs, output_names}
use Rattle.mltl_base.specs.Reports.{Output, words, meaning, delay, reports, told, IsRising, IsSettled}
use Rattle.c2po_compile.specs.Compiled.{outputs_in}
use Rattle.c2po_compile.specs.Image.{plain_outputs}

-- The reports of outputs after some rows have each time once and in order, each word the meaning of its time whatever rows
-- follow, and each time no later than its worst-case delay.
pub record AreSettled (style : Style) (outs : List Output) (rows : List Row) : Type 0 where
  pub each_once : (k : ℕ) (o : Output) → slice_get outs k ≡ Some o → told k 0 (reports style outs rows) ≡ words rows o
  pub in_order : (k : ℕ) (o : Output) → slice_get outs k ≡ Some o → IsRising k 0 (reports style outs rows)
  pub settled : (o : Output) (t : ℕ) (w : Word) → slice_get (words rows o) t ≡ Some w → IsSettled rows o t w
  pub in_time : (o : Output) (t : ℕ) → t + delay o < length rows → slice_get (words rows o) t ≡ Some (meaning rows o t)

-- the lines of a program's rows are the lines of these outputs under these names, and report them settled
pub record TellsOf (style : Style) (program : Program) (names : List (List ℕ)) (outs : List Output)
    (rows : List Row) : Type 0 where
  pub lines_are : lines style (output_names program) (outputs program) rows ≡ lines style names outs rows
  pub settled : AreSettled style outs rows

-- the lines of a program's rows report the plain formulas of a specification over columns of its signals, under its names
abbrev pub TellsText : Style → List ℕ → Columns → Program → List Row → Type 0
TellsText style text columns program rows =
    TellsOf style program (map (λ o. o.name) (outputs_in text)) (plain_outputs columns (outputs_in text)) rows
