-- The program that is compiled in simplified form.

use Rattle.std.specs.Prelude.{◌≡◌, ◌+◌, ◌<◌, ℕ, nat_le, Bool, ◌&&◌, if◌then◌else◌, is_none, List, length}
use Rattle.std.specs.Prelude.{slice_get, Option, Some, None, Result, Ok, sum}
use Rattle.mltl_base.specs.declared.program.Columns.{Columns}
use Rattle.mltl_base.specs.declared.program.Program.{Program}
use Rattle.mltl_base.specs.declared.report.Report.{Report}
use Rattle.mltl_base.specs.declared.report.Style.{Style}
use Rattle.mltl_base.specs.declared.report.Word.{Word}
use Rattle.mltl_base.specs.declared.signal.Signal.{Signal}
use Rattle.mltl_base.specs.Atoms.{Row}
use Rattle.mltl_base.specs.Programs.{outputs}
use Rattle.mltl_base.specs.Reports.{Output, delay, meaning, reports, told, IsRising, IsSettled}
use Rattle.mltl_base.specs.Subformulas.{Asked}
use Rattle.mltl_simplify.specs.Outputs.{simple_outputs}
use Rattle.c2po_compile.specs.BuildLimits.{slots_needed}
use Rattle.obs_verify.specs.Bound.{bound}
use Rattle.obs_verify.specs.Layout.{HasLayout}
use Rattle.obs_verify.specs.WellFormed.{IsWellFormed}
use Rattle.trace_columns.specs.declared.header_fault.HeaderFault.{HeaderFault}
use Rattle.c2po_compile.specs.declared.fault.CompileFault.{CompileFault}
use Rattle.c2po_compile.specs.Compiled.{signals_in, outputs_in, columns_by, compile_text}
use Rattle.c2po_compile.specs.Front.{first_refusal}
use Rattle.c2po_compile.specs.Image.{AreColumnsFor, image, over_columns}
use Rattle.c2po_compile.specs.ImageFiles.{IsFileOf}
use Rattle.c2po_compile.specs.Limits.{limit_refusal}

-- the number of slots of all queues and boxes of a program
abbrev pub slots_in : Program → ℕ
slots_in program = sum program.sizes.ft + sum program.sizes.pt

-- the simplified outputs over columns are within all limits, and need no more slots and boxes than the plain outputs
abbrev pub are_smaller : List Asked → List Asked → Bool
are_smaller simple plain = is_none (limit_refusal simple) && nat_le (slots_needed simple) (slots_needed plain)

-- the outputs in simplified form if that is smaller, else as they are
unfoldable pub smaller_outputs : Columns → List Asked → List Asked
smaller_outputs columns outs =
    if are_smaller (over_columns columns (simple_outputs outs)) (over_columns columns outs) then simple_outputs outs
    else outs

-- the image of the smaller outputs
abbrev pub simplify_over : Columns → List Signal → List Asked → Program
simplify_over columns signals outs = image columns signals (smaller_outputs columns outs)

-- the image of the smaller outputs, if the plain outputs have an image, else their refusal
abbrev pub simplified : List Signal → List Asked → Result Columns HeaderFault → Result Program CompileFault
    → Result Program CompileFault
simplified signals outs (Ok columns) (Ok plain) = Ok (simplify_over columns signals outs)
simplified signals outs columns found = found

-- the program of a text and a header line in simplified form: the image of the smaller outputs, or the refusal of the plain
-- form
unfoldable pub compile_simplified : List ℕ → Option (List ℕ) → Result Program CompileFault
compile_simplified text header =
    simplified (signals_in text) (outputs_in text) (columns_by (signals_in text) header) (compile_text text header)

-- the image of a text in simplified form over columns of its signals
abbrev pub compile_simplified_over : List ℕ → Columns → Program
compile_simplified_over text columns = simplify_over columns (signals_in text) (outputs_in text)

-- the image of a text in simplified form whose signals are moved to other columns
abbrev pub compile_simplified_and_move : List ℕ → Columns → Columns → Program
compile_simplified_and_move text old new = bound (compile_simplified_over text old) new.width new.of_signal

-- the text has no fault, the verifier finds no fault in its simplified image over the old columns, and there is a new column
-- for each signal
pub record CanMoveSimple (text : List ℕ) (old new : Columns) : Type 0 where
  pub faultless : first_refusal text ≡ None
  pub serve : AreColumnsFor (length (signals_in text)) old
  pub layout : HasLayout (compile_simplified_over text old)
  pub well_formed : IsWellFormed (compile_simplified_over text old)
  pub one_each : length new.of_signal ≡ length (signals_in text)

-- the file has the bytes of the image of the text in simplified form
abbrev pub IsSimpleImageFile : List ℕ → Columns → List ℕ → Type 0
IsSimpleImageFile text columns file = IsFileOf text columns (compile_simplified_over text columns) file

-- the reports of output k tell an output: their times rise, each word is settled for the output whatever rows follow, and
-- none comes later than the worst-case delay
pub record TellWords (told_so : List Report) (k : ℕ) (o : Output) (rows : List Row) : Type 0 where
  pub in_order : IsRising k 0 told_so
  pub settled : (t : ℕ) (w : Word) → slice_get (told k 0 told_so) t ≡ Some w → IsSettled rows o t w
  pub in_time : (t : ℕ) → t + delay o < length rows → slice_get (told k 0 told_so) t ≡ Some (meaning rows o t)

-- the reports of the program tell output k, each word settled and within the worst-case delay
abbrev pub TellsSettled : Style → Program → ℕ → Output → List Row → Type 0
TellsSettled style program k o rows = TellWords (reports style (outputs program) rows) k o rows
