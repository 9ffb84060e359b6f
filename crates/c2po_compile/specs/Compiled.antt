-- The program of a text and a header line, or their refusal.

use Rattle.std.specs.Prelude.{◌≡◌, ℕ, List, map, length, Option, Some, None, Result, Ok, Err}
use Rattle.mltl_base.specs.declared.program.Columns.{Columns}
use Rattle.mltl_base.specs.declared.program.Program.{Program}
use Rattle.mltl_base.specs.Subformulas.{Asked}
use Rattle.mltl_base.specs.declared.signal.Signal.{Signal}
use Rattle.c2po_ast.specs.ItemShape.{ItemShape}
use Rattle.c2po_types.specs.Signals.{signals_of}
use Rattle.c2po_types.specs.Outputs.{outputs_of}
use Rattle.trace_columns.specs.declared.header_fault.HeaderFault.{HeaderFault}
use Rattle.trace_columns.specs.Header.{header_meaning, columns_in_order}
use Rattle.c2po_compile.specs.declared.fault.CompileFault.{CompileFault}
use Rattle.c2po_compile.specs.Refusals.{header_refusal, unless_refused}
use Rattle.c2po_compile.specs.Front.{items_in, first_refusal}
use Rattle.c2po_compile.specs.Limits.{limit_refusal}
use Rattle.c2po_compile.specs.Image.{over_columns, image}

-- the signals that a text declares
abbrev pub signals_in : List ℕ → List Signal
signals_in text = signals_of (items_in text)

-- the outputs of a text over signals by their numbers
abbrev pub outputs_in : List ℕ → List Asked
outputs_in text = outputs_of (items_in text)

-- the columns of signals that a header line names; without a header line each signal has the column of its number
abbrev pub columns_by : List Signal → Option (List ℕ) → Result Columns HeaderFault
columns_by signals None = Ok (columns_in_order (length signals))
columns_by signals (Some line) = header_meaning (map (λ s. s.name) signals) line

-- the refusal of items over columns, for the first limit that their outputs exceed
abbrev pub limit_over : Columns → List ItemShape → Option CompileFault
limit_over columns items = limit_refusal (over_columns columns (outputs_of items))

-- the image over columns, unless a limit is exceeded
abbrev pub compile_within_limits : List Signal → List Asked → Columns → Result Program CompileFault
compile_within_limits signals outs columns =
    unless_refused (limit_refusal (over_columns columns outs)) (Ok (image columns signals outs))

-- the image over the columns of a header, unless the header has a fault or a limit is exceeded
abbrev pub compile_under_header : List Signal → List Asked → Result Columns HeaderFault → Result Program CompileFault
compile_under_header signals outs (Ok columns) = compile_within_limits signals outs columns
compile_under_header signals outs (Err fault) = Err (header_refusal fault)

-- the program of a text over the columns of its signals, or the first refusal: of the text, then of the header, then for a
-- limit
unfoldable pub compile_text : List ℕ → Option (List ℕ) → Result Program CompileFault
compile_text text header =
    unless_refused (first_refusal text) (compile_under_header (signals_in text) (outputs_in text)
    (columns_by (signals_in text) header))

-- the program is the image of the text over the columns of its signals under this header line, if any
pub record IsImageUnder (text : List ℕ) (header : Option (List ℕ)) (program : Program) : Type 0 where
  pub columns : Columns
  pub found : columns_by (signals_in text) header ≡ Ok columns
  pub is_image : program ≡ image columns (signals_in text) (outputs_in text)
