-- The formulas of the file, a specification or a program, that the lines of a run report.

use Rattle.std.specs.Prelude.{◌≡◌, ℕ, Bool, Option, Some, None, Result, Ok, List, ◌++◌, map, slice_get}
use Rattle.mltl_base.specs.declared.program.Columns.{Columns}
use Rattle.mltl_base.specs.declared.program.Program.{Program}
use Rattle.mltl_base.specs.declared.report.Style.{Style}
use Rattle.mltl_base.specs.declared.signal.Signal.{Signal}
use Rattle.mltl_base.specs.Atoms.{Row}
use Rattle.mltl_base.specs.Programs.{outputs, output_names}
use Rattle.mltl_base.specs.Reports.{Output}
use Rattle.trace_columns.specs.declared.header_fault.HeaderFault.{HeaderFault}
use Rattle.tool_words.specs.declared.file_kind.FileKind.{FileKind}
use Rattle.tool_words.specs.declared.file_kind.FileKind.TheVariants as kinds
use Rattle.tool_words.specs.R2u2Words.{RunAsked}
use Rattle.c2po_compile.specs.Compiled.{columns_by, outputs_in, signals_in}
use Rattle.c2po_compile.specs.Image.{plain_outputs}
use Rattle.c2po_compile.specs.ImageFiles.{IsFirstImageFile, IsImageFile, stored_columns}
use Rattle.c2po_compile.specs.Simplified.{IsSimpleImageFile, TellsSettled}
use Rattle.tool_words.specs.declared.status.Status.{Status}
use Rattle.r2u2_cli.specs.Outcome.{rows_over}
use Rattle.r2u2_cli.specs.Settled.{TellsOf, TellsText}

-- with a specification, its own outputs are reported, over the columns that its signals have under the header
abbrev pub TellsSource : Style → List ℕ → Option (List ℕ) → Program → List Row → Type 0
TellsSource style file header program rows =
    (columns : Columns) × (columns_by (signals_in file) header ≡ Ok columns) × TellsText style file columns program rows

-- the columns of an image's signals: the columns that the header of a trace names, else the image's own columns
abbrev pub columns_under : Columns → List Signal → Option (List ℕ) → Result Columns HeaderFault
columns_under own signals None = Ok own
columns_under own signals (Some line) = columns_by signals (Some line)

-- The program of a file that is the image of a text over its own columns stores the columns that its signals have
-- under the header, and the lines report the text's outputs over these.
pub record TellsImage (style : Style) (text : List ℕ) (own : Columns) (header : Option (List ℕ)) (program : Program)
    (rows : List Row) : Type 0 where
  pub placed : columns_under own (signals_in text) header ≡ Ok (stored_columns program)
  pub told : TellsText style text (stored_columns program) program rows

-- The program of a file that is the image in simplified form stores the columns of its signals too. Under the names of the
-- text's outputs it reports of each later and later times, with words that are settled for the text's own formula, and no
-- later than its delay.
pub record TellsSimple (style : Style) (text : List ℕ) (own : Columns) (header : Option (List ℕ)) (program : Program)
    (rows : List Row) : Type 0 where
  pub placed : columns_under own (signals_in text) header ≡ Ok (stored_columns program)
  pub names : output_names program ≡ map (λ o. o.name) (outputs_in text)
  pub told : (k : ℕ) (o : Output) → slice_get (plain_outputs (stored_columns program) (outputs_in text)) k ≡ Some o
      → TellsSettled style program k o rows

-- With a program file, the outputs that its instructions unfold to are reported. If the file is the image of a text, in
-- version 2 plain or in simplified form, or in version 1, they are the outputs of the text.
pub record TellsProgram (style : Style) (file : List ℕ) (header : Option (List ℕ)) (program : Program)
    (rows : List Row) : Type 0 where
  pub unfolded : TellsOf style program (output_names program) (outputs program) rows
  pub image : (text : List ℕ) (own : Columns) → IsImageFile text own file
      → TellsImage style text own header program rows
  pub simple_image : (text : List ℕ) (own : Columns) → IsSimpleImageFile text own file
      → TellsSimple style text own header program rows
  pub first_image : (text : List ℕ) (own : Columns) → IsFirstImageFile text own file
      → TellsText style text own program rows

-- the outputs of either file are reported
abbrev pub TellsFile : FileKind → Style → List ℕ → Option (List ℕ) → Program → List Row → Type 0
TellsFile kinds.Spec style file header program rows = TellsSource style file header program rows
TellsFile kinds.Program style file header program rows = TellsProgram style file header program rows

-- the outputs of the file are reported after each front of the rows that the program takes
abbrev pub IsSettledBy : RunAsked → List ℕ → Option (List ℕ) → Result Program Status → Bool → List ℕ → Type 0
IsSettledBy asked file header found ended bytes =
    (program : Program) → found ≡ Ok program → (rows more : List Row)
    → (rows_over asked program ended bytes).rows ≡ rows ++ more
    → TellsFile asked.kind asked.style file header program rows
