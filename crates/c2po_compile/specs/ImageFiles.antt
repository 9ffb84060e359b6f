-- Program files that are the images of specifications.

use Rattle.std.specs.Prelude.{◌≡◌, ℕ, List, [], None, length, map}
use Rattle.mltl_base.specs.declared.program.Columns.{Columns}
use Rattle.mltl_base.specs.declared.program.Program.{Program}
use Rattle.obs_binary.specs.Layout.{IsEncodable, spelling}
use Rattle.obs_verify.specs.Bound.{bound}
use Rattle.obs_verify.specs.Layout.{HasLayout}
use Rattle.obs_verify.specs.WellFormed.{IsWellFormed}
use Rattle.c2po_compile.specs.Front.{first_refusal}
use Rattle.c2po_compile.specs.Image.{AreColumnsFor, image}
use Rattle.c2po_compile.specs.Compiled.{outputs_in, signals_in}

-- the image of a text over columns of its signals
abbrev pub compile_over : List ℕ → Columns → Program
compile_over text columns = image columns (signals_in text) (outputs_in text)

-- the image in version 1, which stores no signals
abbrev pub compile_first_version : List ℕ → Columns → Program
compile_first_version text columns = record (compile_over text columns) { version = 1; signals = [] }

-- the columns that a program stores
abbrev pub stored_columns : Program → Columns
stored_columns program = record { width = program.width; of_signal = map (λ signal. signal.column) program.signals }

-- the image of a text whose signals are moved to other columns
abbrev pub compile_and_move : List ℕ → Columns → Columns → Program
compile_and_move text old new = bound (compile_over text old) new.width new.of_signal

-- the text has no fault, the verifier finds no fault in its image over the old columns, and there is a new column for each
-- signal
pub record CanMove (text : List ℕ) (old new : Columns) : Type 0 where
  pub faultless : first_refusal text ≡ None
  pub serve : AreColumnsFor (length (signals_in text)) old
  pub layout : HasLayout (compile_over text old)
  pub well_formed : IsWellFormed (compile_over text old)
  pub one_each : length new.of_signal ≡ length (signals_in text)

-- the file has the bytes of the program, the text has no fault, and the columns serve its signals
pub record IsFileOf (text : List ℕ) (columns : Columns) (program : Program) (file : List ℕ) : Type 0 where
  pub faultless : first_refusal text ≡ None
  pub serve : AreColumnsFor (length (signals_in text)) columns
  pub fits : IsEncodable program
  pub bytes : file ≡ spelling program

-- the file has the bytes of the image of the text over the columns
abbrev pub IsImageFile : List ℕ → Columns → List ℕ → Type 0
IsImageFile text columns file = IsFileOf text columns (compile_over text columns) file

-- the file has the bytes of the image in version 1
abbrev pub IsFirstImageFile : List ℕ → Columns → List ℕ → Type 0
IsFirstImageFile text columns file = IsFileOf text columns (compile_first_version text columns) file
