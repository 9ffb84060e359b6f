-- The text of a program that is shown, from which its image returns.

use Rattle.std.specs.Prelude.{◌≡◌, ℕ, None, Ok, List, ⊤}
use Rattle.mltl_base.specs.declared.program.Columns.{Columns}
use Rattle.mltl_base.specs.declared.program.Program.{Program}
use Rattle.tool_io.specs.declared.host.Place.TheVariants.{Out}
use Rattle.tool_io.specs.Log.{Event, given}
use Rattle.obs_binary.specs.Layout.{spelling}
use Rattle.obs_binary.specs.Faults.{opened}
use Rattle.obs_show.specs.Text.{text as text_of}
use Rattle.obs_verify.specs.Upgrade.{up}
use Rattle.c2po_compile.specs.Front.{first_refusal}
use Rattle.c2po_compile.specs.ImageFiles.{IsImageFile, compile_over, stored_columns}
use Rattle.c2po_compile.specs.Simplified.{IsSimpleImageFile}
use Rattle.tool_words.specs.declared.status.Status.{Status}
use Rattle.tool_words.specs.declared.status.Status.TheVariants.{Done}
use Rattle.c2po_cli.specs.declared.make.Product.{Product}
use Rattle.c2po_cli.specs.declared.make.Product.TheVariants.{Show}
use Rattle.c2po_cli.specs.Asking.{Ask, make}
use Rattle.c2po_cli.specs.Run.{file_in}

-- the text that is written is a specification without a fault, and its image over the columns that a program stores has the
-- bytes of the program's file
pub record Returns (program : Program) (file written : List ℕ) : Type 0 where
  pub faultless : first_refusal written ≡ None
  pub image : spelling (compile_over written (stored_columns program)) ≡ file

-- The text that is written for a file is the text of its program in version 2. If the file is the image of a specification,
-- plain or in simplified form, the text compiles to the image again.
pub record IsShown (file written : List ℕ) : Type 0 where
  pub program : Program
  pub opens : opened file ≡ Ok program
  pub text : written ≡ text_of (up program)
  pub image : (source : List ℕ) (columns : Columns) → IsImageFile source columns file → Returns program file written
  pub simple_image : (source : List ℕ) (columns : Columns) → IsSimpleImageFile source columns file
      → Returns program file written

-- the output for a file that is shown is the text of its program; the output for another product is any
abbrev pub ShowsFile : Product → List ℕ → List ℕ → Type 0
ShowsFile Show file written = IsShown file written
ShowsFile product file written = ⊤

-- the run, if it is done, shows the program of its file
abbrev pub ShowsProgram : Ask → Status → List Event → Type 0
ShowsProgram (make asked) answer events =
    answer ≡ Done → ShowsFile asked.product (file_in asked events) (given Out events)
ShowsProgram asked answer events = ⊤
