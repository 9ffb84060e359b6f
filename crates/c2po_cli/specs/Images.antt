-- The program file that is written for a specification, or for a program that is upgraded.

use Rattle.std.specs.Prelude.{◌≡◌, ℕ, Bool, true, false, Option, Some, None, Ok, List, ⊤}
use Rattle.mltl_base.specs.declared.program.Columns.{Columns}
use Rattle.c2po_compile.specs.Compiled.{columns_by, signals_in}
use Rattle.c2po_compile.specs.ImageFiles.{IsImageFile}
use Rattle.c2po_compile.specs.Simplified.{IsSimpleImageFile}
use Rattle.c2po_cli.specs.declared.make.Form.{Form}
use Rattle.c2po_cli.specs.declared.make.Product.{Product}
use Rattle.c2po_cli.specs.declared.make.Product.TheVariants.{Compiled, Upgrade, Show}
use Rattle.c2po_cli.specs.Made.{first_line}
use Rattle.c2po_cli.specs.Upgrading.{IsUpgraded}

-- a file has the bytes of the image of a text, plain or in simplified form
abbrev pub IsFileBy : Bool → List ℕ → Columns → List ℕ → Type 0
IsFileBy false text columns file = IsImageFile text columns file
IsFileBy true text columns file = IsSimpleImageFile text columns file

-- a file has the bytes of the image of a text over the columns of its signals, by a header line or in order of declaration
pub record IsFileUnder (simplify : Bool) (text : List ℕ) (header : Option (List ℕ)) (file : List ℕ) : Type 0 where
  pub columns : Columns
  pub found : columns_by (signals_in text) header ≡ Ok columns
  pub is_image : IsFileBy simplify text columns file

-- the header of a compilation: the first line of the header file, if one is named
abbrev pub asked_header : Option (List ℕ) → List (List ℕ) → Option (List ℕ)
asked_header None lines = None
asked_header (Some name) lines = Some (first_line lines)

-- the output for a text in this form, unless it is a table, is the file of its image
abbrev pub WritesImage : Form → List ℕ → Option (List ℕ) → List ℕ → Type 0
WritesImage form text header file = form.table ≡ false → IsFileUnder form.simplify text header file

-- the bytes that a compilation writes are the file of an image, the bytes of an upgrade are of version 2, and the bytes of a
-- text are any
abbrev pub GivesFile : Product → Option (List ℕ) → List ℕ → List (List ℕ) → List ℕ → Type 0
GivesFile (Compiled form) header file lines bytes = WritesImage form file (asked_header header lines) bytes
GivesFile Upgrade header file lines bytes = IsUpgraded file bytes
GivesFile Show header file lines bytes = ⊤
