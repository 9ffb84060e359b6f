-- Requests of the arguments of c2po, by product.

use Rattle.std.specs.Prelude.{ℕ, Option, Some, None, option_map, List, [], ◌∷◌, ◌++◌}
use Rattle.tool_io.specs.declared.host.Place.{Place}
use Rattle.tool_io.specs.declared.host.Place.TheVariants.{Header, Out}
use Rattle.tool_words.specs.declared.file_kind.FileKind.{FileKind}
use Rattle.tool_words.specs.declared.file_kind.FileKind.TheVariants.{Spec, Program}
use Rattle.tool_words.specs.C2poWords.{C2poRequest, CompileAsked}
use Rattle.tool_words.specs.C2poWords as words
use Rattle.tool_words.specs.Files.{file_place}
use Rattle.c2po_cli.specs.declared.make.Product.{Product}
use Rattle.c2po_cli.specs.declared.make.Product.TheVariants.{Compiled, Upgrade, Show}
use Rattle.c2po_cli.specs.declared.make.Make as told

-- a request to make a product: of a specification its image or its table in one of two forms, maybe under a header; of a
-- program its upgrade or its text; and the file into which it is written, if one is named
pub record MakeAsked : Type 0 where
  pub product : Product
  pub file : List ℕ
  pub header : Option (List ℕ)
  pub out : Option (List ℕ)

-- a request: help, a product, or nothing
pub data Ask : Type 0 where
  help : Ask
  make : MakeAsked → Ask
  nothing : Ask

-- the image of a specification, or its table, plain or in simplified form
abbrev pub compile_asked : CompileAsked → MakeAsked
compile_asked asked = record {
  product = Compiled (record { table = asked.table; simplify = asked.simplify });
  file = asked.spec;
  header = asked.header;
  out = asked.out;
}

-- a program in version 2
abbrev pub upgrade_asked : List ℕ → List ℕ → MakeAsked
upgrade_asked out program = record { product = Upgrade; file = program; header = None; out = Some out }

-- a program as text, on the standard output if no file is named
abbrev pub show_asked : Option (List ℕ) → List ℕ → MakeAsked
show_asked out program = record { product = Show; file = program; header = None; out = out }

-- the request of the arguments that were read
abbrev pub served : C2poRequest → Ask
served words.help = help
served (words.compile asked) = make (compile_asked asked)
served (words.upgrade out program) = make (upgrade_asked out program)
served (words.show out program) = make (show_asked out program)
served words.nothing = nothing

-- the request of the arguments
unfoldable pub ask : List (List ℕ) → Ask
ask list = served (words.ask list)

-- the kind of the file
abbrev pub file_kind : Product → FileKind
file_kind (Compiled form) = Spec
file_kind Upgrade = Program
file_kind Show = Program

-- a place with the name of a file, if one is named
abbrev pub place_named : Place → Option (List ℕ) → List (Place × List ℕ)
place_named p None = []
place_named p (Some name) = (p, name) ∷ []

-- the places that are read, with their names, in order
abbrev pub read_names : MakeAsked → List (Place × List ℕ)
read_names asked = (file_place (file_kind asked.product), asked.file) ∷ place_named Header asked.header

-- the places that the request attaches, with their names, in order: the places that are read, and the output
abbrev pub asked_names : Ask → List (Place × List ℕ)
asked_names help = []
asked_names (make asked) = read_names asked ++ place_named Out asked.out
asked_names nothing = []

-- the request in the code
abbrev pub make_of : told.Make → MakeAsked
make_of m =
    record {
      product = m.product;
      file = m.file.now;
      header = option_map (λ name. name.now) m.header;
      out = option_map (λ name. name.now) m.out;
    }
