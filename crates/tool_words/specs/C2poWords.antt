-- Requests of the arguments of `c2po`.

use Rattle.std.specs.Prelude.{Bool, true, false, ◌||◌, if◌then◌else◌, Option, Some, is_some, unwrap_or, option_map}
use Rattle.std.specs.Prelude.{List, [], ◌∷◌, codes}
use Rattle.std.specs.Option.{option_map_or}
use Rattle.clap.specs.Words.{App, Row, Rule, Text, first_of}
use Rattle.tool_words.specs.declared.c2po_words.C2poAsk as c2po_ask
use Rattle.tool_words.specs.declared.c2po_words.Compile as told
use Rattle.tool_words.specs.Texts.{are_texts}
use Rattle.tool_words.specs.Reading.{command_of, flag, option, positional, is_help, is_set, parsed_rows}

-- `-o FILE` or `--output FILE`; 111 is `o`
abbrev pub output : Rule
output = record (option (codes "output")) { short = Some 111 }

-- `c2po [--header FILE] [-o FILE] [--table] [--simplify] SPEC`, `c2po --upgrade [-o FILE] PROGRAM` or `c2po --show [-o
-- FILE] PROGRAM`
unfoldable pub command : App
command = command_of (codes "c2po")
    (option (codes "header") ∷ output ∷ flag (codes "table") ∷ flag (codes "simplify") ∷ flag (codes "upgrade")
    ∷ flag (codes "show")
    ∷ positional (codes "file") ∷ [])

-- a compilation; without a file the table goes to the standard output
pub record CompileAsked : Type 0 where
  pub header : Option Text
  pub out : Option Text
  pub table : Bool
  pub simplify : Bool
  pub spec : Text

-- a request of the arguments; an upgrade and a text have the file that is written, and the program
pub data C2poRequest : Type 0 where
  help : C2poRequest
  compile : CompileAsked → C2poRequest
  upgrade : Text → Text → C2poRequest
  show : Option Text → Text → C2poRequest
  nothing : C2poRequest

-- the file of `-o`
abbrev pub output_file : List Row → Option Text
output_file found = first_of (codes "output") found

-- the file of `-o`, or `spec.bin` if there is none
abbrev pub named_or_default : List Row → Text
named_or_default found = unwrap_or (output_file found) (codes "spec.bin")

-- a compilation of a specification; `--table` goes to a file only if `-o` names it
abbrev pub compile_in : List Row → Text → CompileAsked
compile_in found spec = record {
  header = first_of (codes "header") found;
  out = if is_set (codes "table") found then output_file found else Some (named_or_default found);
  table = is_set (codes "table") found;
  simplify = is_set (codes "simplify") found;
  spec = spec;
}

-- an option for compiling alone is among the arguments
abbrev pub is_compiling : List Row → Bool
is_compiling found =
    is_some (first_of (codes "header") found) || (is_set (codes "table") found || is_set (codes "simplify") found)

-- `--upgrade` and `--show`, in this order, exclude each other and the options for compiling alone
abbrev pub request_by : Bool → Bool → List Row → Text → C2poRequest
request_by false false found file = compile (compile_in found file)
request_by true false found file = if is_compiling found then nothing else upgrade (named_or_default found) file
request_by false true found file = if is_compiling found then nothing else show (output_file found) file
request_by true true found file = nothing

-- the request of the matches that clap found; a file has to be named
abbrev pub c2po_request_in : List Row → C2poRequest
c2po_request_in found =
    option_map_or (request_by (is_set (codes "upgrade") found) (is_set (codes "show") found) found)
    (first_of (codes "file") found) nothing

-- Help if the only argument is `--help` or `-h`. Otherwise the request of the command, or nothing if the arguments are
-- invalid.
abbrev pub ask_of_texts : List Text → C2poRequest
ask_of_texts words = if is_help words then help else option_map_or c2po_request_in (parsed_rows command words) nothing

-- the request of the arguments, which are invalid if one of them isn't UTF-8
abbrev pub ask : List Text → C2poRequest
ask words = if are_texts words then ask_of_texts words else nothing

-- the compilation of a result
abbrev pub compile_of : told.Compile → CompileAsked
compile_of c =
    record {
      header = option_map (λ name. name.now) c.header;
      out = option_map (λ name. name.now) c.out;
      table = c.table;
      simplify = c.simplify;
      spec = c.spec.now;
    }

-- the request of a result
abbrev pub asked_of : c2po_ask.C2poAsk → C2poRequest
asked_of c2po_ask.TheVariants.Help = help
asked_of (c2po_ask.TheVariants.Compile c) = compile (compile_of c)
asked_of (c2po_ask.TheVariants.Upgrade out program) = upgrade out.now program.now
asked_of (c2po_ask.TheVariants.Show out program) = show (option_map (λ name. name.now) out) program.now
asked_of c2po_ask.TheVariants.Nothing = nothing
