-- Parts of the arguments of both commands: help, the arguments that a command takes, flags and numbers.

use Rattle.std.specs.Prelude.{ℕ, Bool, true, false, ◌&&◌, ◌||◌, if◌then◌else◌, nat_lt, nat_le, Option, Some, None, List}
use Rattle.std.specs.Prelude.{[], ◌∷◌, length, codes}
use Rattle.std.specs.Option.{option_map_or}
use Rattle.std.specs.Str.{bytes_eq, all_ascii_digits}
use Rattle.std.specs.Str.Parse.{digits_value}
use Rattle.clap.specs.declared.builder.action.ArgAction.TheVariants.{SetTrue}
use Rattle.clap.specs.declared.parser.matches.ArgMatches.{ArgMatches}
use Rattle.clap.specs.Walk.{is_empty}
use Rattle.clap.specs.Simple.{new_shape}
use Rattle.clap.specs.Words.{App, Row, Rule, Text, fault_of, first_of, found_of, matches_of, new_rule, rows_of}

-- the only argument is `--help` or `-h`
abbrev pub is_help : List Text → Bool
is_help (word ∷ []) = bytes_eq word (codes "--help") || bytes_eq word (codes "-h")
is_help words = false

-- a flag `--NAME`
abbrev pub flag : Text → Rule
flag name = record (new_rule name) { long = Some name; action = Some SetTrue }

-- an option `--NAME VALUE`
abbrev pub option : Text → Rule
option name = record (new_rule name) { long = Some name }

-- a positional argument
abbrev pub positional : Text → Rule
positional name = new_rule name

-- a command with these arguments, without `--help`; the program's name isn't an argument
abbrev pub command_of : Text → List Rule → App
command_of name rules =
    record {
      top = record (new_shape name) { rules = rules; no_binary_name = true; disable_help_flag = true };
      subs = [];
    }

-- the matches that clap finds in the arguments, if its parse has no fault
abbrev pub parsed_rows : App → List Text → Option (List Row)
parsed_rows app words = if is_empty (fault_of app words) then Some (matches_of app words) else None

-- the matches of a parse
abbrev pub rows : ArgMatches → List Row
rows m = rows_of (found_of m)

-- the flag is among the arguments
abbrev pub is_set : Text → List Row → Bool
is_set name found = option_map_or (λ value. bytes_eq value (codes "true")) (first_of name found) false

-- the argument consists of one to `digits` decimal digits, and its value is from `least` to `greatest`
abbrev pub is_number : ℕ → ℕ → ℕ → Text → Bool
is_number digits least greatest word = all_ascii_digits word && (nat_lt 0 (length word) && (nat_le (length word) digits
    && (nat_le least (digits_value 10 word) && nat_le (digits_value 10 word) greatest)))

-- the value of a word that is such a number
abbrev pub word_value : ℕ → ℕ → ℕ → Text → Option ℕ
word_value digits least greatest word =
    if is_number digits least greatest word then Some (digits_value 10 word) else None
