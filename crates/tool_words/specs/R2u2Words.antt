-- Requests of the arguments of `r2u2`.

use Rattle.std.specs.Prelude.{ℕ, ◌≤◌, Bool, ◌&&◌, ◌==◌, not, if◌then◌else◌, Option, Some, is_some, unwrap_or}
use Rattle.std.specs.Prelude.{option_map, option_and_then, List, [], ◌∷◌, codes, ⊤}
use Rattle.std.specs.List.{before_first, after_first}
use Rattle.std.specs.Option.{option_map_or}
use Rattle.mltl_base.specs.declared.limits.TheConstants.{MAX_MISSION, TIMED_MISSION}
use Rattle.clap.specs.Words.{App, Row, Text, first_of}
use Rattle.mltl_base.specs.declared.report.Style.{Style}
use Rattle.mltl_base.specs.declared.report.Style.TheVariants.{Each, Runs}
use Rattle.tool_words.specs.declared.file_kind.FileKind.{FileKind}
use Rattle.tool_words.specs.declared.file_kind.FileKind.TheVariants.{Spec, Program}
use Rattle.tool_words.specs.declared.r2u2_words.R2u2Ask as r2u2_ask
use Rattle.tool_words.specs.declared.r2u2_words.Run as told
use Rattle.tool_words.specs.Texts.{are_texts}
use Rattle.tool_words.specs.Reading.{command_of, flag, option, positional, is_help, is_set, parsed_rows, word_value}

-- `r2u2 [--source] [--runs] [--timed] [--mission-time N] FILE [TRACE]` or `r2u2 --demo SEED,ROWS`
unfoldable pub command : App
command = command_of (codes "r2u2")
    (flag (codes "source") ∷ flag (codes "runs") ∷ flag (codes "timed") ∷ option (codes "mission-time")
    ∷ option (codes "demo")
    ∷ positional (codes "file") ∷ positional (codes "trace") ∷ [])

-- a run over a trace
pub record RunAsked : Type 0 where
  pub kind : FileKind
  pub style : Style
  pub timed : Bool
  pub mission : ℕ
  pub file : Text
  pub trace : Text

-- a request of the arguments; a demo has its seed and its number of rows
pub data R2u2Request : Type 0 where
  help : R2u2Request
  run : RunAsked → R2u2Request
  demo : ℕ → ℕ → R2u2Request
  nothing : R2u2Request

-- the file is a specification if `--source` is among the arguments, else a program
abbrev pub kind_in : List Row → FileKind
kind_in found = if is_set (codes "source") found then Spec else Program

-- reports are for stretches if `--runs` is among the arguments, else for each time
abbrev pub style_in : List Row → Style
style_in found = if is_set (codes "runs") found then Runs else Each

-- the number of `--mission-time`; without it the greatest mission time, or the usual one if `--timed` is among the arguments
abbrev pub mission_in : List Row → Option ℕ
mission_in found = option_map_or (word_value 13 1 MAX_MISSION) (first_of (codes "mission-time") found)
    (Some (if is_set (codes "timed") found then TIMED_MISSION else MAX_MISSION))

-- the run over a file, with `-` for an absent trace
abbrev pub run_with : List Row → Text → ℕ → RunAsked
run_with found file mission = record {
  kind = kind_in found;
  style = style_in found;
  timed = is_set (codes "timed") found;
  mission = mission;
  file = file;
  trace = unwrap_or (first_of (codes "trace") found) (codes "-");
}

-- a run, if a file is named and the mission time can be read
abbrev pub run_in : List Row → Option RunAsked
run_in found =
    option_and_then (λ file. option_map (run_with found file) (mission_in found)) (first_of (codes "file") found)

-- no file is named, so no trace either, and there is no option but `--demo`
abbrev pub is_demo_alone : List Row → Bool
is_demo_alone found =
    not (is_set (codes "source") found) && (not (is_set (codes "runs") found) && (not (is_set (codes "timed") found)
    && (not (is_some (first_of (codes "mission-time") found)) && not (is_some (first_of (codes "file") found)))))

-- a demo, if both its seed and its number of rows could be read
abbrev pub demo_with : Option ℕ → Option ℕ → R2u2Request
demo_with (Some seed) (Some rows) = demo seed rows
demo_with seed rows = nothing

-- the demo of SEED,ROWS: two numbers around the first comma
abbrev pub demo_in : Text → R2u2Request
demo_in word =
    demo_with (word_value 10 0 4294967295 (before_first (λ b. b == 44) word))
    (word_value 10 1 10000000 (after_first (λ b. b == 44) word))

-- the request of the matches that clap found
abbrev pub r2u2_request_in : List Row → R2u2Request
r2u2_request_in found =
    option_map_or (λ word. if is_demo_alone found then demo_in word else nothing) (first_of (codes "demo") found)
    (option_map_or run (run_in found) nothing)

-- Help if the only argument is `--help` or `-h`. Otherwise the request of the command, or nothing if the arguments are
-- invalid.
abbrev pub ask_of_texts : List Text → R2u2Request
ask_of_texts words = if is_help words then help else option_map_or r2u2_request_in (parsed_rows command words) nothing

-- the request of the arguments, which are invalid if one of them isn't UTF-8
abbrev pub ask : List Text → R2u2Request
ask words = if are_texts words then ask_of_texts words else nothing

-- the run of a result
abbrev pub run_of : told.Run → RunAsked
run_of r =
    record {
      kind = r.kind;
      style = r.style;
      timed = r.timed;
      mission = r.mission;
      file = r.file.now;
      trace = r.trace.now;
    }

-- the request of a result
abbrev pub asked_of : r2u2_ask.R2u2Ask → R2u2Request
asked_of r2u2_ask.TheVariants.Help = help
asked_of (r2u2_ask.TheVariants.Run r) = run (run_of r)
asked_of (r2u2_ask.TheVariants.Demo seed rows) = demo seed rows
asked_of r2u2_ask.TheVariants.Nothing = nothing

-- a mission time is from 1 to the greatest mission time, and a demo has from 1 to 10,000,000 rows
abbrev pub IsInBounds : r2u2_ask.R2u2Ask → Type 0
IsInBounds (r2u2_ask.TheVariants.Run r) = (1 ≤ r.mission) × (r.mission ≤ MAX_MISSION)
IsInBounds (r2u2_ask.TheVariants.Demo seed rows) = (1 ≤ rows) × (rows ≤ 10000000)
IsInBounds other = ⊤
