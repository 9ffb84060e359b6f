-- Verdicts and words in the engines, from some time on.

use Rattle.std.specs.Prelude.{ℕ, ◌≡◌, ◌≢◌, ◌+◌, ◌<◌, ◌≤◌, Bool, Option, Some, None, List, length, slice_get}
use Rattle.std.specs.Prelude.{slice_index}
use Rattle.mltl_base.specs.declared.interval.Engine as engine
use Rattle.mltl_base.specs.declared.program.Out as out
use Rattle.mltl_base.specs.declared.program.Program.{Program}
use Rattle.mltl_base.specs.declared.report.Word.{Word}
use Rattle.mltl_base.specs.declared.report.Style.{Style}
use Rattle.mltl_base.specs.declared.report.Style.TheVariants.{Each, Runs}
use Rattle.mltl_base.specs.Atoms.{Row}
use Rattle.mltl_base.specs.Formula.{plain}
use Rattle.mltl_base.specs.Programs.{formula_at, output_of}
use Rattle.mltl_base.specs.Reports.{formula, contract, words}
use Rattle.mltl_base.specs.Verdicts.{verdicts}
use Rattle.ft_engine.specs.Standing as future
use Rattle.pt_boxes.specs.Standing as past
use Rattle.scq_ring.specs.declared.Seen.{Seen}
use Rattle.scq_ring.specs.declared.Seen.TheVariants.{Run, Nothing}
use Rattle.contract_status.specs.declared.engines.Engines.{Engines}
use Rattle.contract_status.specs.declared.engines.Stretch.{Stretch}
use Rattle.contract_status.specs.Open.{known_counts_of}

-- both engines of the program have taken these rows
pub record HaveTaken (program : Program) (rows : List Row) (engines : Engines) : Type 0 where
  pub future : future.FtHasTaken program rows engines.ft.now
  pub past : past.PtHasTaken program rows engines.pt.now
  pub count : length rows ≡ engines.rows

-- an instruction exists, and its verdicts can be read from this time on: in the past engine only the last row's verdict
abbrev pub CanRead : Engines → engine.Engine → ℕ → ℕ → Type 0
CanRead engines engine.TheVariants.Ft i from =
    (i < future.instruction_count engines.ft.now) × (future.lowest_at engines.ft.now i ≤ from)
CanRead engines engine.TheVariants.Pt i from = (i < past.instruction_count engines.pt.now) × (engines.rows ≤ from + 1)

-- the instructions that an output reports exist, and their verdicts can be read from this time on
abbrev pub CanReport : Engines → out.Out → ℕ → Type 0
CanReport engines (out.TheVariants.Formula engine i name) from = CanRead engines engine i from
CanReport engines (out.TheVariants.Contract engine i j name) from =
    CanRead engines engine i from × CanRead engines engine j from

-- the verdicts of each output's instructions can be read from its next time on
abbrev pub AreReadable : Program → Engines → List ℕ → Type 0
AreReadable program engines next_times =
    (k : ℕ) (out : out.Out) → slice_get program.outs k ≡ Some out → CanReport engines out (slice_index next_times k)

-- the verdicts of an instruction that are known after the rows
abbrev pub known_verdicts : Program → List Row → engine.Engine → ℕ → List Bool
known_verdicts program rows engine i = verdicts rows (plain (formula_at program engine i))

-- the known words of the formula of an instruction
abbrev pub formula_words : Program → List Row → engine.Engine → ℕ → List Word
formula_words program rows engine i = words rows (formula (plain (formula_at program engine i)))

-- the known words of a contract over two instructions, the assumption and the guarantee
abbrev pub contract_words : Program → List Row → engine.Engine → ℕ → ℕ → List Word
contract_words program rows engine i j =
    words rows (contract (plain (formula_at program engine i)) (plain (formula_at program engine j)))

-- the known words of an output
abbrev pub known_words : Program → List Row → out.Out → List Word
known_words program rows out = words rows (output_of program out)

-- the value holds at each time from `from` to `last`
pub record Lasts {X : Type 0} (values : List X) (from last : ℕ) (value : X) : Type 0 where
  pub upward : from ≤ last
  pub alike : (t : ℕ) → from ≤ t → t ≤ last → slice_get values t ≡ Some value

-- the value holds at each time from `from` to `last`, and not at the time after it
pub record IsLongestStretch {X : Type 0} (values : List X) (from last : ℕ) (value : X) : Type 0 where
  pub lasts : Lasts values from last value
  pub ends : slice_get values (last + 1) ≢ Some value

-- the longest run of the verdicts from this time on, or nothing if none is known
abbrev pub ShowsVerdicts : List Bool → ℕ → Seen → Type 0
ShowsVerdicts values from (Run last value) = IsLongestStretch values from last value
ShowsVerdicts values from Nothing = length values ≤ from

-- the longest stretch of one word from this time on, or nothing if none is known
abbrev pub ShowsWords : List Word → ℕ → Option Stretch → Type 0
ShowsWords told from (Some stretch) = IsLongestStretch told from stretch.last stretch.word
ShowsWords told from None = length told ≤ from

-- the first report from a time on ends at this time with a report for each time, else with the longest stretch
abbrev pub IsEnd : Style → List Word → ℕ → ℕ → Word → Type 0
IsEnd Each told from last word = last ≡ from
IsEnd Runs told from last word = slice_get told (last + 1) ≢ Some word

-- the first report from a time on covers the times up to this one
pub record Covers (style : Style) (told : List Word) (from last : ℕ) (word : Word) : Type 0 where
  pub lasts : Lasts told from last word
  pub ends : IsEnd style told from last word

-- the next times of all outputs before output k are past their known words
abbrev pub AreTold : Program → List Row → List ℕ → ℕ → Type 0
AreTold program rows next_times k =
    (j : ℕ) → j < k → slice_index (known_counts_of program rows) j ≤ slice_index next_times j

-- output k is the first that has a known word at its next time, and this is the longest stretch of that word from there
pub record IsFirstOpen (program : Program) (rows : List Row) (next_times : List ℕ) (k : ℕ)
    (stretch : Stretch) : Type 0 where
  pub output : out.Out
  pub there : slice_get program.outs k ≡ Some output
  pub told : AreTold program rows next_times k
  pub here : IsLongestStretch (known_words program rows output) (slice_index next_times k) stretch.last stretch.word

-- the first output with a known word at its next time, or none if each next time is past all known words
abbrev pub FindsOpen : Program → List Row → List ℕ → Option (ℕ × Stretch) → Type 0
FindsOpen program rows next_times (Some (k, stretch)) = IsFirstOpen program rows next_times k stretch
FindsOpen program rows next_times None = AreTold program rows next_times (length program.outs)
