-- The known words of an output, and the reports that a monitor makes of them.
-- A reader of the contracts needs this file.

use Rattle.std.specs.Prelude.{ℕ, suc, ◌+◌, ◌-◌, ◌<◌, ◌≤◌, ◌≡◌, ◌==◌, Bool, true, false, if◌then◌else◌, MatchBool, max}
use Rattle.std.specs.Prelude.{Option, Some, None, List, [], ◌∷◌, ◌++◌, length, map, drop, replicate, slice_get, ⊤}
use Rattle.std.specs.List.{filter, AllAdjacentBelow}
use Rattle.mltl_base.specs.declared.report.Word.{Word}
use Rattle.mltl_base.specs.declared.report.Word.TheVariants.{T, F, Inactive, Invalid, Verified}
use Rattle.mltl_base.specs.declared.report.Style.{Style}
use Rattle.mltl_base.specs.declared.report.Style.TheVariants.{Each, Runs}
use Rattle.mltl_base.specs.declared.report.Report.{Report}
use Rattle.mltl_base.specs.Atoms.{Row}
use Rattle.mltl_base.specs.Formula.{Formula, wpd}
use Rattle.mltl_base.specs.Meaning.{sat}
use Rattle.mltl_base.specs.Verdicts.{verdicts, known_front}

-- an output: a formula, or a contract of two
pub data Output : Type 0 where
  formula : Formula → Output
  contract : Formula → Formula → Output

-- the word of a formula's verdict
abbrev pub word_of : Bool → Word
word_of true = T
word_of false = F

-- the status of a contract, from the known values of its two formulas
abbrev pub status : Option Bool → Option Bool → Option Word
status (Some false) y = Some Inactive
status (Some true) (Some false) = Some Invalid
status (Some true) (Some true) = Some Verified
status _ _ = None

-- the status of a contract at time t, from the known verdicts of its two formulas
abbrev pub known_status : List Row → Formula → Formula → ℕ → Option Word
known_status rows p q t = status (slice_get (verdicts rows p) t) (slice_get (verdicts rows q) t)

-- the words of an output that are known after the rows
unfoldable pub words : List Row → Output → List Word
words rows (formula p) = map word_of (verdicts rows p)
words rows (contract p q) = known_front (known_status rows p q) (length rows)

-- true if the two words are equal
abbrev pub same_word : Word → Word → Bool
same_word T T = true
same_word F F = true
same_word Inactive Inactive = true
same_word Invalid Invalid = true
same_word Verified Verified = true
same_word _ _ = false

-- the status of a contract, from the values of its two formulas
abbrev pub status_of : Bool → Bool → Word
status_of false v = Inactive
status_of true false = Invalid
status_of true true = Verified

-- the word of an output at time t, by the meaning of its formulas on the rows
unfoldable pub meaning : List Row → Output → ℕ → Word
meaning rows (formula p) t = word_of (sat rows p t)
meaning rows (contract p q) t = status_of (sat rows p t) (sat rows q t)

-- the worst-case propagation delay of an output
abbrev pub delay : Output → ℕ
delay (formula p) = wpd p
delay (contract p q) = max (wpd p) (wpd q)

-- each list of rows that begins with these, and is long enough to decide the output at t, gives it this word at t
abbrev pub IsSettled : List Row → Output → ℕ → Word → Type 0
IsSettled rows o t w = (more : List Row) → t + delay o < length (rows ++ more) → meaning (rows ++ more) o t ≡ w

-- true if there is a next word and it is the same
abbrev pub goes_on : Word → List Word → Bool
goes_on w [] = false
goes_on w (v ∷ vs) = same_word w v

-- the reports of an output's new words, from time t on: one for each word, or one for each longest stretch of one word, with
-- its last time
unfoldable pub of_words : Style → ℕ → ℕ → List Word → List Report
of_words style k t [] = []
of_words Each k t (w ∷ ws) = record { out = k; time = t; word = w } ∷ of_words Each k (suc t) ws
of_words Runs k t (w ∷ ws) =
    if goes_on w ws then of_words Runs k (suc t) ws
    else record { out = k; time = t; word = w } ∷ of_words Runs k (suc t) ws

-- the reports that one further row brings, for each output in order; the first output has the number k
unfoldable pub of_row : Style → ℕ → List Output → List Row → Row → List Report
of_row style k [] rows r = []
of_row style k (o ∷ outs) rows r =
    of_words style k (length (words rows o)) (drop (length (words rows o)) (words (rows ++ r ∷ []) o))
    ++ of_row style (suc k) outs rows r

-- the reports of further rows, row by row, after some rows were taken
unfoldable pub reports_after : Style → List Output → List Row → List Row → List Report
reports_after style outs rows [] = []
reports_after style outs rows (r ∷ more) = of_row style 0 outs rows r ++ reports_after style outs (rows ++ r ∷ []) more

-- the reports of all rows
abbrev pub reports : Style → List Output → List Row → List Report
reports style outs rows = reports_after style outs [] rows

-- the words that a report covers if the times below t are covered: its word, once for each time from t up to its own
abbrev pub told_by : ℕ → Report → List Word
told_by t r = replicate (suc r.time - t) r.word

-- the words that the reports of output k cover, one for each time from t on: each report covers the times up to its own that
-- no earlier report covers
unfoldable pub told : ℕ → ℕ → List Report → List Word
told k t [] = []
told k t (r ∷ rs) = if r.out == k then told_by t r ++ told k (suc r.time) rs else told k t rs

-- the reports of output k
abbrev pub reports_of : ℕ → List Report → List Report
reports_of k rs = filter (λ r. r.out == k) rs

-- neighbours among the reports differ in their word
abbrev pub AreDistinctBeside : List Report → Type 0
AreDistinctBeside rs = AllAdjacentBelow (λ r s. ¬ (r.word ≡ s.word)) rs (length rs)

-- the reports of output k have ever later times, from t on
unfoldable pub IsRising : ℕ → ℕ → List Report → Type 0
IsRising k t [] = ⊤
IsRising k t (r ∷ rs) = MatchBool (r.out == k) ((t ≤ r.time) × IsRising k (suc r.time) rs) (IsRising k t rs)
