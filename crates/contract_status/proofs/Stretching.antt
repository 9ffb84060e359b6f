-- Stretches of words, and the next times of outputs.

use Rattle.std.proofs.Common.{◌≡◌, ℕ, ◌+◌, ◌<◌, ◌≤◌, inl, inr, Some, List, length, slice_get, slice_index, refl, ◌∙◌, ap, arith}
use Rattle.std.proofs.lemmas.Bool.{cases_lt}
use Rattle.std.proofs.lemmas.Option.{get_or_from_slice_get, slice_get-map, slice_get_within}
use Rattle.mltl_base.specs.declared.program.Out as out
use Rattle.mltl_base.specs.declared.program.Program.{Program}
use Rattle.mltl_base.specs.declared.report.Word.{Word}
use Rattle.mltl_base.specs.declared.report.Style.{Style}
use Rattle.mltl_base.specs.declared.report.Style.TheVariants.{Each, Runs}
use Rattle.mltl_base.specs.Atoms.{Row}
use Rattle.mltl_base.specs.Programs.{output_of, outputs}
use Rattle.mltl_base.specs.Reports.{Output, words}
use Rattle.mltl_base.proofs.Words.{words_fit}
use Rattle.contract_status.specs.declared.engines.Stretch.{Stretch}
use Rattle.contract_status.specs.Open.{AreKnown, known_counts_of}
use Rattle.contract_status.specs.Stretches.{Covers, IsFirstOpen, IsLongestStretch, Lasts, known_words}

-- a stretch ends within the words, and within the rows
pub lasts_within : {X : Type 0} (values : List X) (from last : ℕ) (value : X) → Lasts values from last value → last < length values
lasts_within values from last value h = slice_get_within values last value (h.alike last h.upward (omega arith))

pub lasts_in_rows : (program : Program) (rows : List Row) (output : out.Out) (from last : ℕ) (word : Word) → Lasts (known_words program rows output) from last word → last < length rows
lasts_in_rows program rows output from last word h =
    omega (arith, lasts_within (known_words program rows output) from last word h, words_fit rows (output_of program output))

-- the first report from a time on covers that time alone, or the longest stretch
pub covers_one : (told : List Word) (from last : ℕ) (word : Word) → IsLongestStretch told from last word → Covers Each told from from word
covers_one told from last word h =
    let up : from ≤ last = h.lasts.upward in
    record { lasts = record { upward = omega arith; alike = λ t low high. h.lasts.alike t low (omega arith) }; ends = refl }

pub covers_longest : (told : List Word) (from last : ℕ) (word : Word) → IsLongestStretch told from last word → Covers Runs told from last word
covers_longest told from last word h = record { lasts = h.lasts; ends = h.ends }

-- where the same word comes after those that a report covers, the stretch goes on past them
pub stretch_goes_on : (style : Style) (told : List Word) (from covered last : ℕ) (word : Word) → Covers style told from covered word → IsLongestStretch told from last word → slice_get told (covered + 1) ≡ Some word → covered < last
stretch_goes_on style told from covered last word covers h same = elim (cases_lt covered last) [
  | inl before ↦ before
  | inr past ↦
      let up : from ≤ last = h.lasts.upward in
      absurd (h.ends (elim (cases_lt last covered) [
        | inl inside ↦ covers.lasts.alike (last + 1) (omega arith) (omega arith)
        | inr here ↦ let level : last ≡ covered = omega arith in ap (λ (t : ℕ). slice_get told (t + 1)) level ∙ same
      ]))
]

-- the number of known words of an output, among those of all
pub count_at : (program : Program) (rows : List Row) (k : ℕ) (output : out.Out) → slice_get program.outs k ≡ Some output → slice_index (known_counts_of program rows) k ≡ length (known_words program rows output)
count_at program rows k output there =
    let f : Output → ℕ = λ o. length (words rows o) in
    let among : slice_get (outputs program) k ≡ Some (output_of program output) = rw (slice_get-map (output_of program) program.outs k, there) refl in
    let counted : slice_get (known_counts_of program rows) k ≡ Some (length (known_words program rows output)) = rw (slice_get-map f (outputs program) k, among) refl in
    get_or_from_slice_get (known_counts_of program rows) k (length (known_words program rows output)) 0 counted

-- the next time of an output is at most the number of its known words
pub placed_within : (program : Program) (rows : List Row) (next_times : List ℕ) (k : ℕ) (output : out.Out) → AreKnown program rows next_times → slice_get program.outs k ≡ Some output → slice_index next_times k ≤ length (known_words program rows output)
placed_within program rows next_times k output known there =
    omega (arith, known k (slice_get_within program.outs k output there), count_at program rows k output there)

-- all words of one more output were told
pub more_told : (program : Program) (rows : List Row) (next_times : List ℕ) (k : ℕ) (output : out.Out) → slice_get program.outs k ≡ Some output → ((j : ℕ) → j < k → slice_index (known_counts_of program rows) j ≤ slice_index next_times j)
    → length (known_words program rows output) ≤ slice_index next_times k → (j : ℕ) → j < k + 1 → slice_index (known_counts_of program rows) j ≤ slice_index next_times j
more_told program rows next_times k output there told here j below = elim (cases_lt j k) [
  | inl earlier ↦ told j earlier
  | inr late ↦ let same : j ≡ k = omega arith in rw same (omega (arith, count_at program rows k output there))
]

-- the first output that is open
pub first_here : (program : Program) (rows : List Row) (next_times : List ℕ) (k : ℕ) (output : out.Out) (stretch : Stretch) → slice_get program.outs k ≡ Some output → ((j : ℕ) → j < k → slice_index (known_counts_of program rows) j ≤ slice_index next_times j)
    → IsLongestStretch (known_words program rows output) (slice_index next_times k) stretch.last stretch.word → IsFirstOpen program rows next_times k stretch
first_here program rows next_times k output stretch there told here = record { output = output; there = there; told = told; here = here }
