-- Places once all reports were given, and after the row that follows.

use Rattle.std.proofs.Common.{◌≡◌, ℕ, zero, suc, ◌+◌, ◌<◌, ◌≤◌, List, [], ◌∷◌, ◌++◌, length, drop, slice_get, slice_index, refl, ap, subst, ◌∙◌, le_refl, arith, length-append}
use Rattle.std.specs.Prelude.{Some, Contains}
use Rattle.std.proofs.lemmas.List.{get_or_default, length-drop, length-map}
use Rattle.mltl_base.specs.declared.interval.Engine.TheVariants.{Ft, Pt}
use Rattle.mltl_base.specs.declared.program.Out.{Out}
use Rattle.mltl_base.specs.declared.program.Out.TheVariants.{Formula, Contract}
use Rattle.mltl_base.specs.declared.program.Program.{Program}
use Rattle.mltl_base.specs.declared.report.Word.{Word}
use Rattle.mltl_base.specs.declared.report.Style.{Style}
use Rattle.mltl_base.specs.Atoms.{Row}
use Rattle.mltl_base.specs.Programs.{output_of, outputs}
use Rattle.mltl_base.specs.Queues.{NamesInstructions, reported}
use Rattle.mltl_base.specs.Reports.{Output, delay, of_words, words}
use Rattle.mltl_base.proofs.Words.{words_begin, words_in_time}
use Rattle.obs_verify.specs.WellFormed.{IsWellFormed}
use Rattle.ft_engine.specs.declared.Ft.{Ft as FutureEngine}
use Rattle.ft_engine.specs.Standing.{FtHasTaken, lowest_at, queue_width}
use Rattle.contract_status.specs.Open.{ArePlaced, known_counts, known_counts_of, left_open, open_of}
use Rattle.contract_status.proofs.Opening.{append_none, none_open}
use Rattle.contract_status.proofs.Moving.{none_left}
use Rattle.contract_status.proofs.Placing.{delay_covered, entry_kept, named}
use Rattle.contract_status.proofs.Stretching.{count_at}

-- nothing is left exactly at the numbers of known words
all_told : (next_time : ℕ) (ws : List Word) → next_time ≤ length ws → drop next_time ws ≡ [] → next_time ≡ length ws
all_told next_time ws within none = omega (arith, length-drop next_time ws, ap length none)

told_counts : (style : Style) (rows : List Row) (n : ℕ) (outs : List Output) (next_times : List ℕ) → length next_times ≡ length outs → ((j : ℕ) → j < length outs → slice_index next_times j ≤ slice_index (known_counts rows outs) j)
    → left_open style rows n outs next_times ≡ [] → next_times ≡ known_counts rows outs
unfolding left_open
told_counts style rows n [] [] same within none = refl
told_counts style rows n [] (next_time ∷ next_times) same within none = absurd (omega arith)
told_counts style rows n (o ∷ outs) [] same within none = absurd (omega arith)
told_counts style rows n (o ∷ outs) (next_time ∷ next_times) same within none =
    let ws : List Word = words rows o in
    let parts = append_none (of_words style n next_time (drop next_time ws)) (left_open style rows (suc n) outs next_times) none in
    let here : next_time ≡ length ws = all_told next_time ws (within 0 (omega arith)) (none_open style n next_time (drop next_time ws) parts.0) in
    let rest : next_times ≡ known_counts rows outs = told_counts style rows (suc n) outs next_times (omega arith) (λ j below. within (suc j) (omega arith)) parts.1 in
    rw (here, rest) refl

pub drained_counts : (style : Style) (program : Program) (rows : List Row) (next_times : List ℕ) → ArePlaced program rows next_times → open_of style program rows next_times ≡ [] → next_times ≡ known_counts_of program rows
drained_counts style program rows next_times placed none =
    let same : length (outputs program) ≡ length program.outs = length-map program.outs (output_of program) in
    told_counts style rows 0 (outputs program) next_times (omega (arith, placed.count)) (λ j below. placed.known j (omega arith)) none

pub counts_drained : (style : Style) (program : Program) (rows : List Row) → open_of style program rows (known_counts_of program rows) ≡ []
counts_drained style program rows = none_left style rows 0 (outputs program) (known_counts_of program rows) (λ j below. le_refl (slice_index (known_counts_of program rows) j))

-- the numbers of known words are next times after one more row
more_words : (rows more : List Row) (o : Output) → length (words rows o) ≤ length (words (rows ++ more) o)
more_words rows more o =
    let p = words_begin rows more o in
    omega (arith, ap (λ (ws : List Word). length ws) p.1, length-append (words rows o) p.0)

more_counts : (rows more : List Row) (outs : List Output) (k : ℕ) → slice_index (known_counts rows outs) k ≤ slice_index (known_counts (rows ++ more) outs) k
more_counts rows more [] k = omega arith
more_counts rows more (o ∷ outs) zero = more_words rows more o
more_counts rows more (o ∷ outs) (suc k) = more_counts rows more outs k

pub placed_after_row : (program : Program) (rows : List Row) (row : Row) → ArePlaced program (rows ++ row ∷ []) (known_counts_of program rows)
placed_after_row program rows row = record {
  count = length-map (outputs program) (λ o. length (words rows o)) ∙ length-map program.outs (output_of program);
  known = λ k below. more_counts rows (row ∷ []) (outputs program) k;
  recent = λ before last is k below.
      let same : rows ≡ before = same_before rows before row last is in
      rw same (le_refl (slice_index (known_counts_of program before) k));
}
  where
    same_before : (rows before : List Row) (row last : Row) → rows ++ row ∷ [] ≡ before ++ last ∷ [] → rows ≡ before
    same_before [] [] row last is = refl
    same_before [] (b ∷ before) row last is = absurd (omega (arith, ap (λ (some : List Row). length some) is, length-append before (last ∷ [])))
    same_before (r ∷ rows) [] row last is = absurd (omega (arith, ap (λ (some : List Row). length some) is, length-append rows (row ∷ [])))
    same_before (r ∷ rows) (b ∷ before) row last is =
        let first : r ≡ b = cc in
        let rest : rows ++ row ∷ [] ≡ before ++ last ∷ [] = cc in
        rw (first, same_before rows before row last rest) refl

-- in a drained program each next time is at least n less the width of each instruction that its output reports
pub drained_wide : (program : Program) (rows : List Row) (k g : ℕ) (output : Out) → IsWellFormed program → slice_get program.outs k ≡ Some output → Contains (reported output) g → length rows ≤ slice_index (known_counts_of program rows) k + queue_width program g
drained_wide program rows k g output formed there among =
    let here : slice_index (reported output) among.0 ≡ g = get_or_default (reported output) among.0 0 g among.1 ∙ among.2 in
    let covered : delay (output_of program output) ≤ queue_width program g = subst (λ i. delay (output_of program output) ≤ queue_width program i) here (delay_covered program k output among.0 (named program k output formed there) there among.1) in
    omega (arith, covered, count_at program rows k output there, words_in_time rows (output_of program output))

-- the entries that an output reads from its next time on are kept
future_named : (fts pts g : ℕ) (output : Out) → NamesInstructions fts pts output → Contains (reported output) g → g < fts
future_named fts pts g (Formula Ft i name) names (zero, inside, is) = omega (arith, is)
future_named fts pts g (Formula Ft i name) names (suc j, inside, is) = absurd (omega arith)
future_named fts pts g (Contract Ft l r name) names (zero, inside, is) = omega (arith, is, names.0)
future_named fts pts g (Contract Ft l r name) names (suc zero, inside, is) = omega (arith, is, names.1)
future_named fts pts g (Contract Ft l r name) names (suc (suc j), inside, is) = absurd (omega arith)
future_named fts pts g (Formula Pt i name) names among = absurd (omega (arith, among.1))
future_named fts pts g (Contract Pt l r name) names among = absurd (omega (arith, among.1))

pub entries_kept : (program : Program) (rows : List Row) (ft : FutureEngine) (next_times : List ℕ) (k g : ℕ) (output : Out) → IsWellFormed program → FtHasTaken program rows ft → ArePlaced program rows next_times → slice_get program.outs k ≡ Some output → Contains (reported output) g
    → lowest_at ft g ≤ slice_index next_times k
entries_kept program rows ft next_times k g output formed stands placed there among =
    let here : slice_index (reported output) among.0 ≡ g = get_or_default (reported output) among.0 0 g among.1 ∙ among.2 in
    let exists : g < length program.ft = future_named (length program.ft) (length program.pt) g output (named program k output formed there) among in
    subst (λ i. lowest_at ft i ≤ slice_index next_times k) here (entry_kept program rows ft next_times k output among.0 formed stands placed there among.1 (rw here exists))

pub entries_kept_after_row : (program : Program) (rows : List Row) (row : Row) (ft : FutureEngine) (k g : ℕ) (output : Out) → IsWellFormed program → FtHasTaken program (rows ++ row ∷ []) ft → slice_get program.outs k ≡ Some output → Contains (reported output) g
    → lowest_at ft g ≤ slice_index (known_counts_of program rows) k
entries_kept_after_row program rows row ft k g output formed stands there among =
    entries_kept program (rows ++ row ∷ []) ft (known_counts_of program rows) k g output formed stands (placed_after_row program rows row) there among
