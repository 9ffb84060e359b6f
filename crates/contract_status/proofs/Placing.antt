-- Next times of outputs after some rows: what an output reads from its next time on is kept.

use Rattle.std.proofs.Common.{◌≡◌, ℕ, ◌+◌, ◌<◌, ◌≤◌, ◌⊎◌, inl, inr, Some, List, [], ◌∷◌, ◌++◌, length, map, slice_get, slice_index, slice_index_or, refl, ap, subst, ◌∙◌, arith, length-append}
use Rattle.std.proofs.lemmas.List.{get_or-append-add, get_or-map, length-map}
use Rattle.std.proofs.lemmas.Option.{get_or_from_slice_get, slice_get_within}
use Rattle.mltl_base.specs.declared.interval.Engine as engine
use Rattle.mltl_base.specs.declared.program.Out as out
use Rattle.mltl_base.specs.declared.program.Program.{Program}
use Rattle.mltl_base.specs.Atoms.{Row, Atom}
use Rattle.mltl_base.specs.Formula.{plain, core_wpd, ctrue, wpd}
use Rattle.mltl_base.specs.Programs.{atoms, formula_at, formulas, output_of}
use Rattle.mltl_base.specs.Queues.{NamesInstructions, operands, readers, reported, widest, worst_delays, worst_of}
use Rattle.mltl_base.specs.Reports.{delay}
use Rattle.mltl_base.proofs.Bounds.{past_at_once}
use Rattle.mltl_base.proofs.Words.{words_in_time}
use Rattle.delay_sizes.proofs.DelayLaws.{length-numbered_after}
use Rattle.delay_sizes.proofs.FormulaLaws.{worst_of_formulas}
use Rattle.delay_sizes.proofs.QueueLaws.{widest_covers}
use Rattle.obs_verify.specs.WellFormed.{IsWellFormed}
use Rattle.obs_verify.proofs.RunLaws.{all_named}
use Rattle.ft_engine.specs.declared.Ft.{Ft as FutureEngine}
use Rattle.ft_engine.specs.Standing as future
use Rattle.contract_status.specs.declared.engines.Engines.{Engines}
use Rattle.contract_status.specs.Open.{ArePlaced}
use Rattle.contract_status.specs.Stretches.{CanReport, HaveTaken}
use Rattle.contract_status.proofs.Knowing.{formula_past}
use Rattle.contract_status.proofs.Stretching.{count_at}

-- outputs of a well-formed program name instructions
pub named : (program : Program) (k : ℕ) (output : out.Out) → IsWellFormed program → slice_get program.outs k ≡ Some output → NamesInstructions (length program.ft) (length program.pt) output
named program k output formed there =
    let inside : k < length program.outs = slice_get_within program.outs k output there in
    let here : slice_index_or program.outs k output ≡ output = get_or_from_slice_get program.outs k output output there in
    subst (NamesInstructions (length program.ft) (length program.pt)) here (all_named program formed k output inside)

-- the worst delay of an instruction is that of its formula
worst_of_formula : (program : Program) (i : ℕ) → i < length program.ft → slice_index (worst_delays program.ft) i ≡ core_wpd (formula_at program engine.TheVariants.Ft i)
worst_of_formula program i inside =
    let loaded : List Atom = atoms program.bz in
    let same : worst_delays program.ft ≡ map core_wpd (formulas loaded program.ft) = worst_of_formulas loaded program.ft in
    let count : length (worst_delays program.ft) ≡ 0 + length program.ft = length-numbered_after worst_of [] program.ft in
    ap (λ (ns : List ℕ). slice_index ns i) same ∙ get_or-map core_wpd (formulas loaded program.ft) i ctrue 0 (omega (arith, ap (λ (ns : List ℕ). length ns) same, length-map (formulas loaded program.ft) core_wpd))

-- the width of an instruction covers the worst delay of each instruction that an output reports beside it
reader_of : (program : Program) (k : ℕ) (output : out.Out) → slice_get program.outs k ≡ Some output → slice_index_or (readers program.ft program.outs) (length program.ft + k) [] ≡ reported output
reader_of program k output there =
    let before : List (List ℕ) = map operands program.ft in
    let after : List (List ℕ) = map reported program.outs in
    let next_time : length program.ft + k ≡ length before + k = omega (arith, length-map program.ft operands) in
    ap (slice_index_or (before ++ after) (length program.ft + k)) refl
    ∙ ap (λ i. slice_index_or (before ++ after) i []) next_time
    ∙ get_or-append-add before after k []
    ∙ get_or-map reported program.outs k output [] (slice_get_within program.outs k output there)
    ∙ ap reported (get_or_from_slice_get program.outs k output output there)

covered : (program : Program) (k : ℕ) (output : out.Out) (i j : ℕ) → slice_get program.outs k ≡ Some output → i < length (reported output) → j < length (reported output)
    → slice_index (worst_delays program.ft) (slice_index (reported output) j) ≤ future.queue_width program (slice_index (reported output) i)
covered program k output i j there first second =
    let reads : List (List ℕ) = readers program.ft program.outs in
    let reader = reader_of program k output there in
    let exists : length program.ft + k < length reads = omega (arith, length-append (map operands program.ft) (map reported program.outs), length-map program.ft operands, length-map program.outs reported, slice_get_within program.outs k output there) in
    let wide = widest_covers (worst_delays program.ft) reads (length program.ft + k) i j exists (omega (arith, ap length reader)) (omega (arith, ap length reader)) in
    subst (λ (read : List ℕ). slice_index (worst_delays program.ft) (slice_index read j) ≤ widest (worst_delays program.ft) reads (slice_index read i)) reader wide

-- so it covers the delay of the output
pub delay_covered : (program : Program) (k : ℕ) (output : out.Out) (i : ℕ) → NamesInstructions (length program.ft) (length program.pt) output → slice_get program.outs k ≡ Some output → i < length (reported output)
    → delay (output_of program output) ≤ future.queue_width program (slice_index (reported output) i)
delay_covered program k (out.TheVariants.Formula engine.TheVariants.Ft g name) i names there inside =
    omega (arith, covered program k (out.TheVariants.Formula engine.TheVariants.Ft g name) i 0 there inside (omega arith), worst_of_formula program g names)
delay_covered program k (out.TheVariants.Contract engine.TheVariants.Ft l r name) i names there inside =
    omega (
      arith,
      covered program k (out.TheVariants.Contract engine.TheVariants.Ft l r name) i 0 there inside (omega arith),
      covered program k (out.TheVariants.Contract engine.TheVariants.Ft l r name) i 1 there inside (omega arith),
      worst_of_formula program l names.0,
      worst_of_formula program r names.1,
    )
delay_covered program k (out.TheVariants.Formula engine.TheVariants.Pt g name) i names there inside = absurd (omega arith)
delay_covered program k (out.TheVariants.Contract engine.TheVariants.Pt l r name) i names there inside = absurd (omega arith)

-- rows are none, or end with a last one
abbrev HasLast : List Row → Type 0
HasLast rows = (before : List Row) × (row : Row) × (rows ≡ before ++ row ∷ [])

last_row : (rows : List Row) → (rows ≡ []) ⊎ HasLast rows
last_row [] = inl refl
last_row (r ∷ rows) = elim (last_row rows) [
  | inl none ↦ inr ([], r, ap (λ (more : List Row). r ∷ more) none)
  | inr last ↦ inr (r ∷ last.0, last.1, ap (λ (more : List Row). r ∷ more) last.2)
]

-- the next time of an output is not before what was known in time before the last row
pub next_time_recent : (program : Program) (rows : List Row) (next_times : List ℕ) (k : ℕ) (output : out.Out) → ArePlaced program rows next_times → slice_get program.outs k ≡ Some output
    → length rows ≤ slice_index next_times k + delay (output_of program output) + 1
next_time_recent program rows next_times k output placed there = elim (last_row rows) [
  | inl none ↦ omega (arith, ap (λ (some : List Row). length some) none)
  | inr last ↦
      omega (
        arith,
        ap (λ (some : List Row). length some) last.2,
        length-append last.0 (last.1 ∷ []),
        placed.recent last.0 last.1 last.2 k (slice_get_within program.outs k output there),
        count_at program last.0 k output there,
        words_in_time last.0 (output_of program output),
      )
]

-- the verdicts of an instruction from the next time of an output that reports it on are kept
pub entry_kept : (program : Program) (rows : List Row) (ft : FutureEngine) (next_times : List ℕ) (k : ℕ) (output : out.Out) (i : ℕ) → IsWellFormed program → future.FtHasTaken program rows ft → ArePlaced program rows next_times
    → slice_get program.outs k ≡ Some output → i < length (reported output) → slice_index (reported output) i < length program.ft → future.lowest_at ft (slice_index (reported output) i) ≤ slice_index next_times k
entry_kept program rows ft next_times k output i formed stands placed there inside exists =
    omega (arith, stands.lows (slice_index (reported output) i) exists, delay_covered program k output i (named program k output formed there) there inside, next_time_recent program rows next_times k output placed there)

-- an output of the past has no delay
past_delay : (program : Program) (i : ℕ) → wpd (plain (formula_at program engine.TheVariants.Pt i)) ≡ 0
past_delay program i = past_at_once (plain (formula_at program engine.TheVariants.Pt i)) (formula_past program i)

-- from its next time on, each output can be read
pub readable : (program : Program) (rows : List Row) (engines : Engines) (next_times : List ℕ) (k : ℕ) (output : out.Out) → IsWellFormed program → HaveTaken program rows engines → ArePlaced program rows next_times
    → slice_get program.outs k ≡ Some output → CanReport engines output (slice_index next_times k)
readable program rows engines next_times k (out.TheVariants.Formula engine.TheVariants.Ft g name) formed taken placed there =
    let output = out.TheVariants.Formula engine.TheVariants.Ft g name in
    let exists : g < length program.ft = named program k output formed there in
    (omega (arith, taken.future.count), entry_kept program rows engines.ft.now next_times k output 0 formed taken.future placed there (omega arith) exists)
readable program rows engines next_times k (out.TheVariants.Formula engine.TheVariants.Pt g name) formed taken placed there =
    let output = out.TheVariants.Formula engine.TheVariants.Pt g name in
    let exists : g < length program.pt = named program k output formed there in
    (omega (arith, taken.past.count), omega (arith, taken.count, past_delay program g, next_time_recent program rows next_times k output placed there))
readable program rows engines next_times k (out.TheVariants.Contract engine.TheVariants.Ft l r name) formed taken placed there =
    let output = out.TheVariants.Contract engine.TheVariants.Ft l r name in
    let exists = named program k output formed there in (
      (omega (arith, taken.future.count, exists.0), entry_kept program rows engines.ft.now next_times k output 0 formed taken.future placed there (omega arith) exists.0),
      (omega (arith, taken.future.count, exists.1), entry_kept program rows engines.ft.now next_times k output 1 formed taken.future placed there (omega arith) exists.1),
    )
readable program rows engines next_times k (out.TheVariants.Contract engine.TheVariants.Pt l r name) formed taken placed there =
    let output = out.TheVariants.Contract engine.TheVariants.Pt l r name in
    let exists = named program k output formed there in
    let late : engines.rows ≤ slice_index next_times k + 1 = omega (arith, taken.count, past_delay program l, past_delay program r, next_time_recent program rows next_times k output placed there) in
    ((omega (arith, taken.past.count, exists.0), late), (omega (arith, taken.past.count, exists.1), late))
