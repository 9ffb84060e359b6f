-- The delays of a program's outputs, by those that were found for its instructions.

use Rattle.std.proofs.Common.{◌≡◌, ℕ, ◌+◌, ◌<◌, [], List, map, length, slice_index, ap, ◌∙◌, arith}
use Rattle.std.proofs.lemmas.List.{get_or-map, length-map}
use Rattle.mltl_base.specs.declared.interval.Engine.TheVariants as engine
use Rattle.mltl_base.specs.declared.program.Program.{Program}
use Rattle.mltl_base.specs.Atoms.{Atom}
use Rattle.mltl_base.specs.Formula.{bpd, core_wpd, ctrue, plain, wpd}
use Rattle.mltl_base.specs.Programs.{atoms, formula_at, formulas}
use Rattle.mltl_base.specs.Queues.{best_delays, best_of, worst_delays, worst_of}
use Rattle.mltl_base.proofs.Bounds.{past_at_once}
use Rattle.delay_sizes.proofs.DelayLaws.{length-numbered_after}
use Rattle.delay_sizes.proofs.FormulaLaws.{best_of_formulas, worst_of_formulas}
use Rattle.contract_status.proofs.Knowing.{formula_past}

-- each future-time instruction has a worst delay
pub one_each : (program : Program) → length (worst_delays program.ft) ≡ length program.ft
one_each program = omega (arith, length-numbered_after worst_of [] program.ft)

-- and a best one
pub one_best_each : (program : Program) → length (best_delays program.ft) ≡ length program.ft
one_best_each program = omega (arith, length-numbered_after best_of [] program.ft)

-- the worst delay of a future-time instruction is that of its formula
pub future_delay : (program : Program) (i : ℕ) → i < length program.ft → slice_index (worst_delays program.ft) i ≡ wpd (plain (formula_at program engine.Ft i))
future_delay program i inside =
    let loaded : List Atom = atoms program.bz in
    let same : worst_delays program.ft ≡ map core_wpd (formulas loaded program.ft) = worst_of_formulas loaded program.ft in
    let count : length (worst_delays program.ft) ≡ 0 + length program.ft = length-numbered_after worst_of [] program.ft in
    ap (λ (ns : List ℕ). slice_index ns i) same ∙ get_or-map core_wpd (formulas loaded program.ft) i ctrue 0 (omega (arith, ap (λ (ns : List ℕ). length ns) same, length-map (formulas loaded program.ft) core_wpd))

-- the best delay of a future-time instruction is that of its formula
pub future_best : (program : Program) (i : ℕ) → i < length program.ft → slice_index (best_delays program.ft) i ≡ bpd (formula_at program engine.Ft i)
future_best program i inside =
    let loaded : List Atom = atoms program.bz in
    let same : best_delays program.ft ≡ map bpd (formulas loaded program.ft) = best_of_formulas loaded program.ft in
    let count : length (best_delays program.ft) ≡ 0 + length program.ft = length-numbered_after best_of [] program.ft in
    ap (λ (ns : List ℕ). slice_index ns i) same ∙ get_or-map bpd (formulas loaded program.ft) i ctrue 0 (omega (arith, ap (λ (ns : List ℕ). length ns) same, length-map (formulas loaded program.ft) bpd))

-- a past-time instruction has no delay
pub past_delay : (program : Program) (i : ℕ) → wpd (plain (formula_at program engine.Pt i)) ≡ 0
past_delay program i = past_at_once (plain (formula_at program engine.Pt i)) (formula_past program i)
