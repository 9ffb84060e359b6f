-- One row brings few reports.

use Rattle.std.proofs.Common.{◌≡◌, ℕ, suc, ◌+◌, ◌-◌, ◌≤◌, zero, Bool, true, false, Option, None, List, [], ◌∷◌, ◌++◌, if◌then◌else◌, length, drop, map, slice_get, sum_by, sym, subst, ap, arith, length-append, length-drop}
use Rattle.std.specs.List.{AllByRecursion}
use Rattle.std.proofs.lemmas.List.{length-map}
use Rattle.std.proofs.lemmas.List.Elements.{recursion_from_All}
use Rattle.std.proofs.lemmas.List.Sums.{sum_by-cons}
use Rattle.std.proofs.lemmas.Option.{slice_get_past}
use Rattle.mltl_base.specs.declared.interval.Engine.TheVariants as engine
use Rattle.mltl_base.specs.declared.limits.TheConstants.{MAX_BOUND}
use Rattle.mltl_base.specs.declared.operators.FtOp.{FtOp}
use Rattle.mltl_base.specs.declared.operators.FtOp.TheVariants as ft
use Rattle.mltl_base.specs.declared.program.Out as out
use Rattle.mltl_base.specs.declared.program.Program.{Program}
use Rattle.mltl_base.specs.declared.report.Report.{Report}
use Rattle.mltl_base.specs.declared.report.Style.{Style}
use Rattle.mltl_base.specs.declared.report.Style.TheVariants.{Each, Runs}
use Rattle.mltl_base.specs.declared.report.Word.{Word}
use Rattle.mltl_base.specs.Atoms.{Atom, Row}
use Rattle.mltl_base.specs.Formula.{Core, Formula, bpd, plain}
use Rattle.mltl_base.specs.Programs.{atoms, core_at, formula_at, op_formula, formulas_after, output_of}
use Rattle.mltl_base.specs.Queues.{HasBounds}
use Rattle.mltl_base.specs.Reports.{Output, contract, delay, formula, goes_on, known_status, of_row, of_words, status, words}
use Rattle.mltl_base.specs.Settled.{IsOrdered}
use Rattle.mltl_base.specs.Verdicts.{verdicts}
use Rattle.mltl_base.proofs.Bounds.{frontier_at_most, past_at_once}
use Rattle.mltl_base.proofs.Fronts.{front_ends}
use Rattle.mltl_base.proofs.Words.{words_fit, words_in_time}
use Rattle.obs_verify.specs.Layout.{HasLayout}
use Rattle.obs_verify.specs.WellFormed.{IsWellFormed}
use Rattle.obs_verify.proofs.RunLaws.{runs_future}
use Rattle.contract_status.proofs.Knowing.{formula_past}
use Rattle.r2u2_monitor.specs.declared.state.State.{State}
use Rattle.r2u2_monitor.specs.Bursts.{OpensFew, most_of, most_reports}
use Rattle.r2u2_monitor.specs.Monitoring.{program_of}
use Rattle.r2u2_monitor.specs.Monitoring as monitoring
use Rattle.r2u2_monitor.specs.Running.{EnginesTakeRow}

-- there are no more reports than words, in either style
each_few : (k t : ℕ) (ws : List Word) → length (of_words Each k t ws) ≤ length ws
unfolding of_words
each_few k t [] = omega arith
each_few k t (w ∷ ws) = omega (arith, each_few k (suc t) ws)

runs_few : (k t : ℕ) (ws : List Word) → length (of_words Runs k t ws) ≤ length ws
unfolding of_words
runs_few k t [] = omega arith
runs_few k t (w ∷ ws) = go (goes_on w ws) (runs_few k (suc t) ws)
  where
    go : (b : Bool) → length (of_words Runs k (suc t) ws) ≤ length ws
        → length (if b then of_words Runs k (suc t) ws else record { out = k; time = t; word = w } ∷ of_words Runs k (suc t) ws) ≤ suc (length ws)
    go true h = omega (arith, h)
    go false h = omega (arith, h)

reports_few : (style : Style) (k t : ℕ) (ws : List Word) → length (of_words style k t ws) ≤ length ws
reports_few Each k t ws = each_few k t ws
reports_few Runs k t ws = runs_few k t ws

-- intervals of future-time instructions run upward, so those of their formulas do
abbrev AreOrdered : List Core → Type 0
AreOrdered cores = (n : ℕ) → IsOrdered (plain (core_at cores n))

ordered_op : (loaded : List Atom) (before : List Core) (op : FtOp) → AreOrdered before → HasBounds MAX_BOUND op → IsOrdered (plain (op_formula loaded before op))
unfolding plain
ordered_op loaded before (ft.Not g) h b = h g
ordered_op loaded before (ft.And l r) h b = (h l, h r)
ordered_op loaded before (ft.Until l r i) h b = (b.0, (h l, h r))
ordered_op loaded before op h b = tt

ordered_next : (before : List Core) (p : Core) → AreOrdered before → IsOrdered (plain p) → AreOrdered (before ++ p ∷ [])
unfolding plain
ordered_next [] p h g zero = g
ordered_next [] p h g (suc n) = tt
ordered_next (q ∷ before) p h g zero = h 0
ordered_next (q ∷ before) p h g (suc n) = ordered_next before p (λ n. h (suc n)) g n

ordered_after : (loaded : List Atom) (before : List Core) (ops : List FtOp) → AreOrdered before → AllByRecursion (HasBounds MAX_BOUND) ops → AreOrdered (formulas_after loaded before ops)
unfolding formulas_after
ordered_after loaded before [] h b = h
ordered_after loaded before (op ∷ ops) h b =
    ordered_after loaded (before ++ op_formula loaded before op ∷ []) ops (ordered_next before (op_formula loaded before op) h (ordered_op loaded before op h b.0)) b.1

ordered_none : AreOrdered []
unfolding plain
ordered_none n = tt

ordered : (program : Program) → HasLayout program → IsWellFormed program → (i : ℕ) → IsOrdered (plain (formula_at program engine.Ft i))
ordered program layout formed i =
    ordered_after (atoms program.bz) [] program.ft ordered_none (recursion_from_All (HasBounds MAX_BOUND) program.ft ((runs_future program layout formed).bounds)) i

-- the most words that are known after some rows
formula_at_most : (rows : List Row) (p : Core) → IsOrdered (plain p) → length (words rows (formula (plain p))) ≤ length rows - bpd p
unfolding words
formula_at_most rows p o = simp length-map (frontier_at_most rows p o)

contract_at_most : (rows : List Row) (p q : Core) → IsOrdered (plain p) → length (words rows (contract (plain p) (plain q))) ≤ length rows - bpd p
unfolding words
contract_at_most rows p q o =
    let m : ℕ = length rows - bpd p in
    let unknown : slice_get (verdicts rows (plain p)) m ≡ None = slice_get_past (verdicts rows (plain p)) m (frontier_at_most rows p o) in
    front_ends (known_status rows (plain p) (plain q)) (length rows) m (ap (λ (v : Option Bool). status v (slice_get (verdicts rows (plain q)) m)) unknown)

-- the words that one row brings, where the best and the worst delay are known
new_few : (rows : List Row) (r : Row) (o : Output) (best : ℕ) → length (words (rows ++ r ∷ []) o) ≤ length (rows ++ r ∷ []) - best
    → length (drop (length (words rows o)) (words (rows ++ r ∷ []) o)) ≤ delay o - best + 1
new_few rows r o best most =
    omega (arith, most, words_in_time rows o, length-append rows (r ∷ []), length-drop (length (words rows o)) (words (rows ++ r ∷ []) o))

abbrev HasFew : Program → List Row → Row → out.Out → Type 0
HasFew program rows r o =
    length (drop (length (words rows (output_of program o))) (words (rows ++ r ∷ []) (output_of program o))) ≤ most_of program o

output_few : (program : Program) → HasLayout program → IsWellFormed program → (rows : List Row) (r : Row) (o : out.Out) → HasFew program rows r o
output_few program layout formed rows r (out.TheVariants.Formula engine.Ft i name) =
    let p : Core = formula_at program engine.Ft i in
    omega (arith, new_few rows r (formula (plain p)) (bpd p) (formula_at_most (rows ++ r ∷ []) p (ordered program layout formed i)))
output_few program layout formed rows r (out.TheVariants.Contract engine.Ft i j name) =
    let p : Core = formula_at program engine.Ft i in
    let q : Core = formula_at program engine.Ft j in
    new_few rows r (contract (plain p) (plain q)) (bpd p) (contract_at_most (rows ++ r ∷ []) p q (ordered program layout formed i))
output_few program layout formed rows r (out.TheVariants.Formula engine.Pt i name) =
    let p : Formula = plain (formula_at program engine.Pt i) in
    omega (arith, past_at_once p (formula_past program i), new_few rows r (formula p) 0 (omega (arith, words_fit (rows ++ r ∷ []) (formula p))))
output_few program layout formed rows r (out.TheVariants.Contract engine.Pt i j name) =
    let p : Formula = plain (formula_at program engine.Pt i) in
    let q : Formula = plain (formula_at program engine.Pt j) in
    omega (arith, past_at_once p (formula_past program i), past_at_once q (formula_past program j), new_few rows r (contract p q) 0 (omega (arith, words_fit (rows ++ r ∷ []) (contract p q))))

-- of all outputs
row_few : (program : Program) (style : Style) (k : ℕ) (outs : List out.Out) (rows : List Row) (r : Row) → ((o : out.Out) → HasFew program rows r o)
    → length (of_row style k (map (output_of program) outs) rows r) ≤ sum_by (most_of program) outs
unfolding of_row
row_few program style k [] rows r h = omega arith
row_few program style k (o ∷ outs) rows r h =
    let old : List Word = words rows (output_of program o) in
    let new : List Word = drop (length old) (words (rows ++ r ∷ []) (output_of program o)) in
    let first : List Report = of_words style k (length old) new in
    let more : List Report = of_row style (suc k) (map (output_of program) outs) rows r in
    let both : length (of_row style k (map (output_of program) (o ∷ outs)) rows r) ≡ length first + length more = length-append first more in
    omega (arith, both, sum_by-cons (most_of program) o outs, h o, reports_few style k (length old) new, row_few program style (suc k) outs rows r h)

-- after what runs took a row
pub running_few : (row : Row) (before after : State) → EnginesTakeRow row before.running after.running → OpensFew row before after
running_few row before after takes style rows stands =
    let program : Program = program_of before in
    subst (λ (n : ℕ). n ≤ most_reports program) (sym (ap (λ (rs : List Report). length rs) (takes.opens style rows stands.taken)))
    (row_few program style 0 program.outs rows row (output_few program stands.taken.layout stands.taken.formed rows row))

-- after a monitor took a row
pub opens_few : (row : Row) (before after : State) → monitoring.TakesRow row before after → OpensFew row before after
opens_few row before after takes style rows stands =
    let program : Program = program_of before in
    subst (λ (n : ℕ). n ≤ most_reports program) (sym (ap (λ (rs : List Report). length rs) (takes.opens style rows stands)))
    (row_few program style 0 program.outs rows row (output_few program stands.taken.layout stands.taken.formed rows row))
