-- What queues that have taken rows, and have their table, say of the engine.
use Rattle.std.proofs.Common.{◌≡◌, ℕ, zero, suc, ◌+◌, ◌-◌, ◌<◌, ◌≤◌, List, [], length, map, slice_index, sum, arith, refl, subst, sym, ap, ap₂, ◌∙◌}
use Rattle.std.proofs.lemmas.List.{get_or-map, length-map}
use Rattle.std.proofs.lemmas.List.FromFn.{length-map-range_with_len}
use Rattle.mltl_base.specs.declared.interval.Engine.TheVariants.{Ft as future}
use Rattle.mltl_base.specs.declared.operators.FtOp.{FtOp}
use Rattle.mltl_base.specs.declared.operators.FtOp.TheVariants.{True, Not, And, Until}
use Rattle.mltl_base.specs.declared.program.Program.{Program}
use Rattle.mltl_base.specs.Atoms.{Row, Atom}
use Rattle.mltl_base.specs.Formula.{ctrue, bpd, core_wpd}
use Rattle.mltl_base.specs.Programs.{atoms, formula_at, formulas}
use Rattle.mltl_base.specs.Queues.{IsAfterOperands, AreInOrder, best_of, worst_of, best_delays, worst_delays, queue_length}
use Rattle.delay_sizes.proofs.DelayLaws.{length-numbered_after}
use Rattle.delay_sizes.proofs.FormulaLaws.{best_of_formulas, worst_of_formulas}
use Rattle.obs_verify.specs.Running.{RunsFuture}
use Rattle.scq_ring.specs.declared.Seen.{Seen}
use Rattle.scq_ring.specs.declared.Seen.TheVariants.{Run, Nothing}
use Rattle.scq_ring.specs.declared.Slot.{Slot}
use Rattle.scq_ring.specs.Runs.{Shows, frontier_of}
use Rattle.mltl_base.specs.Seats.{part}
use Rattle.mltl_base.proofs.Seats.{length-part}
use Rattle.ft_engine.specs.declared.engine.Ft.{Ft}
use Rattle.ft_engine.specs.declared.queue.Queue.{Queue}
use Rattle.ft_engine.specs.Plans.{IsPaced, IsPlannedFor, IsSeated, Plan, plan_of}
use Rattle.ft_engine.specs.Queues.{QueuesAreSound, IsAhead, op_at, queue_at, reads_from, work_before, work_of}
use Rattle.ft_engine.specs.Standing.{ReadsFrom, ShowsFrom, FtHasTaken, frontier_at, instruction_count, kept_verdict, lowest_at, next_read, slot_total, slots_at, queue_width}
use Rattle.ft_engine.specs.Tables.{HaveVerdicts, known_table}
use Rattle.ft_engine.proofs.Planning.{planned_for}

-- the plan of a program fits its sizes
pub program_planned : (program : Program) → RunsFuture program → IsPlannedFor (plan_of program.ft program.outs) program.ft (λ i. slice_index program.sizes.ft i)
program_planned program r =
    subst (λ (sizes : List ℕ). IsPlannedFor (plan_of program.ft program.outs) program.ft (λ i. slice_index sizes i)) (sym r.sizes) (planned_for program.ft program.outs r.order r.bounds)

-- each instruction has a size
pub sizes_count : (program : Program) → RunsFuture program → length program.sizes.ft ≡ length program.ft
sizes_count program r =
    ap (λ (ns : List ℕ). length ns) r.sizes ∙ length-map-range_with_len (queue_length program.ft program.outs) 0 (length program.ft)

-- the worst and the best delay of an instruction are those of its formula
worst_of_formula : (program : Program) (i : ℕ) → i < length program.ft → slice_index (worst_delays program.ft) i ≡ core_wpd (formula_at program future i)
worst_of_formula program i h =
    let loaded : List Atom = atoms program.bz in
    let same : worst_delays program.ft ≡ map core_wpd (formulas loaded program.ft) = worst_of_formulas loaded program.ft in
    let count : length (worst_delays program.ft) ≡ 0 + length program.ft = length-numbered_after worst_of [] program.ft in
    ap (λ (ns : List ℕ). slice_index ns i) same ∙ get_or-map core_wpd (formulas loaded program.ft) i ctrue 0 (omega (arith, ap (λ (ns : List ℕ). length ns) same, length-map (formulas loaded program.ft) core_wpd))

best_of_formula : (program : Program) (i : ℕ) → i < length program.ft → slice_index (best_delays program.ft) i ≡ bpd (formula_at program future i)
best_of_formula program i h =
    let loaded : List Atom = atoms program.bz in
    let same : best_delays program.ft ≡ map bpd (formulas loaded program.ft) = best_of_formulas loaded program.ft in
    let count : length (best_delays program.ft) ≡ 0 + length program.ft = length-numbered_after best_of [] program.ft in
    ap (λ (ns : List ℕ). slice_index ns i) same ∙ get_or-map bpd (formulas loaded program.ft) i ctrue 0 (omega (arith, ap (λ (ns : List ℕ). length ns) same, length-map (formulas loaded program.ft) bpd))

-- where an instruction is ahead of its operands, it reads on from n less the width of each
reads_kept : (program : Program) (queues : List Queue) (n i : ℕ) (op : FtOp) (queue : Queue) → IsSeated (plan_of program.ft program.outs) i op
    → ((g : ℕ) → g < i → n ≤ frontier_of (queue_at queues g).ring + slice_index (worst_delays program.ft) g) → IsAhead queues op queue → ReadsFrom op (λ g. n - queue_width program g) (reads_from op queue)
reads_kept program queues n i (Not g) queue s frontier a = omega (arith, frontier g s.0, s.3)
reads_kept program queues n i (And l r) queue s frontier a = (omega (arith, frontier l s.0, frontier r s.1, s.4), omega (arith, frontier l s.0, frontier r s.1, s.5))
reads_kept program queues n i (Until l r window) queue s frontier a = (omega (arith, frontier l s.0, frontier r s.1, s.6), omega (arith, frontier l s.0, frontier r s.1, s.7))
reads_kept program queues n i _ queue s frontier a = tt

-- queues that are on plan have their parts of the slab
pub paced_sound : (plan : Plan) (ops : List FtOp) (queues : List Queue) (slab : List Slot) (n : ℕ) → IsPaced plan ops queues slab n → QueuesAreSound queues slab
paced_sound plan ops queues slab n p = record { within = p.laid.within; belongs = λ j h. (p.paced j h).belongs }

pub stands_with : (program : Program) (rows : List Row) (ft : Ft) → RunsFuture program → IsPaced (plan_of program.ft program.outs) program.ft ft.queues ft.slab (length rows)
    → HaveVerdicts program.ft (known_table rows (atoms program.bz) program.ft) ft.queues ft.slab → length ft.slab ≡ sum program.sizes.ft → FtHasTaken program rows ft
unfolding instruction_count frontier_at lowest_at kept_verdict slot_total slots_at next_read
stands_with program rows ft r paced table total =
    let queues : List Queue = ft.queues in
    let planned = program_planned program r in
    let same : length queues ≡ length program.ft = paced.same_length in
    let exists : (i : ℕ) → i < length program.ft → i < length queues = λ i h. omega arith in
    record {
      paced = paced;
      table = table;
      count = same;
      frontiers = λ i h. (table.verdicts i (exists i h)).count;
      verdicts = λ i t h from to. (table.verdicts i (exists i h)).kept t from to;
      at_least = λ i h. omega (arith, (paced.paced i (exists i h)).at_least, worst_of_formula program i h);
      at_most = λ i h. omega (arith, (paced.paced i (exists i h)).at_most, best_of_formula program i h);
      ahead = λ i h. paced.ahead i (exists i h);
      reads = λ i h.
          reads_kept program queues (length rows) i (op_at program.ft i) (queue_at queues i) (planned.planned i h).seated
          (λ g g_in. (paced.paced g (omega arith)).at_least) (paced.ahead i (exists i h));
      lows = λ i h. (paced.paced i (exists i h)).low;
      sizes = λ i h. sym (length-part ft.slab (queue_at queues i).seat (paced.laid.within i (exists i h))) ∙ (paced.paced i (exists i h)).long ∙ sym (planned.sizes i h);
      total = total;
    }

-- the slots of an engine that has taken rows are those of the program
pub total_of : (program : Program) (rows : List Row) (ft : Ft) → FtHasTaken program rows ft → length ft.slab ≡ sum program.sizes.ft
unfolding slot_total
total_of program rows ft s = s.total

-- the work of a row goes by the sizes of instructions alone
sizes_in_order : (op : FtOp) (size size' : ℕ → ℕ) (n own own' : ℕ) → IsAfterOperands n op → ((i : ℕ) → i < n → size i ≡ size' i) → own ≡ own' → work_of size op own ≡ work_of size' op own'
sizes_in_order (Not g) size size' n own own' after same e = omega (arith, same g after)
sizes_in_order (And l r) size size' n own own' after same e = omega (arith, same l after.0, same r after.1)
sizes_in_order (Until l r window) size size' n own own' after same e = omega (arith, same l after.0, same r after.1)
sizes_in_order _ size size' n own own' after same e = omega arith

pub work_by_sizes : (ops : List FtOp) (size size' : ℕ → ℕ) (n : ℕ) → AreInOrder ops → n ≤ length ops → ((i : ℕ) → i < n → size i ≡ size' i) → work_before ops size n ≡ work_before ops size' n
work_by_sizes ops size size' zero order h same = refl
work_by_sizes ops size size' (suc n) order h same =
    ap₂ (λ (a b : ℕ). a + b) (work_by_sizes ops size size' n order (omega arith) (λ i i_in. same i (omega arith)))
    (sizes_in_order (op_at ops n) size size' n (size n) (size' n) (order n True (omega arith)) (λ i i_in. same i (omega arith)) (same n (omega arith)))

-- what the ring of an instruction shows, the engine shows
pub shows_from : (ft : Ft) (i from : ℕ) (seen : Seen) → Shows (queue_at ft.queues i).ring (part ft.slab (queue_at ft.queues i).seat) from seen → ShowsFrom ft i from seen
unfolding frontier_at kept_verdict
shows_from ft i from (Run end v) s = s
shows_from ft i from Nothing s = s
