use Rattle.std.proofs.Common.{◌≡◌, ℕ, ◌+◌, ◌*◌, ◌≤◌, not, arith, ap, subst, sym}
use Rattle.mltl_base.specs.Kleene.{k_not}
use Rattle.mltl_base.specs.Verdicts.{k_negation}
use Rattle.scq_ring.specs.Runs.{frontier_of}
use Rattle.ft_engine.specs.Decisions.{operand_runs}
use Rattle.ft_engine.proofs.Going.{goes_further, tells_more, shown_run}
use Rattle.ft_engine.proofs.negation.not_row.Goals as goal

pub turns-preserved : goal.turns-preserved
unfolding k_not
turns-preserved g c =
    let e = c.write.ensures in
    let onward = c.turns.invariant.goes_on.onward in
    let w = e.written in
    let from : c.frontier.result ≡ frontier_of c.turns.own = c.frontier.ensures.frontier in
    let ahead : frontier_of c.turns.own ≤ c.in-Run.end = omega (arith, c.in-Run.ensures.seen.upward) in
    record {
      goes_on = goes_further c.args.own.now c.args.own_slots.now c.turns.own c.turns.own_slots c.in-Run.end (not c.in-Run.value) c.write.new.self c.write.new.slots c.turns.invariant.goes_on w ahead c.turns.auto.own_slots;
      within = omega (arith, c.in-Run.ensures.seen.known, w.frontier);
      counted = omega (arith, w.frontier, e.step, c.read_near.ensures.step, c.turns.invariant.counted);
      by_runs =
          let taken = subst (λ (t : ℕ). operand_runs c.args.operand (c.in-Run.end + 1) + 1 ≤ operand_runs c.args.operand t) from c.in-Run.ensures.takes in
          subst (λ (t : ℕ). c.write.new.steps + 2 * operand_runs c.args.operand t ≤ c.args.steps.now + 2 * operand_runs c.args.operand (frontier_of c.args.own.now)) (sym w.frontier)
          (omega (arith, taken, e.step, c.read_near.ensures.step, c.turns.invariant.by_runs));
      told = λ p shown. tells_more (k_negation p) (frontier_of c.args.own.now) c.turns.own c.turns.own_slots c.in-Run.end (not c.in-Run.value) c.write.new.self c.write.new.slots (c.turns.invariant.told p shown) w
          (λ t t_from t_to. ap k_not (shown_run c.args.operand.ring.now c.args.operand.slots.now p c.frontier.result c.in-Run.end c.in-Run.value shown (omega arith) c.in-Run.ensures.seen t (omega arith) t_to));
    }

pub returns-in-Nothing-clause-decided : goal.returns-in-Nothing-clause-decided
unfolding k_not
returns-in-Nothing-clause-decided g c =
    λ p shown.
    let told = c.turns.invariant.told p shown in
    record { known = told.known; verdicts = told.verdicts; stuck = ap k_not (shown.ends (frontier_of c.turns.own) (omega (arith, c.in-Nothing.ensures.seen, c.frontier.ensures.frontier))) }
