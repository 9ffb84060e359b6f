use Rattle.std.proofs.Common.{◌≡◌, ℕ, ◌+◌, ◌*◌, ◌≤◌, arith, subst, sym, None}
use Rattle.mltl_base.specs.Verdicts.{k_conjunction}
use Rattle.scq_ring.specs.Runs.{frontier_of}
use Rattle.ft_engine.specs.Decisions.{operand_runs}
use Rattle.ft_engine.proofs.Going.{goes_further, tells_more}
use Rattle.ft_engine.proofs.conjunction.and_row.Goals as goal

pub turns-preserved : goal.turns-preserved
turns-preserved g c =
    let e = c.write.ensures in
    let onward = c.turns.invariant.goes_on.onward in
    let w = e.written in
    let from : c.frontier.result ≡ frontier_of c.turns.own = c.frontier.ensures.frontier in
    let ahead : frontier_of c.turns.own ≤ c.in-Run.end = omega (arith, c.in-Run.ensures.within.0) in
    record {
      goes_on = goes_further c.args.own.now c.args.own_slots.now c.turns.own c.turns.own_slots c.in-Run.end c.in-Run.value c.write.new.self c.write.new.slots c.turns.invariant.goes_on w ahead c.turns.auto.own_slots;
      within = omega (arith, c.in-Run.ensures.within.1, w.frontier);
      counted = omega (arith, w.frontier, e.step, c.in-Run.ensures.counted, c.turns.invariant.counted);
      by_runs =
          let taken = subst (λ (t : ℕ). operand_runs c.args.left (c.in-Run.end + 1) + operand_runs c.args.right (c.in-Run.end + 1) + 1 ≤ operand_runs c.args.left t + operand_runs c.args.right t) from c.in-Run.ensures.takes in
          subst (λ (t : ℕ). c.write.new.steps + 3 * (operand_runs c.args.left t + operand_runs c.args.right t) ≤ c.args.steps.now + 3 * (operand_runs c.args.left (frontier_of c.args.own.now) + operand_runs c.args.right (frontier_of c.args.own.now))) (sym w.frontier)
          (omega (arith, taken, e.step, c.in-Run.ensures.counted, c.turns.invariant.by_runs));
      told = λ p q left right. tells_more (k_conjunction p q) (frontier_of c.args.own.now) c.turns.own c.turns.own_slots c.in-Run.end c.in-Run.value c.write.new.self c.write.new.slots (c.turns.invariant.told p q left right) w
          (λ t t_from t_to. c.in-Run.ensures.decided p q left right t (omega arith) t_to);
    }

pub returns-in-Nothing-clause-decided : goal.returns-in-Nothing-clause-decided
returns-in-Nothing-clause-decided g c =
    λ p q left right.
    let told = c.turns.invariant.told p q left right in
    record {
      known = told.known;
      verdicts = told.verdicts;
      stuck = subst (λ (t : ℕ). k_conjunction p q t ≡ None) c.frontier.ensures.frontier (c.in-Nothing.ensures.decided p q left right);
    }
