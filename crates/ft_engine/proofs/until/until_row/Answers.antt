use Rattle.std.proofs.Common.{◌≡◌, ℕ, ◌+◌, ◌≤◌, arith, subst, sym, None}
use Rattle.mltl_base.specs.Verdicts.{k_until}
use Rattle.scq_ring.specs.Runs.{frontier_of}
use Rattle.ft_engine.specs.Scans.{Scan, steps_by_runs, steps_left}
use Rattle.ft_engine.proofs.Going.{goes_further, tells_more}
use Rattle.ft_engine.proofs.Rules.{nearer_scan}
use Rattle.ft_engine.proofs.until.until_row.Goals as goal

pub turns-preserved-in-Look : goal.turns-preserved-in-Look
turns-preserved-in-Look g c =
    let i = c.turns.invariant in
    let moves = c.in-Look.ensures.leads.0 in
    let from : c.frontier.result ≡ frontier_of c.turns.own = c.frontier.ensures.frontier in
    record {
      goes_on = i.goes_on;
      reach = omega (arith, c.in-Look.ensures.leads.1);
      onward = omega (arith, moves.onward);
      order = moves.order;
      in_time = omega (arith, moves.in_time);
      counted = omega (arith, moves.onward, moves.sees_on, c.in-Look.ensures.counted);
      by_runs =
          let taken = subst (λ (t : ℕ). c.next_turn.new.steps + steps_left c.args.until t c.in-Look.next.reads_at c.in-Look.next.seen ≤ c.turns.steps + steps_left c.args.until t c.turns.at.reads_at c.turns.at.seen) from c.in-Look.ensures.by_runs in
          omega (arith, taken, i.by_runs);
      told = λ p q left right start. (
        (i.told p q left right start).0,
        subst (λ (t : ℕ). Scan c.args.until.window p q t c.in-Look.next.reads_at c.in-Look.next.seen) from
            (c.in-Look.ensures.finds p q left right (subst (λ (t : ℕ). Scan c.args.until.window p q t c.turns.at.reads_at c.turns.at.seen) (sym from) (i.told p q left right start).1)),
      );
    }

pub turns-preserved : goal.turns-preserved
turns-preserved g c =
    let i = c.turns.invariant in
    let e = c.write.ensures in
    let moves = c.in-Decide.ensures.leads.0 in
    let upto_from = c.in-Decide.ensures.leads.1 in
    let place_from = c.in-Decide.ensures.leads.2 in
    let from : c.frontier.result ≡ frontier_of c.turns.own = c.frontier.ensures.frontier in
    let onward = i.goes_on.onward in
    let w = e.written in
    let ahead : frontier_of c.turns.own ≤ c.in-Decide.upto = omega arith in
    record {
      goes_on = goes_further c.args.own.now c.args.own_slots.now c.turns.own c.turns.own_slots c.in-Decide.upto c.in-Decide.value c.write.new.self c.write.new.slots i.goes_on w ahead c.turns.auto.own_slots;
      reach = omega (arith, w.frontier);
      onward = omega (arith, moves.onward);
      order = moves.order;
      in_time = omega (arith, moves.in_time);
      counted = omega (arith, moves.onward, moves.sees_on, c.in-Decide.ensures.counted, e.step, w.frontier);
      by_runs =
          let taken = subst (λ (t : ℕ). c.next_turn.new.steps + (1 + steps_left c.args.until (c.in-Decide.upto + 1) c.in-Decide.next.reads_at c.in-Decide.next.seen) ≤ c.turns.steps + steps_left c.args.until t c.turns.at.reads_at c.turns.at.seen) from c.in-Decide.ensures.by_runs in
          let left = subst (λ (t : ℕ). c.write.new.steps + steps_left c.args.until t c.in-Decide.next.reads_at c.in-Decide.next.seen ≤ c.args.steps.now + steps_by_runs c.args.until c.args.reads_at) (sym w.frontier) (omega (arith, e.step, taken, i.by_runs)) in
          left;
      told = λ p q left right start.
          let found = c.in-Decide.ensures.finds p q left right (subst (λ (t : ℕ). Scan c.args.until.window p q t c.turns.at.reads_at c.turns.at.seen) (sym from) (i.told p q left right start).1) in (
            tells_more (k_until c.args.until.window p q) (frontier_of c.args.own.now) c.turns.own c.turns.own_slots c.in-Decide.upto c.in-Decide.value c.write.new.self c.write.new.slots (i.told p q left right start).0 w
                (λ t t_from t_to. found.0 t (omega arith) t_to),
            subst (λ (t : ℕ). Scan c.args.until.window p q t c.in-Decide.next.reads_at c.in-Decide.next.seen) (sym w.frontier) found.1,
          );
    }

pub returns-in-Stop-clause-decided : goal.returns-in-Stop-clause-decided
returns-in-Stop-clause-decided g c =
    λ p q left right start.
    let from : c.frontier.result ≡ frontier_of c.turns.own = c.frontier.ensures.frontier in
    let known = c.turns.invariant.told p q left right start in
    let found = c.in-Stop.ensures.finds p q left right (subst (λ (t : ℕ). Scan c.args.until.window p q t c.turns.at.reads_at c.turns.at.seen) (sym from) known.1) in
    record {
      decides = record { known = known.0.known; verdicts = known.0.verdicts; stuck = subst (λ (t : ℕ). k_until c.args.until.window p q t ≡ None) from found.0 };
      scanned = nearer_scan c.args.until.window p q (frontier_of c.turns.own) c.turns.at.reads_at c.turns.at.seen known.1;
      reached = found.1;
    }
