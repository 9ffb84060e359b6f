use Rattle.std.proofs.Common.{◌≡◌, ◌+◌, ◌-◌, ◌<◌, ◌≤◌, List, arith}
use Rattle.std.proofs.lemmas.Bool.Decides.{nat_tests}
use Rattle.scq_ring.specs.Runs.{frontier_of, runs_from, runs_of, runs_to}
use Rattle.scq_ring.specs.declared.runs.Slot.{Slot}
use Rattle.scq_ring.proofs.RunLemmas.{runs_to-falls, verdict_newest}
use Rattle.scq_ring.proofs.runs.Ring.read_near.Goals as goal

pub returns-then-self-from-2-clause-seen : goal.returns-then-self-from-2-clause-seen
unfolding frontier_of
returns-then-self-from-2-clause-seen g c = record {
  upward = omega arith;
  known = omega arith;
  alike = λ t from to. verdict_newest c.args.self.now c.args.slots.now t (omega arith);
  ends = λ more. absurd (omega arith);
}

pub returns-clause-seen : goal.returns-clause-seen
unfolding frontier_of
returns-clause-seen g c =
    let run = c.run_at-run.ensures in
    record { upward = run.reaches; known = omega (arith, run.before, c.requires.belongs.begun); alike = run.verdict; ends = λ more. run.ends }

pub returns-then-self-from-2-clause-takes : goal.returns-then-self-from-2-clause-takes
unfolding frontier_of runs_from
returns-then-self-from-2-clause-takes g c =
    let ring = c.args.self.now in
    let runs : List Slot = runs_of ring c.args.slots.now in
    let end : ring.frontier - 1 + 1 ≡ ring.frontier = omega arith in
    let falls : runs_to (ring.frontier - 1 + 1) runs ≤ runs_to c.args.from runs = runs_to-falls runs c.args.from (ring.frontier - 1 + 1) (omega arith) in
    let here : c.args.from < ring.frontier = omega arith in
    grind (arith, nat_tests, end, falls, here)

pub returns-clause-takes : goal.returns-clause-takes
unfolding frontier_of runs_from
returns-clause-takes g c =
    let ring = c.args.self.now in
    let takes = c.run_at-run.ensures.takes in
    let here : c.args.from < ring.frontier = omega (arith, c.requires.belongs.begun) in
    grind (arith, nat_tests, takes, here)
