use Rattle.std.proofs.Common.{◌≡◌, ℕ, ◌-◌, ◌<◌, ◌≤◌, List, length, get_or, arith, subst, sym}
use Rattle.scq_ring.specs.Runs.{no_slot, runs_of}
use Rattle.scq_ring.specs.declared.runs.Slot.{Slot}
use Rattle.scq_ring.proofs.RunLemmas.{Spans-rising, has_last, length-runs, run_at_index}
use Rattle.scq_ring.proofs.runs.Ring.newest_around.Goals as goal

pub overflow_sub-last : goal.overflow_sub-last
overflow_sub-last c = (has_last c.args.self.now c.args.slots.now c.requires.belongs (omega arith)).some_run

pub back-init : goal.back-init
back-init c =
    let last = has_last c.args.self.now c.args.slots.now c.requires.belongs (omega arith) in
    let some = last.some_run in
    let ends = last.ends in
    record { onward = omega arith; paced = omega arith; reached = omega arith }

pub returns-then-slots-ring_index : goal.returns-then-slots-ring_index
returns-then-slots-ring_index c =
    let ring = c.args.self.now in
    let slots = c.args.slots.now in
    let runs : List Slot = runs_of ring slots in
    let before : ℕ = c.back.last - c.back.step in
    let size : length runs ≡ ring.used = length-runs ring slots c.requires.belongs in
    let same : get_or runs before no_slot ≡ get_or slots c.ring_index.result no_slot = run_at_index ring slots before c.ring_index.result c.requires.belongs (omega arith) c.ring_index.ensures.ring_index in
    let P : Slot → Type 0 = λ r. r.upto < c.args.from in
    let ends_before : (get_or runs before no_slot).upto < c.args.from = subst P (sym same) c.if-slots-ring_index.true in
    record {
      around = record {
        ordered = omega arith;
        within = omega arith;
        below = λ k h. omega (arith, Spans-rising ring.low runs ring.since c.requires.belongs.spans k before (omega arith) (omega arith));
        reached = c.back.invariant.reached;
      };
    }

pub back-preserved : goal.back-preserved
back-preserved c =
    let before : ℕ = c.back.last - c.back.step in
    let same = run_at_index c.args.self.now c.args.slots.now before c.ring_index.result c.requires.belongs (omega arith) c.ring_index.ensures.ring_index in
    let P : Slot → Type 0 = λ r. c.args.from ≤ r.upto in
    record {
      onward = omega arith;
      paced = omega arith;
      reached = subst P (sym same) (omega (arith, c.if-slots-ring_index.false));
    }

pub returns : goal.returns
returns c = record {
  around = record {
    ordered = omega arith;
    within = omega arith;
    below = λ k h. absurd (omega arith);
    reached = c.back.invariant.reached;
  };
}
