use Rattle.std.proofs.Common.{◌≡◌, ◌≢◌, ℕ, ◌+◌, ◌-◌, ◌/◌, ◌<◌, ◌≤◌, List, length, get_or, arith, subst, sym, ◌∙◌}
use Rattle.scq_ring.specs.Runs.{no_slot, runs_of, runs_to, holds_in, verdict_at}
use Rattle.scq_ring.specs.declared.runs.Slot.{Slot}
use Rattle.scq_ring.proofs.RunLemmas.{Spans-upto, Spans-rising, length-runs, run_at_index, runs_to-past, value_in_first, verdict_before, verdict_turns}
use Rattle.scq_ring.proofs.runs.Ring.run_at.Goals as goal

pub halving-preserved-then-slots-ring_index : goal.halving-preserved-then-slots-ring_index
halving-preserved-then-slots-ring_index c =
    let ring = c.args.self.now in
    let slots = c.args.slots.now in
    let runs : List Slot = runs_of ring slots in
    let around = c.halving.invariant.around in
    let ordered = around.ordered in
    let within = around.within in
    let middle : ℕ = c.halving.first + (c.halving.last - c.halving.first) / 2 in
    let size : length runs ≡ ring.used = length-runs ring slots c.requires.belongs in
    let same : get_or runs middle no_slot ≡ get_or slots c.ring_index.result no_slot = run_at_index ring slots middle c.ring_index.result c.requires.belongs (omega arith) c.ring_index.ensures.ring_index in
    let P : Slot → Type 0 = λ r. r.upto < c.args.from in
    let ends_before : (get_or runs middle no_slot).upto < c.args.from = subst P (sym same) c.if-slots-ring_index.true in
    record {
      around = record {
        ordered = omega arith;
        within = around.within;
        below = λ k h. omega (arith, Spans-rising ring.low runs ring.since c.requires.belongs.spans k middle (omega arith) (omega arith));
        reached = around.reached;
      };
    }

pub halving-preserved : goal.halving-preserved
halving-preserved c =
    let around = c.halving.invariant.around in
    let ordered = around.ordered in
    let within = around.within in
    let middle : ℕ = c.halving.first + (c.halving.last - c.halving.first) / 2 in
    let same = run_at_index c.args.self.now c.args.slots.now middle c.ring_index.result c.requires.belongs (omega arith) c.ring_index.ensures.ring_index in
    let P : Slot → Type 0 = λ r. c.args.from ≤ r.upto in
    record {
      around = record {
        ordered = omega arith;
        within = omega arith;
        below = around.below;
        reached = subst P (sym same) (omega (arith, c.if-slots-ring_index.false));
      };
    }

pub returns : goal.returns
returns c =
    let ring = c.args.self.now in
    let slots = c.args.slots.now in
    let runs : List Slot = runs_of ring slots in
    let around = c.halving.invariant.around in
    let ordered = around.ordered in
    let within = around.within in
    let only : c.halving.first ≡ c.halving.last = omega arith in
    let size : length runs ≡ ring.used = length-runs ring slots c.requires.belongs in
    let same : get_or runs c.halving.first no_slot ≡ get_or slots c.ring_index-2.result no_slot =
    run_at_index ring slots c.halving.first c.ring_index-2.result c.requires.belongs (omega arith) c.ring_index-2.ensures.ring_index in
    let Reaches : Slot → Type 0 = λ r. c.args.from ≤ r.upto in
    let Before : Slot → Type 0 = λ r. r.upto < ring.since in
    let before : (get_or slots c.ring_index-2.result no_slot).upto < ring.since = subst Before same (Spans-upto ring.low runs ring.since c.requires.belongs.spans c.halving.first (omega arith)) in
    let Alike : Slot → Type 0 = λ r. (t : ℕ) → c.args.from ≤ t → t ≤ r.upto → holds_in runs t ≡ r.value in
    let alike = subst Alike same (value_in_first runs c.halving.first c.args.from (omega arith) around.below) in
    let Turns : Slot → Type 0 = λ r. verdict_at ring slots (r.upto + 1) ≢ r.value in
    let Takes : Slot → Type 0 = λ r. runs_to (r.upto + 1) runs + 1 ≤ runs_to c.args.from runs in
    let At : ℕ → Type 0 = λ k. c.args.from ≤ (get_or runs k no_slot).upto in
    record {
      reaches = subst Reaches same (subst At (sym only) around.reached);
      before = before;
      verdict = λ t from to. verdict_before ring slots t (omega arith) ∙ alike t from to;
      takes = subst Takes same (runs_to-past runs c.halving.first c.args.from (omega arith) (subst At (sym only) around.reached));
      ends = subst Turns same (verdict_turns ring slots c.halving.first c.requires.belongs (omega arith));
    }
