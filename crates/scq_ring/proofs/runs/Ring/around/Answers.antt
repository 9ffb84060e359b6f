use Rattle.std.proofs.Common.{◌≡◌, ℕ, ◌+◌, ◌-◌, ◌<◌, List, length, arith, sym, ◌∙◌}
use Rattle.std.proofs.lemmas.Bool.{ltb-true}
use Rattle.scq_ring.specs.Runs.{Belongs, runs_of, upto_at}
use Rattle.scq_ring.specs.declared.runs.Ring.{Ring}
use Rattle.scq_ring.specs.declared.runs.Slot.{Slot}
use Rattle.scq_ring.proofs.RunLemmas.{Spans-rising, length-runs}
use Rattle.scq_ring.proofs.runs.Ring.around.Goals.{then-near-eq0, else-near-eq0}
use Rattle.scq_ring.proofs.runs.Ring.around.Goals as goal

-- where a run ends before a time, so do those before it
all_before : (ring : Ring) (slots : List Slot) (k from : ℕ) → Belongs ring slots → k < ring.used → upto_at (runs_of ring slots) k < from
    → (j : ℕ) → j < k + 1 → upto_at (runs_of ring slots) j < from
all_before ring slots k from b k_in ends j j_in =
    let size : length (runs_of ring slots) ≡ ring.used = length-runs ring slots b in
    omega (arith, Spans-rising ring.low (runs_of ring slots) ring.since b.spans j k (omega arith) (omega arith))

pub returns-then-from-end_of : goal.returns-then-from-end_of
returns-then-from-end_of c = record {
  around = record {
    ordered = omega arith;
    within = omega arith;
    below = elim c.if-near-eq0.branch [
      | then-near-eq0 w ↦ λ j h. absurd (omega arith)
      | else-near-eq0 w ↦
          let ends : w.end_of.result < c.args.from = ltb-true _ _ (sym w.value-is ∙ c.if-end_of-from.true) in
          let some : c.args.near - 1 < c.args.self.now.used = omega arith in
          let before : upto_at (runs_of c.args.self.now c.args.slots.now) (c.args.near - 1) < c.args.from = omega (arith, w.end_of.ensures) in
          λ j h. all_before c.args.self.now c.args.slots.now (c.args.near - 1) c.args.from c.requires.belongs some before j (omega (arith, w.if-near-eq0.false))
    ];
    reached = omega (arith, c.end_of-then-end_of-from.ensures);
  };
}

pub returns-then-from-end_of-2 : goal.returns-then-from-end_of-2
returns-then-from-end_of-2 c =
    let past : upto_at (runs_of c.args.self.now c.args.slots.now) c.args.near < c.args.from = omega (arith, c.end_of-then-end_of-from.ensures) in
    record {
      around = record {
        ordered = omega arith;
        within = omega arith;
        below = all_before c.args.self.now c.args.slots.now c.args.near c.args.from c.requires.belongs (omega arith) past;
        reached = omega (arith, c.end_of-then-next-self.ensures);
      };
    }
