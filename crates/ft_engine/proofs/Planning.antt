-- The delays of a program are a plan of its queues.
use Rattle.std.proofs.Common.{◌≡◌, ℕ, ◌<◌, ◌≤◌, List, [], ◌∷◌, length, map, slice_index, slice_index_or, arith, subst, ◌∙◌, All, length-append}
use Rattle.std.proofs.lemmas.List.{get_or_append_left, get_or-map, length-map}
use Rattle.std.proofs.lemmas.List.FromFn.{get_or-map-range_with_len}
use Rattle.mltl_base.specs.declared.operators.FtOp.{FtOp}
use Rattle.mltl_base.specs.declared.operators.FtOp.TheVariants.{True, Not, And, Until}
use Rattle.mltl_base.specs.declared.program.Out.{Out}
use Rattle.mltl_base.specs.Queues.{AreInOrder, HasBounds, IsAfterOperands, best_of, worst_of, best_delays, worst_delays, operands, reported, readers, queue_length, queue_lengths, widest as widest_of}
use Rattle.delay_sizes.proofs.DelayLaws.{best_at, worst_at, best_below}
use Rattle.delay_sizes.proofs.QueueLaws.{widest_covers}
use Rattle.ft_engine.specs.Queues.{op_at}
use Rattle.ft_engine.specs.Plans.{IsPlannedFor, IsSeated, plan_of}

module _ (ops : List FtOp) (outs : List Out) where
  -- instruction i as a reader
  reads_at : (i : ℕ) → i < length ops → slice_index_or (readers ops outs) i [] ≡ operands (op_at ops i)
  reads_at i h = get_or_append_left (map operands ops) (map reported outs) [] i (omega (arith, length-map ops operands)) ∙ get_or-map operands ops i True [] h

  -- the operands of instruction i keep their verdicts for each other
  covered : (i : ℕ) → i < length ops → (read : List ℕ) → slice_index_or (readers ops outs) i [] ≡ read → (j k : ℕ) → j < length read → k < length read
      → slice_index (worst_delays ops) (slice_index read k) ≤ widest_of (worst_delays ops) (readers ops outs) (slice_index read j)
  covered i h read e j k j_in k_in =
      let P : List ℕ → Type 0 = λ xs. (j k : ℕ) → j < length xs → k < length xs → slice_index (worst_delays ops) (slice_index xs k) ≤ widest_of (worst_delays ops) (readers ops outs) (slice_index xs j) in
      let here : P (slice_index_or (readers ops outs) i []) = λ j k j_in k_in. widest_covers (worst_delays ops) (readers ops outs) i j k (omega (arith, length-append (map operands ops) (map reported outs), length-map ops operands)) j_in k_in in
      subst P e here j k j_in k_in

  seated_as : (i : ℕ) (op : FtOp) → i < length ops → IsAfterOperands i op → HasBounds 1048576 op
      → slice_index (best_delays ops) i ≡ best_of (best_delays ops) op → slice_index (worst_delays ops) i ≡ worst_of (worst_delays ops) op
      → slice_index_or (readers ops outs) i [] ≡ operands op → IsSeated (plan_of ops outs) i op
  seated_as i (Not g) h after bounds best worst read =
      let here = covered i h (g ∷ []) read 0 0 (omega arith) (omega arith) in
      (after, best, worst, omega arith)
  seated_as i (And l r) h after bounds best worst read =
      let left = covered i h (l ∷ r ∷ []) read 0 0 (omega arith) (omega arith) in
      let left_right = covered i h (l ∷ r ∷ []) read 0 1 (omega arith) (omega arith) in
      let right_left = covered i h (l ∷ r ∷ []) read 1 0 (omega arith) (omega arith) in
      let right = covered i h (l ∷ r ∷ []) read 1 1 (omega arith) (omega arith) in
      (after.0, after.1, best, worst, omega arith, omega arith)
  seated_as i (Until l r window) h after bounds best worst read =
      let left = covered i h (l ∷ r ∷ []) read 0 0 (omega arith) (omega arith) in
      let left_right = covered i h (l ∷ r ∷ []) read 0 1 (omega arith) (omega arith) in
      let right_left = covered i h (l ∷ r ∷ []) read 1 0 (omega arith) (omega arith) in
      let right = covered i h (l ∷ r ∷ []) read 1 1 (omega arith) (omega arith) in
      (after.0, after.1, bounds.0, bounds.1, best, worst, omega arith, omega arith)
  seated_as i _ h after bounds best worst read = (best, worst)

  pub planned_for : AreInOrder ops → All (HasBounds 1048576) ops → IsPlannedFor (plan_of ops outs) ops (λ i. slice_index (queue_lengths ops outs) i)
  planned_for order bounds = record {
    planned = λ i h. record {
      seated = seated_as i (op_at ops i) h (order i True h) (bounds i True h) (best_at ops order i True h) (worst_at ops order i True h) (reads_at i h);
      ordered = best_below ops bounds i;
      wide = omega arith;
    };
    sizes = λ i h. get_or-map-range_with_len (queue_length ops outs) 0 (length ops) i i 0 h (omega arith);
  }
