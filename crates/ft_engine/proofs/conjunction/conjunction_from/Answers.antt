use Rattle.std.proofs.Common.{◌≡◌, ℕ, ◌+◌, ◌≤◌, arith, ap, ◌∙◌, inl, inr, Bool, true, Some, None}
use Rattle.std.proofs.lemmas.Bool.{cases_lt}
use Rattle.scq_ring.proofs.RunLemmas.{runs_from_later}
use Rattle.ft_engine.specs.Decisions.{operand_runs}
use Rattle.ft_engine.proofs.Going.{shown_run}
use Rattle.ft_engine.proofs.KleeneLaws.{and_false_left, and_false_right, and_true, and_none_left, and_none_right}
use Rattle.ft_engine.proofs.conjunction.conjunction_from.Goals as goal

pub returns-then-not-left_value-clause-decided : goal.returns-then-not-left_value-clause-decided
returns-then-not-left_value-clause-decided g c =
    λ p q left right t t_from t_to.
    and_false_left (p t) (q t) (shown_run c.args.left.ring.now c.args.left.slots.now p c.args.from c.in-Run.left_end c.in-Run.left_value left c.requires.operands.of_left.kept c.in-Run.ensures.seen t t_from t_to ∙ ap (λ (v : Bool). Some v) c.if-not-left_value.true)

pub returns-in-Nothing-read_near-clause-decided : goal.returns-in-Nothing-read_near-clause-decided
returns-in-Nothing-read_near-clause-decided g c =
    λ p q left right.
    let unknown : q c.args.from ≡ None = right.ends c.args.from c.in-Nothing-read_near.ensures.seen in
    and_none_left (p c.args.from) (q c.args.from) (left.ends c.args.from c.in-Nothing.ensures.seen) (λ e. cc)

pub returns-then-value-clause-decided : goal.returns-then-value-clause-decided
returns-then-value-clause-decided g c =
    λ p q left right.
    let live : q c.args.from ≡ Some c.in-Run-read_near.value = shown_run c.args.right.ring.now c.args.right.slots.now q c.args.from c.in-Run-read_near.end c.in-Run-read_near.value right c.requires.operands.of_right.kept c.in-Run-read_near.ensures.seen c.args.from (omega arith) c.in-Run-read_near.ensures.seen.upward in
    let value : c.in-Run-read_near.value ≡ true = c.if-value.true in
    and_none_left (p c.args.from) (q c.args.from) (left.ends c.args.from c.in-Nothing.ensures.seen) (λ e. cc)

pub returns-else-value-clause-decided : goal.returns-else-value-clause-decided
returns-else-value-clause-decided g c =
    λ p q left right t t_from t_to.
    and_false_right (p t) (q t) (shown_run c.args.right.ring.now c.args.right.slots.now q c.args.from c.in-Run-read_near.end c.in-Run-read_near.value right c.requires.operands.of_right.kept c.in-Run-read_near.ensures.seen t t_from t_to ∙ ap (λ (v : Bool). Some v) c.if-value.false)

pub returns-in-Nothing-read_near-2-clause-decided : goal.returns-in-Nothing-read_near-2-clause-decided
returns-in-Nothing-read_near-2-clause-decided g c =
    λ p q left right.
    let live : p c.args.from ≡ Some c.in-Run.left_value = shown_run c.args.left.ring.now c.args.left.slots.now p c.args.from c.in-Run.left_end c.in-Run.left_value left c.requires.operands.of_left.kept c.in-Run.ensures.seen c.args.from (omega arith) c.in-Run.ensures.seen.upward in
    let value : c.in-Run.left_value ≡ true = c.if-not-left_value.false in
    and_none_right (p c.args.from) (q c.args.from) (λ e. cc) (right.ends c.args.from c.in-Nothing-read_near-2.ensures.seen)

pub returns-then-right_value-clause-decided : goal.returns-then-right_value-clause-decided
returns-then-right_value-clause-decided g c =
    λ p q left right t t_from t_to.
    and_true (p t) (q t) (shown_run c.args.left.ring.now c.args.left.slots.now p c.args.from c.in-Run.left_end c.in-Run.left_value left c.requires.operands.of_left.kept c.in-Run.ensures.seen t t_from (omega (arith, c.min.ensures)) ∙ ap (λ (v : Bool). Some v) c.if-not-left_value.false)
    ∙ shown_run c.args.right.ring.now c.args.right.slots.now q c.args.from c.in-Run-read_near-2.right_end c.in-Run-read_near-2.right_value right c.requires.operands.of_right.kept c.in-Run-read_near-2.ensures.seen t t_from (omega (arith, c.min.ensures)) ∙ ap (λ (v : Bool). Some v) c.if-right_value.true

pub returns-else-right_value-clause-decided : goal.returns-else-right_value-clause-decided
returns-else-right_value-clause-decided g c =
    λ p q left right t t_from t_to.
    and_false_right (p t) (q t) (shown_run c.args.right.ring.now c.args.right.slots.now q c.args.from c.in-Run-read_near-2.right_end c.in-Run-read_near-2.right_value right c.requires.operands.of_right.kept c.in-Run-read_near-2.ensures.seen t t_from t_to ∙ ap (λ (v : Bool). Some v) c.if-right_value.false)

pub returns-then-not-left_value-clause-takes : goal.returns-then-not-left_value-clause-takes
returns-then-not-left_value-clause-takes g c =
    omega (arith, c.in-Run.ensures.takes, runs_from_later c.args.right.ring.now c.args.right.slots.now c.args.from (c.in-Run.left_end + 1) (omega (arith, c.in-Run.ensures.seen.upward)))

pub returns-else-value-clause-takes : goal.returns-else-value-clause-takes
returns-else-value-clause-takes g c =
    omega (arith, c.in-Run-read_near.ensures.takes, runs_from_later c.args.left.ring.now c.args.left.slots.now c.args.from (c.in-Run-read_near.end + 1) (omega (arith, c.in-Run-read_near.ensures.seen.upward)))

pub returns-else-right_value-clause-takes : goal.returns-else-right_value-clause-takes
returns-else-right_value-clause-takes g c =
    omega (arith, c.in-Run-read_near-2.ensures.takes, runs_from_later c.args.left.ring.now c.args.left.slots.now c.args.from (c.in-Run-read_near-2.right_end + 1) (omega (arith, c.in-Run-read_near-2.ensures.seen.upward)))

pub returns-then-right_value-clause-takes : goal.returns-then-right_value-clause-takes
returns-then-right_value-clause-takes g c =
    let end : ℕ = c.min.result in
    let left_from = c.in-Run.ensures.seen.upward in
    let right_from = c.in-Run-read_near-2.ensures.seen.upward in
    let left_falls : (t : ℕ) → t ≤ end + 1 → operand_runs c.args.left (end + 1) ≤ operand_runs c.args.left t = λ t h. runs_from_later c.args.left.ring.now c.args.left.slots.now t (end + 1) h in
    let right_falls : (t : ℕ) → t ≤ end + 1 → operand_runs c.args.right (end + 1) ≤ operand_runs c.args.right t = λ t h. runs_from_later c.args.right.ring.now c.args.right.slots.now t (end + 1) h in
    elim (cases_lt c.in-Run.left_end c.in-Run-read_near-2.right_end) [
      | inl nearer ↦ omega (arith, c.in-Run.ensures.takes, left_falls (c.in-Run.left_end + 1) (omega (arith, c.min.ensures)), right_falls c.args.from (omega (arith, c.min.ensures)))
      | inr further ↦ omega (arith, c.in-Run-read_near-2.ensures.takes, right_falls (c.in-Run-read_near-2.right_end + 1) (omega (arith, c.min.ensures)), left_falls c.args.from (omega (arith, c.min.ensures)))
    ]
