use Rattle.std.proofs.Common.{◌≡◌, ℕ, ◌+◌, ◌-◌, ◌*◌, ◌<◌, ◌≤◌, min, arith, ap, ◌∙◌, inl, inr, nat_lt, if◌then◌else◌, Bool, false, Some}
use Rattle.ft_engine.proofs.Going.{shown_run}
use Rattle.ft_engine.proofs.Rules.{left_false, left_false_scan}
use Rattle.std.proofs.lemmas.Bool.{cases_lt}
use Rattle.ft_engine.specs.Decisions.{operand_runs}
use Rattle.ft_engine.specs.declared.until.Until.{Until}
use Rattle.ft_engine.proofs.Costs.{counts, counts_less, counts_most, counts_not}
use Rattle.scq_ring.proofs.RunLemmas.{runs_from_later}
use Rattle.ft_engine.proofs.until.read_left.Goals as goal

pub returns-else-value-clause-finds : goal.returns-else-value-clause-finds
returns-else-value-clause-finds g c =
    λ p q left right scan.
    let at = c.args.at in
    let i = c.args.until.window in
    let lo : c.from-lo.result ≡ i.lo = c.from-lo.ensures in
    let seen = c.in-Run.ensures.seen in
    let last = c.min-last.result in
    let further : at.reads_at ≤ last = omega (arith, seen.upward, c.min-last.ensures) in
    let within : last < at.seen = omega (arith, c.min-last.ensures) in
    let fails : (k : ℕ) → at.reads_at ≤ k → k ≤ last → p k ≡ Some false =
    λ k from to. shown_run c.args.until.left.ring.now c.args.until.left.slots.now p at.reads_at c.in-Run.end c.in-Run.value left c.requires.to_read.can_scan.left.kept seen k from (omega (arith, c.min-last.ensures)) ∙ ap (λ (v : Bool). Some v) c.if-value.false in (
      λ x from to. left_false i p q c.args.from at.reads_at at.seen last scan further within fails x from (omega arith),
      left_false_scan i p q c.args.from at.reads_at at.seen last scan further within (last - c.from-lo.result + 1) (omega arith),
    )

-- a look at the left operand takes its run, or leads to where the right one was seen
pub left_taken : (until : Until) (reads_at seen end last : ℕ) → reads_at < seen → reads_at ≤ end → last ≡ min end (seen - 1) → operand_runs until.left (end + 1) + 1 ≤ operand_runs until.left reads_at
    → 2 * operand_runs until.left (last + 1) + (if nat_lt (last + 1) seen then 2 else 0) + 2 ≤ 2 * operand_runs until.left reads_at + (if nat_lt reads_at seen then 2 else 0)
left_taken until reads_at seen end last before upward last_is takes =
    let falls : (t : ℕ) → t ≤ last + 1 → operand_runs until.left (last + 1) ≤ operand_runs until.left t = λ t h. runs_from_later until.left.ring.now until.left.slots.now t (last + 1) h in
    let ahead : (if nat_lt reads_at seen then 2 else 0) ≡ 2 = counts 2 reads_at seen before in
    elim (cases_lt end (seen - 1)) [
      | inl nearer ↦ omega (arith, ahead, takes, falls (end + 1) (omega arith), counts_most 2 (last + 1) seen)
      | inr further ↦ omega (arith, ahead, falls reads_at (omega arith), counts_not 2 (last + 1) seen (omega arith))
    ]

pub returns-then-value-clause-by_runs : goal.returns-then-value-clause-by_runs
returns-then-value-clause-by_runs g c =
    let at = c.args.at in
    let taken = left_taken c.args.until at.reads_at at.seen c.in-Run.end c.min-last.result c.requires.earlier c.in-Run.ensures.seen.upward c.min-last.ensures c.in-Run.ensures.takes in
    omega (arith, c.in-Run.ensures.step, taken)

pub returns-else-value-clause-by_runs : goal.returns-else-value-clause-by_runs
returns-else-value-clause-by_runs g c =
    let at = c.args.at in
    let i = c.args.until.window in
    let lo : c.from-lo.result ≡ i.lo = c.from-lo.ensures in
    let last : ℕ = c.min-last.result in
    let taken = left_taken c.args.until at.reads_at at.seen c.in-Run.end last c.requires.earlier c.in-Run.ensures.seen.upward c.min-last.ensures c.in-Run.ensures.takes in
    let upward = c.in-Run.ensures.seen.upward in
    let further : at.reads_at ≤ last = omega (arith, c.min-last.ensures, c.requires.earlier) in
    omega (arith, c.in-Run.ensures.step, taken, counts_less 1 (c.args.from + i.hi) (last - c.from-lo.result + 1 + i.hi) at.seen (omega (arith, c.requires.to_read.can_scan.reach)))
