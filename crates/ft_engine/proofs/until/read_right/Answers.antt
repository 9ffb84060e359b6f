use Rattle.std.proofs.Common.{◌≡◌, ℕ, ◌+◌, ◌-◌, ◌≤◌, arith, ap, subst, sym, ◌∙◌, inr, Bool, true, Some, None}
use Rattle.ft_engine.specs.Scans.{Scan}
use Rattle.ft_engine.proofs.Going.{shown_run}
use Rattle.ft_engine.proofs.Rules.{right_true, fresh_scan, right_unknown}
use Rattle.ft_engine.proofs.Costs.{counts_most, counts_not}
use Rattle.scq_ring.proofs.RunLemmas.{runs_from_later}
use Rattle.ft_engine.specs.Decisions.{operand_runs}
use Rattle.ft_engine.proofs.until.read_right.Goals as goal

pub returns-in-Nothing-clause-finds : goal.returns-in-Nothing-clause-finds
returns-in-Nothing-clause-finds g c =
    λ p q left right scan.
    let at = c.args.at in
    let i = c.args.until.window in
    let here : Scan i p q c.args.from at.reads_at at.reads_at = subst (λ (n : ℕ). Scan i p q c.args.from at.reads_at n) (sym c.requires.level) scan in
    let ended : (k : ℕ) → at.reads_at ≤ k → q k ≡ None = λ k from. right.ends k (omega (arith, c.in-Nothing.ensures.seen)) in (
      right_unknown i p q c.args.from at.reads_at here (omega arith) ended,
      inr (ended at.reads_at (omega arith)),
    )

pub returns-then-value-clause-finds : goal.returns-then-value-clause-finds
returns-then-value-clause-finds g c =
    λ p q left right scan.
    let at = c.args.at in
    let i = c.args.until.window in
    let lo : c.from-lo.result ≡ i.lo = c.from-lo.ensures in
    let here : Scan i p q c.args.from at.reads_at at.reads_at = subst (λ (n : ℕ). Scan i p q c.args.from at.reads_at n) (sym c.requires.level) scan in
    let seen = c.in-Run.ensures.seen in
    let holds : (k : ℕ) → at.reads_at ≤ k → k ≤ c.in-Run.end → q k ≡ Some true =
    λ k from to. shown_run c.args.until.right.ring.now c.args.until.right.slots.now q at.reads_at c.in-Run.end c.in-Run.value right c.requires.to_read.can_scan.right.kept seen k from to ∙ ap (λ (v : Bool). Some v) c.if-value.true in (
      λ x from to. right_true i p q c.args.from at.reads_at c.in-Run.end c.requires.to_read.can_scan.ordered here (omega arith) seen.upward holds x from (omega (arith, seen.upward)),
      fresh_scan i p q (c.in-Run.end - c.from-lo.result + 1) (c.in-Run.end + 1) (omega (arith, seen.upward)),
    )

pub returns-then-value-clause-by_runs : goal.returns-then-value-clause-by_runs
returns-then-value-clause-by_runs g c =
    let at = c.args.at in
    let i = c.args.until.window in
    let end : ℕ = c.in-Run.end in
    let upward = c.in-Run.ensures.seen.upward in
    omega (
      arith,
      c.in-Run.ensures.step,
      c.in-Run.ensures.takes,
      ap (operand_runs c.args.until.right) c.requires.level,
      runs_from_later c.args.until.left.ring.now c.args.until.left.slots.now at.reads_at (end + 1) (omega arith),
      counts_not 2 (end + 1) (end + 1) (omega arith),
      counts_most 1 (end - c.from-lo.result + 1 + i.hi) (end + 1),
    )
