use Rattle.std.proofs.Common.{◌≡◌, ℕ, ◌≤◌, arith, ap, ◌∙◌, inl, Bool, true, Some, None}
use Rattle.ft_engine.proofs.Going.{shown_run}
use Rattle.ft_engine.proofs.Rules.{left_unknown}
use Rattle.ft_engine.proofs.until.read_ahead.Goals as goal

pub returns-in-Nothing-clause-finds : goal.returns-in-Nothing-clause-finds
returns-in-Nothing-clause-finds g c =
    λ p q left right scan.
    let at = c.args.at in
    let i = c.args.until.window in
    let ended : (k : ℕ) → at.reads_at ≤ k → p k ≡ None = λ k from. left.ends k (omega (arith, c.requires.ended)) in
    let unknown : q at.seen ≡ None = right.ends at.seen c.in-Nothing.ensures.seen in (
      left_unknown i p q c.args.from at.reads_at at.seen scan c.requires.earlier (omega arith) ended (λ e. cc),
      inl (ended at.reads_at (omega arith)),
    )

pub returns-then-value-clause-finds : goal.returns-then-value-clause-finds
returns-then-value-clause-finds g c =
    λ p q left right scan.
    let at = c.args.at in
    let i = c.args.until.window in
    let seen = c.in-Run.ensures.seen in
    let ended : (k : ℕ) → at.reads_at ≤ k → p k ≡ None = λ k from. left.ends k (omega (arith, c.requires.ended)) in
    let holds : q at.seen ≡ Some true =
    shown_run c.args.until.right.ring.now c.args.until.right.slots.now q at.seen c.in-Run.end c.in-Run.value right (omega (arith, c.requires.to_read.can_scan.right.kept)) seen at.seen (omega arith) seen.upward ∙ ap (λ (v : Bool). Some v) c.if-value.true in (
      left_unknown i p q c.args.from at.reads_at at.seen scan c.requires.earlier (omega arith) ended (λ e. cc),
      inl (ended at.reads_at (omega arith)),
    )
