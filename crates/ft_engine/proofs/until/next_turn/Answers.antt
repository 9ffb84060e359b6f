use Rattle.std.proofs.Common.{◌≡◌, ℕ, ◌+◌, ◌-◌, ◌≤◌, max, arith}
use Rattle.ft_engine.proofs.Rules.{over_false, over_scan}
use Rattle.ft_engine.proofs.Costs.{counts, counts_less, counts_not}
use Rattle.scq_ring.proofs.RunLemmas.{runs_from_later}
use Rattle.ft_engine.proofs.until.next_turn.Goals as goal

pub returns-then-from-hi-clause-finds : goal.returns-then-from-hi-clause-finds
returns-then-from-hi-clause-finds g c =
    λ p q left right scan.
    let at = c.args.at in
    let i = c.args.until.window in
    let lo : c.from-lo.result ≡ i.lo = c.from-lo.ensures in
    let hi : c.from-hi.result ≡ i.hi = c.from-hi.ensures in
    let reads_at : c.max-reads_at.result ≡ max at.reads_at (at.seen - (i.hi - i.lo)) = omega (arith, c.max-reads_at.ensures) in (
      λ x from to. over_false i p q c.args.from at.reads_at at.seen scan x from (omega arith),
      over_scan i p q c.args.from at.reads_at at.seen c.requires.can_scan.ordered scan (omega arith) (at.seen - 1 - c.from-hi.result + 1) c.max-reads_at.result (omega arith) reads_at,
    )

pub returns-then-from-hi-clause-by_runs : goal.returns-then-from-hi-clause-by_runs
returns-then-from-hi-clause-by_runs g c =
    let at = c.args.at in
    let i = c.args.until.window in
    let hi : c.from-hi.result ≡ i.hi = c.from-hi.ensures in
    let next : ℕ = c.max-reads_at.result in
    let onward : at.reads_at ≤ next = omega (arith, c.max-reads_at.ensures) in
    let ends : ℕ = at.seen - 1 - c.from-hi.result + 1 + i.hi in
    omega (
      arith,
      runs_from_later c.args.until.left.ring.now c.args.until.left.slots.now at.reads_at next onward,
      counts 1 (c.args.from + i.hi) at.seen (omega arith),
      counts_not 1 ends at.seen (omega arith),
      counts_less 2 at.reads_at next at.seen onward,
    )
