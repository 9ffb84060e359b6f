-- The first row is the two truths, and the last row is that of all bodies.
use Rattle.std.proofs.Common.{◌≡◌, ◌+◌, replicate, subst, arith, rules}
use Rattle.count_sets.specs.Tables.{IsGateRow, GatesRise}
use Rattle.count_sets.proofs.Ends.{started}
use Rattle.count_sets.proofs.Sharing.{rising_start}
use Rattle.count_sets.proofs.table.Table.of.Goals as goal

pub loop-k-init : goal.loop-k-init
loop-k-init c =
    let row : c.in_ok-row.row.items ≡ replicate (c.args.plan.highest + 1) c.in_ok-no.no = search rules in (
      started c.args.plan c.new-gates.result c.add.new.gates c.add-2.new.gates c.in_ok-row.row.items c.in_ok-no.no c.in_ok-yes.yes
          c.new-gates.ensures c.in_ok-no.ensures.added c.in_ok-no.ensures.number c.in_ok-yes.ensures.added c.in_ok-yes.ensures.number row,
      rising_start c.args.plan c.new-gates.result c.add.new.gates c.add-2.new.gates _
          c.new-gates.ensures c.in_ok-no.ensures.added c.in_ok-yes.ensures.added,
    )

pub returns-clause-table : goal.returns-clause-table
returns-clause-table c =
    let all : c.loop-k.k ≡ c.args.plan.bodies = omega arith in
    subst (λ k. IsGateRow c.args.plan k c.loop-k.table.gates c.loop-k.table.row.items) all c.loop-k.invariant.0

pub returns-clause-rising : goal.returns-clause-rising
returns-clause-rising c =
    let all : c.loop-k.k ≡ c.args.plan.bodies = omega arith in
    subst (λ k. GatesRise c.args.plan k c.loop-k.table.gates c.loop-k.table.row.items) all c.loop-k.invariant.1
