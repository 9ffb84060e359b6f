-- Each goal is a lemma on rows, at what the code has read and added.
use Rattle.std.proofs.Common.{◌≡◌, ◌+◌, ◌<◌, ◌-◌, min, max, length, get_or, arith}
use Rattle.std.proofs.lemmas.List.{get_or_read}
use Rattle.count_sets.proofs.Cells.{begun, stepped, ended}
use Rattle.count_sets.proofs.Sharing.{shares_begun, shares_stepped, shares_ended}
use Rattle.count_sets.proofs.table.Table.extend.Goals as goal

pub loop-j-init : goal.loop-j-init
loop-j-init c =
    let first : c.max-first.result ≡ max ((c.args.plan.lowest + c.args.k + 1) - c.args.plan.bodies) 1 = omega arith in
    let inside : c.max-first.result - 1 < length c.args.self.now.row.items = omega (arith, c.requires.table.width) in
    let read : c.index-fewer.result.now ≡ get_or c.args.self.now.row.items (c.max-first.result - 1) 0
    = get_or_read c.args.self.now.row.items (c.max-first.result - 1) c.index-fewer.result.now inside c.index-fewer.ensures 0 in (
      begun c.args.plan c.args.k c.max-first.result c.in_ok-body.body c.index-fewer.result.now
          c.args.self.now.gates c.add.new.gates c.args.self.now.row.items
          c.requires.table c.requires.next c.requires.plan.asked c.requires.plan.order c.requires.plan.some
          first c.in_ok-body.ensures.added c.in_ok-body.ensures.number read,
      shares_begun c.args.plan c.args.k c.max-first.result c.index-fewer.result.now
          c.args.self.now.gates c.add.new.gates c.args.self.now.row.items
          c.requires.rising c.requires.plan.order c.requires.plan.some c.requires.next c.requires.plan.asked
          first c.in_ok-body.ensures.added read,
    )

pub cell-requires : goal.cell-requires
cell-requires c = omega (arith, c.loop-j.invariant.0.size, c.requires.room)

pub loop-j-preserved : goal.loop-j-preserved
loop-j-preserved c =
    let first : c.max-first.result ≡ max ((c.args.plan.lowest + c.args.k + 1) - c.args.plan.bodies) 1 = omega arith in
    let until : c.loop-j.j < min (c.args.k + 1) c.args.plan.highest + 1 = omega arith in
    let inside : c.loop-j.j < length c.loop-j.self.row.items = omega (arith, c.loop-j.invariant.0.filling.width) in
    let read : c.index-same.result.now ≡ get_or c.loop-j.self.row.items c.loop-j.j 0
    = get_or_read c.loop-j.self.row.items c.loop-j.j c.index-same.result.now inside c.index-same.ensures 0 in (
      stepped c.args.plan c.args.k c.max-first.result (length c.args.self.now.gates) c.in_ok-body.body c.loop-j.j
          c.loop-j.self.gates c.cell.new.gates c.loop-j.self.row.items c.loop-j.fewer c.index-same.result.now c.in_ok-gate.gate
          c.loop-j.invariant.0 first c.loop-j.auto.j until
          c.in_ok-gate.ensures.added c.in_ok-gate.ensures.number read,
      shares_stepped c.args.plan c.args.k c.max-first.result (length c.args.self.now.gates) c.in_ok-body.body c.loop-j.j
          c.loop-j.self.gates c.cell.new.gates c.loop-j.self.row.items c.loop-j.fewer c.index-same.result.now c.in_ok-gate.gate
          c.loop-j.invariant.0 c.loop-j.invariant.1 c.in_ok-body.ensures.number first c.loop-j.auto.j until
          c.in_ok-gate.ensures.added c.in_ok-gate.ensures.number read,
    )

pub returns-clause-table : goal.returns-clause-table
returns-clause-table c =
    let first : c.max-first.result ≡ max ((c.args.plan.lowest + c.args.k + 1) - c.args.plan.bodies) 1 = omega arith in
    let at : c.loop-j.j ≡ min (c.args.k + 1) c.args.plan.highest + 1 = omega arith in
    ended c.args.plan c.args.k c.max-first.result (length c.args.self.now.gates) c.in_ok-body.body c.loop-j.j
    c.loop-j.self.gates c.loop-j.self.row.items c.loop-j.fewer
    c.loop-j.invariant.0 first at c.requires.next c.requires.plan.asked c.requires.plan.order c.requires.plan.some c.requires.table.size

pub returns-clause-rising : goal.returns-clause-rising
returns-clause-rising c =
    let first : c.max-first.result ≡ max ((c.args.plan.lowest + c.args.k + 1) - c.args.plan.bodies) 1 = omega arith in
    let at : c.loop-j.j ≡ min (c.args.k + 1) c.args.plan.highest + 1 = omega arith in
    shares_ended c.args.plan c.args.k (length c.args.self.now.gates) c.loop-j.j
    c.loop-j.self.gates c.loop-j.self.row.items c.loop-j.fewer c.loop-j.invariant.1 at
