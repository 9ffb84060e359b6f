use Rattle.std.proofs.Common.{◌≡◌, ℕ, ◌+◌, ◌∙◌, arith, ap, subst, sym, length}
use Rattle.std.specs.List.{slice_get}
use Rattle.mltl_base.specs.declared.operators.FtOp.{FtOp}
use Rattle.mltl_base.specs.declared.operators.FtOp.TheVariants.{Load, Not, And, Until}
use Rattle.scq_ring.specs.declared.Ring.{Ring}
use Rattle.scq_ring.specs.Runs.{frontier_of}
use Rattle.ft_engine.specs.Decisions.{Shown}
use Rattle.ft_engine.specs.Scans.{DecidesUntil}
use Rattle.mltl_base.specs.Seats.{part}
use Rattle.ft_engine.specs.Queues.{queue_at}
use Rattle.ft_engine.specs.Tables.{IsScanned, KnowsVerdicts, kleene_value}
use Rattle.ft_engine.proofs.Telling.{scan_kept, settled, settled_at_once, shown_operand}
use Rattle.ft_engine.proofs.rows.step.Goals as goal

pub returns-in-Load-clause-verdicts : goal.returns-in-Load-clause-verdicts
returns-in-Load-clause-verdicts g c = λ plan truth n old new told loads.
    let op : FtOp = Load c.in-Load.k in
    let t : KnowsVerdicts plan truth n op c.args.before.now c.args.earlier.now c.args.queue.now c.args.own.now old new = subst (λ (o : FtOp). KnowsVerdicts plan truth n o c.args.before.now c.args.earlier.now c.args.queue.now c.args.own.now old new) c.in-Load.is told in
    let i : ℕ = length c.args.before.now in
    let seat = t.ready.planned.seated in
    let level : frontier_of c.args.queue.now.ring ≡ n = omega (arith, seat.0, seat.1, t.ready.paced.at_least, t.ready.paced.at_most) in
    let last : c.frontier-next.result ≡ n = c.frontier-next.ensures.frontier ∙ level in
    record {
      verdicts =
          settled_at_once c.args.queue.now.ring c.args.own.now (old i) c.write-in-Load.new.self c.write-in-Load.new.slots (new i) (λ t. truth t c.in-Load.k) n c.frontier-next.result c.truth.result
          t.longest (t.extends.each i) t.verdicts t.ready.paced.belongs c.write-in-Load.ensures.written last level (loads c.in-Load.k c.truth.result c.in-Load.is c.truth.ensures);
      scanned = subst (λ (o : FtOp). IsScanned o new record { ring = c.write-in-Load.new.self; reads_at = c.args.queue.now.reads_at; seat = c.args.queue.now.seat }) (sym c.in-Load.is) tt;
    }

pub returns-in-Not-clause-verdicts : goal.returns-in-Not-clause-verdicts
returns-in-Not-clause-verdicts g c = λ plan truth n old new told loads.
    let op : FtOp = Not c.in-Not.g in
    let t : KnowsVerdicts plan truth n op c.args.before.now c.args.earlier.now c.args.queue.now c.args.own.now old new = subst (λ (o : FtOp). KnowsVerdicts plan truth n o c.args.before.now c.args.earlier.now c.args.queue.now c.args.own.now old new) c.in-Not.is told in
    let seat = t.ready.planned.seated in
    let operand : Shown c.operand.result.ring.now c.operand.result.slots.now (slice_get (new c.in-Not.g)) =
    shown_operand (queue_at c.args.before.now c.in-Not.g).ring c.operand.result.ring.now (part c.args.earlier.now (queue_at c.args.before.now c.in-Not.g).seat) c.operand.result.slots.now (new c.in-Not.g)
    c.operand.ensures.ring c.operand.ensures.slots (t.operands c.in-Not.g seat.0) in
    let frontier : frontier_of c.operand.result.ring.now ≡ frontier_of (queue_at c.args.before.now c.in-Not.g).ring = ap (λ (r : Ring). frontier_of r) c.operand.ensures.ring in
    record {
      verdicts =
          settled c.args.queue.now.ring c.args.own.now (old (length c.args.before.now)) c.not_row.new.own c.not_row.new.own_slots (new (length c.args.before.now)) (kleene_value op truth (n + 1) new) (n + 1)
          t.longest (t.extends.each (length c.args.before.now)) t.verdicts c.not_row.ensures.goes_on (c.not_row.ensures.decided (slice_get (new c.in-Not.g)) operand)
          (omega (arith, frontier, (t.ready.operands.each c.in-Not.g seat.0).at_most, t.ready.paced.at_most, c.not_row.ensures.frontier));
      scanned = subst (λ (o : FtOp). IsScanned o new record { ring = c.not_row.new.own; reads_at = c.args.queue.now.reads_at; seat = c.args.queue.now.seat }) (sym c.in-Not.is) tt;
    }

pub returns-in-And-clause-verdicts : goal.returns-in-And-clause-verdicts
returns-in-And-clause-verdicts g c = λ plan truth n old new told loads.
    let op : FtOp = And c.in-And.l c.in-And.r in
    let t : KnowsVerdicts plan truth n op c.args.before.now c.args.earlier.now c.args.queue.now c.args.own.now old new = subst (λ (o : FtOp). KnowsVerdicts plan truth n o c.args.before.now c.args.earlier.now c.args.queue.now c.args.own.now old new) c.in-And.is told in
    let seat = t.ready.planned.seated in
    let left : Shown c.operand-left.result.ring.now c.operand-left.result.slots.now (slice_get (new c.in-And.l)) =
    shown_operand (queue_at c.args.before.now c.in-And.l).ring c.operand-left.result.ring.now (part c.args.earlier.now (queue_at c.args.before.now c.in-And.l).seat) c.operand-left.result.slots.now (new c.in-And.l)
    c.operand-left.ensures.ring c.operand-left.ensures.slots (t.operands c.in-And.l seat.0) in
    let right : Shown c.operand-right.result.ring.now c.operand-right.result.slots.now (slice_get (new c.in-And.r)) =
    shown_operand (queue_at c.args.before.now c.in-And.r).ring c.operand-right.result.ring.now (part c.args.earlier.now (queue_at c.args.before.now c.in-And.r).seat) c.operand-right.result.slots.now (new c.in-And.r)
    c.operand-right.ensures.ring c.operand-right.ensures.slots (t.operands c.in-And.r seat.1) in
    let left_frontier : frontier_of c.operand-left.result.ring.now ≡ frontier_of (queue_at c.args.before.now c.in-And.l).ring = ap (λ (r : Ring). frontier_of r) c.operand-left.ensures.ring in
    let right_frontier : frontier_of c.operand-right.result.ring.now ≡ frontier_of (queue_at c.args.before.now c.in-And.r).ring = ap (λ (r : Ring). frontier_of r) c.operand-right.ensures.ring in
    record {
      verdicts =
          settled c.args.queue.now.ring c.args.own.now (old (length c.args.before.now)) c.and_row.new.own c.and_row.new.own_slots (new (length c.args.before.now)) (kleene_value op truth (n + 1) new) (n + 1)
          t.longest (t.extends.each (length c.args.before.now)) t.verdicts c.and_row.ensures.goes_on (c.and_row.ensures.decided (slice_get (new c.in-And.l)) (slice_get (new c.in-And.r)) left right)
          (omega (arith, left_frontier, right_frontier, (t.ready.operands.each c.in-And.l seat.0).at_most, (t.ready.operands.each c.in-And.r seat.1).at_most, t.ready.paced.at_most, c.and_row.ensures.as_far.no_further));
      scanned = subst (λ (o : FtOp). IsScanned o new record { ring = c.and_row.new.own; reads_at = c.args.queue.now.reads_at; seat = c.args.queue.now.seat }) (sym c.in-And.is) tt;
    }

pub returns-in-Until-clause-verdicts : goal.returns-in-Until-clause-verdicts
returns-in-Until-clause-verdicts g c = λ plan truth n old new told loads.
    let op : FtOp = Until c.in-Until.l c.in-Until.r c.in-Until.window in
    let t : KnowsVerdicts plan truth n op c.args.before.now c.args.earlier.now c.args.queue.now c.args.own.now old new = subst (λ (o : FtOp). KnowsVerdicts plan truth n o c.args.before.now c.args.earlier.now c.args.queue.now c.args.own.now old new) c.in-Until.is told in
    let seat = t.ready.planned.seated in
    let left : Shown c.operand-in-Until.result.ring.now c.operand-in-Until.result.slots.now (slice_get (new c.in-Until.l)) =
    shown_operand (queue_at c.args.before.now c.in-Until.l).ring c.operand-in-Until.result.ring.now (part c.args.earlier.now (queue_at c.args.before.now c.in-Until.l).seat) c.operand-in-Until.result.slots.now (new c.in-Until.l)
    c.operand-in-Until.ensures.ring c.operand-in-Until.ensures.slots (t.operands c.in-Until.l seat.0) in
    let right : Shown c.operand-in-Until-2.result.ring.now c.operand-in-Until-2.result.slots.now (slice_get (new c.in-Until.r)) =
    shown_operand (queue_at c.args.before.now c.in-Until.r).ring c.operand-in-Until-2.result.ring.now (part c.args.earlier.now (queue_at c.args.before.now c.in-Until.r).seat) c.operand-in-Until-2.result.slots.now (new c.in-Until.r)
    c.operand-in-Until-2.ensures.ring c.operand-in-Until-2.ensures.slots (t.operands c.in-Until.r seat.1) in
    let decided : DecidesUntil c.in-Until.window (slice_get (new c.in-Until.l)) (slice_get (new c.in-Until.r)) c.until_row-queue.new.own c.until_row-queue.new.own_slots (frontier_of c.args.queue.now.ring) c.until_row-queue.result =
    c.until_row-queue.ensures.decided (slice_get (new c.in-Until.l)) (slice_get (new c.in-Until.r)) left right
    (scan_kept c.in-Until.window old new c.in-Until.l c.in-Until.r (frontier_of c.args.queue.now.ring) c.args.queue.now.reads_at t.extends t.scanned) in
    let right_frontier : frontier_of c.operand-in-Until-2.result.ring.now ≡ frontier_of (queue_at c.args.before.now c.in-Until.r).ring = ap (λ (r : Ring). frontier_of r) c.operand-in-Until-2.ensures.ring in
    record {
      verdicts =
          settled c.args.queue.now.ring c.args.own.now (old (length c.args.before.now)) c.until_row-queue.new.own c.until_row-queue.new.own_slots (new (length c.args.before.now)) (kleene_value op truth (n + 1) new) (n + 1)
          t.longest (t.extends.each (length c.args.before.now)) t.verdicts c.until_row-queue.ensures.goes_on decided.decides
          (omega (arith, right_frontier, (t.ready.operands.each c.in-Until.r seat.1).at_most, t.ready.placed.2, c.until_row-queue.ensures.reads_at.reach, c.until_row-queue.ensures.reads_at.in_time));
      scanned = subst (λ (o : FtOp). IsScanned o new record { ring = c.until_row-queue.new.own; reads_at = c.until_row-queue.result; seat = c.args.queue.now.seat }) (sym c.in-Until.is) decided.scanned;
    }
