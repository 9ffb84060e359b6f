use Rattle.std.proofs.Common.{◌<◌, List, length, refl, arith}
use Rattle.scq_ring.specs.Runs.{no_ring}
use Rattle.ft_engine.specs.declared.queue.Queue.{Queue}
use Rattle.ft_engine.specs.Queues.{queue_at}
use Rattle.ft_engine.proofs.Restarting.{emptied_more, seats_more}
use Rattle.ft_engine.proofs.restart.restart.Goals as goal

pub loop-i-preserved : goal.loop-i-preserved
unfolding no_ring
loop-i-preserved c =
    let queues : List Queue = c.loop-i.queues in
    let new : Queue = record { ring = c.make.result; reads_at = c.first_read.result; seat = (queue_at queues c.loop-i.i).seat } in
    let inside : c.loop-i.i < length queues = omega (arith, c.loop-i-test.true, c.loop-i.invariant.seats.same_length, c.requires) in
    record {
      seats = seats_more c.args.queues.now queues c.loop-i.i new inside c.loop-i.invariant.seats refl;
      emptied = emptied_more c.args.ops.now queues c.loop-i.i new inside c.loop-i.invariant.emptied
          (record { frontier = c.make.ensures.frontier; low = c.make.ensures.low; belongs = c.make.ensures.belongs; reads_at = c.first_read.ensures });
    }
