use Rattle.std.proofs.Common.{arith}
use Rattle.delay_sizes.proofs.QueueLaws.{pair_widens}
use Rattle.delay_sizes.proofs.queues.widen.Goals as goal

pub returns : goal.returns
returns c = λ g inside. pair_widens c.args.widths.now c.args.worst.now c.args.left c.args.right g c.max-latest.result c.max.result c.max-2.result (omega arith) (omega arith) c.max-latest.ensures c.max.ensures c.max-2.ensures
