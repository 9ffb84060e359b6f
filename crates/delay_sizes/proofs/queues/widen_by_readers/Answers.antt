use Rattle.std.proofs.Common.{arith, map}
use Rattle.mltl_base.specs.Queues.{operands, reported}
use Rattle.delay_sizes.proofs.QueueLaws.{beside-append}
use Rattle.delay_sizes.proofs.queues.widen_by_readers.Goals as goal

pub returns : goal.returns
returns c = λ g inside. omega (arith, beside-append c.args.worst.now (map operands c.args.ft.now) (map reported c.args.outs.now) g, c.widen_by_instructions.ensures g inside, c.widen_by_outputs.ensures g inside)
