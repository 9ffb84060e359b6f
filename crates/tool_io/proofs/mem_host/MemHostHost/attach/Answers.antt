use Rattle.tool_io.proofs.MemHostLemmas.{attach-cause, attach-elsewhere}
use Rattle.tool_io.proofs.mem_host.MemHostHost.attach.Goals as goal

pub returns-clause-cause : goal.returns-clause-cause
returns-clause-cause c = rw (c.attach_name.ensures.answer, c.attach_name.ensures.after) (attach-cause c.args.self.now c.args.place c.args.name.now)

pub returns-clause-left : goal.returns-clause-left
returns-clause-left c = rw c.attach_name.ensures.after (attach-elsewhere c.args.self.now c.args.place c.args.name.now)
