use Rattle.std.proofs.Common.{length}
use Rattle.tool_io.proofs.MemHostLemmas.{read-cause, read-left, read-elsewhere}
use Rattle.tool_io.proofs.mem_host.MemHostHost.read.Goals as goal

pub returns-clause-cause : goal.returns-clause-cause
returns-clause-cause c = rw (c.read_piece.ensures.reads.answers, c.read_piece.ensures.reads.after) (read-cause c.args.self.now c.args.place (length c.args.into.now))

pub returns-clause-left : goal.returns-clause-left
returns-clause-left c = rw (c.read_piece.ensures.reads.answers, c.read_piece.ensures.reads.after, c.read_piece.ensures.reads.fills) (read-left c.args.self.now c.args.place c.args.into.now c.requires.source c.read_piece.ensures.some)

pub returns-clause-elsewhere : goal.returns-clause-elsewhere
returns-clause-elsewhere c = rw c.read_piece.ensures.reads.after (read-elsewhere c.args.self.now c.args.place (length c.args.into.now))
