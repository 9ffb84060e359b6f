use Rattle.tool_io.proofs.MemHostLemmas.{write-cause}
use Rattle.tool_io.proofs.mem_host.MemHostHost.write.Goals as goal

pub returns-clause-cause : goal.returns-clause-cause
returns-clause-cause c = rw (c.write_piece.ensures.answer, c.write_piece.ensures.after) (write-cause c.args.self.now c.args.place c.args.piece.now)
