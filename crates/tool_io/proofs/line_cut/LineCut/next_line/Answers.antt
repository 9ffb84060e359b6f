-- A kept line comes once more, with no read.
use Rattle.std.proofs.Common.{[]}
use Rattle.tool_io.proofs.LogLaws.{Appends-none}
use Rattle.tool_io.proofs.Reading.{CutsLine-again}
use Rattle.tool_io.proofs.line_cut.LineCut.next_line.Goals as goal

pub returns-then-self-clause-log : goal.returns-then-self-clause-log
returns-then-self-clause-log g c =
    record {
      events = [];
      appended = Appends-none (g.H.Host.log c.args.host.now);
      holds = rw (← c.self.view_is) (CutsLine-again c.args.place c.self.inside c.self.invariant c.if-self.true);
    }
