-- What was taken is whole, within the limit, and the end wasn't met.
use Rattle.std.proofs.Common.{length, ◌-◌, ◌≤◌, false}
use Rattle.tool_io.specs.Log.{OnLog}
use Rattle.tool_io.specs.Host.{NoFault, LeftElsewhere}
use Rattle.tool_io.specs.Whole.{Draws}
use Rattle.tool_io.proofs.whole.read_whole.Given as goal

abbrev pub invariant-loop-n : goal.invariant-loop-n
invariant-loop-n g l = record {
  in_limit : length l.whole.items ≤ l.limit;
  no_fault : NoFault (g.H.Host.faults l.initial.host) (g.H.Host.faults l.host);
  log : OnLog (g.H.Host.log l.initial.host) (g.H.Host.log l.host) (Draws l.place l.whole.items false);
  elsewhere : LeftElsewhere (g.H.Host.left l.initial.host) (g.H.Host.left l.host) l.place;
}

abbrev pub decreases-loop-n : goal.decreases-loop-n
decreases-loop-n g l = l.limit - length l.whole.items
