-- What went out is the front of the piece, in writes without a fault.
use Rattle.std.proofs.Common.{◌≡◌, length, take, ◌-◌, ◌≤◌}
use Rattle.tool_io.specs.Log.{OnLog, Writes}
use Rattle.tool_io.specs.Host.{NoFault, LeftAlone}
use Rattle.tool_io.proofs.whole.put_all.Given as goal

abbrev pub invariant-loop-sent : goal.invariant-loop-sent
invariant-loop-sent g l = record {
  in_range : l.sent ≤ length l.piece;
  no_fault : NoFault (g.H.Host.faults l.initial.host) (g.H.Host.faults l.host);
  log : OnLog (g.H.Host.log l.initial.host) (g.H.Host.log l.host) (Writes l.place (take l.sent l.piece));
  untouched : l.sent ≡ 0 → l.host ≡ l.initial.host;
  left : LeftAlone (g.H.Host.left l.initial.host) (g.H.Host.left l.host);
}

abbrev pub decreases-loop-sent : goal.decreases-loop-sent
decreases-loop-sent g l = length l.piece - l.sent
