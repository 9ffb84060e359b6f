-- Nothing is cut yet, what was read is pending, and the bytes that were seen hold no newline.
use Rattle.std.proofs.Common.{◌≡◌, ◌+◌, ◌-◌, ◌≤◌, length, take, None, false, if◌then◌else◌}
use Rattle.tool_io.specs.Log.{OnLog}
use Rattle.tool_io.specs.Host.{NoFault, LeftElsewhere}
use Rattle.tool_io.specs.Cutting.{HasNoNewline}
use Rattle.tool_io.proofs.Reading.{HasRead}
use Rattle.tool_io.proofs.line_cut.LineCut.cut_next.Given as goal

abbrev pub invariant-loop-len : goal.invariant-loop-len
invariant-loop-len g l = record {
  row : l.self.row ≡ None;
  kept : l.self.kept ≡ false;
  number : l.self.number ≡ l.fn.self.number;
  room : length l.self.pending ≤ 65536;
  within : l.seen ≤ length l.self.pending;
  no_newline : HasNoNewline (take l.seen l.self.pending);
  no_fault : NoFault (g.H.Host.faults l.initial.host) (g.H.Host.faults l.host);
  log : OnLog (g.H.Host.log l.initial.host) (g.H.Host.log l.host) (HasRead l.place l.fn.self l.self);
  elsewhere : LeftElsewhere (g.H.Host.left l.initial.host) (g.H.Host.left l.host) l.place;
}

abbrev pub decreases-loop-len : goal.decreases-loop-len
decreases-loop-len g l = 65536 - length l.self.pending + (if l.self.ended then 0 else 1)
