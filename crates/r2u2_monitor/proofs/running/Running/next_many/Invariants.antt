use Rattle.std.proofs.Common.{◌≡◌, ◌+◌, ◌*◌, ◌≤◌, drop, take}
use Rattle.r2u2_monitor.specs.Running.{ResumesAt, YieldsMany, outs_left}
use Rattle.r2u2_monitor.proofs.running.Running.next_many.Given as goal

-- so many reports were given
abbrev pub invariant-loop-k : goal.invariant-loop-k
invariant-loop-k g l = record {
  yields : YieldsMany l.style (take l.k l.reports) l.initial.self l.self;
  cursor : ResumesAt l.self l.cursor;
  rest : drop l.k l.reports ≡ drop l.k l.initial.reports;
  counted : l.steps + outs_left l.initial.self l.cursor ≤ l.initial.steps + outs_left l.initial.self l.initial.cursor + 2 * l.k;
}
