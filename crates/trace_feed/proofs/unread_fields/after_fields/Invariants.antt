use Rattle.std.proofs.Common.{◌≤◌, ◌-◌, length}
use Rattle.trace_feed.proofs.PassedFields.{AreAfter}
use Rattle.trace_feed.proofs.unread_fields.after_fields.Given as goal

-- after the fields that are left stand those that are looked for
abbrev pub invariant-passing : goal.invariant-passing
invariant-passing l = record {
  within : l.at ≤ length l.line;
  after : AreAfter l.line l.from l.count l.at l.left;
}

abbrev pub decreases-passing : goal.decreases-passing
decreases-passing l = length l.line - l.at

abbrev pub invariant-bytes : goal.invariant-bytes
invariant-bytes l = record {
  within : l.at ≤ length l.line;
  after : AreAfter l.line l.from l.count l.at l.left;
}

abbrev pub decreases-bytes : goal.decreases-bytes
decreases-bytes l = length l.line - l.at
