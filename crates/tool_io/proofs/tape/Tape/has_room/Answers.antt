use Rattle.std.proofs.Common.{◌≡◌, ℕ, ◌+◌, ◌-◌, ◌<◌, ◌≤◌, ◌&&◌, length, arith}
use Rattle.std.specs.Prelude.{nat_lt, nat_le}
use Rattle.std.proofs.lemmas.Bool.Decides.{nat_tests}
use Rattle.tool_io.proofs.TapeLemmas.{length-events_of, bytes_in-events_of}
use Rattle.tool_io.proofs.tape.Tape.has_room.Goals as goal

within : (events most count bytes limit : ℕ) → events < most → bytes ≤ limit → nat_le count (limit - bytes) ≡ (nat_lt events most && nat_le (bytes + count) limit)
within events most count bytes limit few fits = grind (arith, nat_tests)

full : (events most count bytes limit : ℕ) → most ≤ events → nat_lt events most ≡ (nat_lt events most && nat_le (bytes + count) limit)
full events most count bytes limit many = grind (arith, nat_tests)

pub returns-then-len-self : goal.returns-then-len-self
returns-then-len-self c =
    let used : c.len-then-len-self.result ≡ length c.self.inside.bytes.items = omega arith in
    rw (← c.self.view_is) (rw (length-events_of, bytes_in-events_of _ _ c.self.invariant.covered, used)
    (within (length c.self.inside.marks.items) c.self.inside.most_events c.args.count (length c.self.inside.bytes.items) c.self.inside.most_bytes (omega arith) c.self.invariant.within))

pub returns-else-len-self : goal.returns-else-len-self
returns-else-len-self c =
    let told : c.len.result ≡ length c.self.inside.marks.items = omega arith in
    rw (← c.self.view_is) (rw (length-events_of, bytes_in-events_of _ _ c.self.invariant.covered, told)
    (full (length c.self.inside.marks.items) c.self.inside.most_events c.args.count (length c.self.inside.bytes.items) c.self.inside.most_bytes (omega arith)))
