use Rattle.std.proofs.Common.{◌≡◌, ◌≤◌, ◌<◌, ◌+◌, ◌-◌, ℕ, length}
use Rattle.std.specs.Prelude.{slice_index_or}
use Rattle.trace_feed.specs.declared.fields.Reading.TheVariants.{Unread}
use Rattle.trace_feed.proofs.unread_fields.unread_from.Given as goal

-- the columns so far aren't read
abbrev pub invariant-columns : goal.invariant-columns
invariant-columns l = record {
  within : l.c + l.count ≤ length l.readings;
  unread : (k : ℕ) → k < l.count → slice_index_or l.readings (l.c + k) Unread ≡ Unread;
}

abbrev pub decreases-columns : goal.decreases-columns
decreases-columns l = length l.readings - (l.c + l.count)
