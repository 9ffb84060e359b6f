-- Counters, one for each place, and their rise.
use Rattle.std.specs.Prelude.{ℕ, ◌+◌, ◌-◌, ◌^◌, ◌==◌, if◌then◌else◌}
use Rattle.tool_io.specs.declared.counts.Counts.{Counts}
use Rattle.tool_io.specs.declared.host.Place.{Place}
use Rattle.tool_io.specs.declared.host.Place.TheVariants.{Spec, Header, Program, Trace, Out, Err}

-- counters at 0
abbrev pub no_counts : Counts
no_counts = record { spec = 0; header = 0; program = 0; trace = 0; out = 0; err = 0 }

-- the counter of a place
abbrev pub count_at : Counts → Place → ℕ
count_at counts Spec = counts.spec
count_at counts Header = counts.header
count_at counts Program = counts.program
count_at counts Trace = counts.trace
count_at counts Out = counts.out
count_at counts Err = counts.err

-- the count and one more; a counter at its last value stays there
abbrev pub one_more : ℕ → ℕ
one_more count = if count == 2 ^ 64 - 1 then count else count + 1

-- the counters after one more at a place
abbrev pub counted_up : Counts → Place → Counts
counted_up counts Spec = record counts { spec = one_more counts.spec }
counted_up counts Header = record counts { header = one_more counts.header }
counted_up counts Program = record counts { program = one_more counts.program }
counted_up counts Trace = record counts { trace = one_more counts.trace }
counted_up counts Out = record counts { out = one_more counts.out }
counted_up counts Err = record counts { err = one_more counts.err }
