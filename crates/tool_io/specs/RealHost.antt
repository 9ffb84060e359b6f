-- The visible state of a host over the system: its counts of faults, and the places that are attached.
use Rattle.std.specs.Prelude.{◌≡◌, ℕ, Bool, true, false, Option, None, List}
use Rattle.tool_io.specs.declared.host.Place.{Place}
use Rattle.tool_io.specs.declared.host.Place.TheVariants.{Spec, Header, Program, Trace, Out, Err}
use Rattle.tool_io.specs.declared.host.Attached as attached
use Rattle.tool_io.specs.declared.host.Got as got
use Rattle.tool_io.specs.declared.host.Put as put
use Rattle.tool_io.specs.declared.counts.Counts.{Counts}
use Rattle.tool_io.specs.Log.{Event}
use Rattle.tool_io.specs.Counts.{count_at, counted_up, no_counts}

-- the counts of faults, and for each place that is read, true if it is attached
pub record Edge : Type 0 where
  pub faults : Counts
  pub spec : Bool
  pub header : Bool
  pub program : Bool
  pub trace : Bool

-- no faults, and nothing attached
abbrev pub new_edge : Edge
new_edge = record { faults = no_counts; spec = false; header = false; program = false; trace = false }

-- true if the place is attached; Out and Err always are
abbrev pub is_open : Edge → Place → Bool
is_open edge Spec = edge.spec
is_open edge Header = edge.header
is_open edge Program = edge.program
is_open edge Trace = edge.trace
is_open edge Out = true
is_open edge Err = true

-- the host after a place was attached
abbrev pub after_attaching : Edge → Place → Edge
after_attaching edge Spec = record edge { spec = true }
after_attaching edge Header = record edge { header = true }
after_attaching edge Program = record edge { program = true }
after_attaching edge Trace = record edge { trace = true }
after_attaching edge Out = edge
after_attaching edge Err = edge

-- the host after a call of a place failed
abbrev pub faulted : Edge → Place → Edge
faulted edge place = record edge { faults = counted_up edge.faults place }

-- the count of a place's faults
abbrev pub faults_of : Edge → Place → ℕ
faults_of edge place = count_at edge.faults place

-- the host shows no log
abbrev pub no_log : Edge → Option (List Event)
no_log edge = None

-- the host doesn't show the bytes left
abbrev pub none_left : Edge → Place → Option (List ℕ)
none_left edge place = None

-- the host after an attach: its place is attached, or one more fault is counted
abbrev pub after_attach : Edge → Place → attached.Attached → Edge
after_attach edge place attached.TheVariants.Ready = after_attaching edge place
after_attach edge place attached.TheVariants.Failed = faulted edge place

-- the host after a read: one more fault is counted if it failed
abbrev pub after_read : Edge → Place → got.Got → Edge
after_read edge place got.TheVariants.Failed = faulted edge place
after_read edge place got.TheVariants.End = edge
after_read edge place (got.TheVariants.Bytes count) = edge

-- a read of a place that isn't attached fails, and each failed read counts one more fault
pub record Reads (answer : got.Got) (before now : Edge) (place : Place) : Type 0 where
  pub after : now ≡ after_read before place answer
  pub unattached : is_open before place ≡ false → answer ≡ got.TheVariants.Failed

-- the host after a write: one more fault is counted if it failed
abbrev pub after_write : Edge → Place → put.Put → Edge
after_write edge place put.TheVariants.Failed = faulted edge place
after_write edge place (put.TheVariants.Wrote count) = edge
