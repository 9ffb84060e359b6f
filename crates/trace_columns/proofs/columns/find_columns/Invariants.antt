use Rattle.std.proofs.Common.{◌≡◌, ◌≤◌, ℕ, List, drop, length, map}
use Rattle.std.specs.Vec.{vec_capacity, vec_len}
use Rattle.mltl_base.specs.Room.{room}
use Rattle.trace_columns.specs.Header.{columns_of}
use Rattle.trace_columns.specs.Places.{AreColumnPlaces}
use Rattle.trace_columns.proofs.ColumnLaws.{onto}
use Rattle.trace_columns.proofs.columns.find_columns.Given as goal

-- the columns so far and those of the signals that are left are the columns of all
abbrev pub invariant-loop-signal : goal.invariant-loop-signal
invariant-loop-signal g l = record {
  found : (names : List (List ℕ)) → AreColumnPlaces names l.named.places
      → onto l.of_signal.items (columns_of names (map g.T.Named.name_of (drop l.signal-index l.signals))) ≡ columns_of names (map g.T.Named.name_of l.signals);
  len : vec_len l.of_signal ≡ l.signal-index;
  room : vec_capacity l.of_signal ≡ room (length l.signals);
  enough : length l.signals ≤ vec_capacity l.of_signal;
}
