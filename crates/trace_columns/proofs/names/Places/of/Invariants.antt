use Rattle.std.proofs.Common.{map, take}
use Rattle.csv.specs.Records.{fields_of}
use Rattle.trace_columns.specs.Blanks.{trimmed}
use Rattle.trace_columns.specs.Places.{AreColumnPlaces}
use Rattle.trace_columns.proofs.names.Places.of.Given as goal

-- the places of the names so far
abbrev pub invariant-loop-c : goal.invariant-loop-c
invariant-loop-c l = AreColumnPlaces (take l.c (map trimmed (fields_of l.fields))) l.places
