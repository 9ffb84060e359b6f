use Rattle.std.proofs.Common.{◌≡◌, sym, subst, arith, map, take, length, List, ℕ}
use Rattle.std.proofs.lemmas.List.{length-map, length-take-le}
use Rattle.csv.specs.Records.{fields_of}
use Rattle.trace_columns.specs.Blanks.{trimmed}
use Rattle.trace_columns.specs.Places.{AreColumnPlaces}
use Rattle.trace_columns.proofs.CsvLaws.{take_name}
use Rattle.trace_columns.proofs.names.Places.of.Goals as goal

pub loop-c-preserved : goal.loop-c-preserved
loop-c-preserved c =
    let names : List (List ℕ) = map trimmed (fields_of c.args.fields.now) in
    let at = c.loop-c.c in
    let size : length names ≡ length (fields_of c.args.fields.now) = length-map (fields_of c.args.fields.now) trimmed in
    let short : length (take at names) ≡ at = length-take-le at names (omega arith) in
    subst (λ (ns : List (List ℕ)). AreColumnPlaces ns c.add.new.self) (sym (take_name names at c.name_at.result.now c.name_at.ensures)) (c.in_ok-add.ensures (take at names) short c.loop-c.invariant)
