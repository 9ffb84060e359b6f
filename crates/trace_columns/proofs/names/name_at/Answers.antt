use Rattle.std.proofs.Common.{◌∙◌, ap, sym, Some, List, ℕ}
use Rattle.csv.specs.Records.{fields_of}
use Rattle.trace_columns.proofs.CsvLaws.{get_trimmed, no_field}
use Rattle.trace_columns.proofs.names.name_at.Goals as goal

pub unreachable-requires : goal.unreachable-requires
unreachable-requires c = no_field (fields_of c.args.fields.now) c.args.c c.requires c.in-None.ensures.value

pub returns : goal.returns
returns c = get_trimmed (fields_of c.args.fields.now) c.args.c c.in-Some.field.now c.in-Some.ensures.value ∙ ap (λ (x : List ℕ). Some x) (sym c.trimmed.ensures)
