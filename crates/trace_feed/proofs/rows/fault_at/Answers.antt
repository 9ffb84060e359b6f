use Rattle.std.proofs.Common.{◌∙◌, Err, ap, arith}
use Rattle.std.proofs.lemmas.List.Splits.{length-slice_split}
use Rattle.trace_feed.specs.Rows.{fields_of, is_comma}
use Rattle.trace_feed.proofs.RowLaws.{fault_few, fault_not_whole, fault_out_of_range}
use Rattle.trace_feed.proofs.rows.fault_at.Goals as goal

pub returns-then-commas-left : goal.returns-then-commas-left
returns-then-commas-left c = λ reading values bad.
    let parts = length-slice_split is_comma c.args.rest.now in
    fault_few reading c.args.c c.args.left (fields_of c.args.rest.now) (omega (arith, parts))

pub returns-in-NotWhole : goal.returns-in-NotWhole
returns-in-NotWhole c = λ reading values bad.
    let parts = length-slice_split is_comma c.args.rest.now in
    fault_not_whole reading c.args.c c.args.left c.args.rest.now c.requires.some (omega (arith, parts)) (bad ∙ ap Err c.in-NotWhole.is)

pub returns-in-OutOfRange : goal.returns-in-OutOfRange
returns-in-OutOfRange c = λ reading values bad.
    let parts = length-slice_split is_comma c.args.rest.now in
    fault_out_of_range reading c.args.c c.args.left c.args.rest.now c.requires.some (omega (arith, parts)) (bad ∙ ap Err c.in-OutOfRange.is)
