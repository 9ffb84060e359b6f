use Rattle.std.proofs.Common.{◌∙◌, ap, length, List, subst, sym}
use Rattle.mltl_base.specs.declared.program.Program.{Program}
use Rattle.trace_feed.specs.Readings.{AreReadings}
use Rattle.trace_feed.specs.Rows.{line_meaning, reading_of}
use Rattle.trace_feed.specs.declared.fields.Reading.{Reading}
use Rattle.trace_feed.proofs.FitLaws.{row_fits, told_good, told_line}
use Rattle.trace_feed.proofs.ReadingLaws.{are_readings_of, length-readings_of}
use Rattle.trace_feed.proofs.rows.row_fields_by.Goals as goal

pub read_fields-requires-clause-one_each : goal.read_fields-requires-clause-one_each
read_fields-requires-clause-one_each c =
    ap (λ (readings : List Reading). length readings) (c.as_slice.ensures ∙ c.requires.readings) ∙ length-readings_of c.args.checked.now ∙ ap (λ (p : Program). p.width) (sym c.program.ensures.program)

pub returns-clause-told : goal.returns-clause-told
returns-clause-told c =
    let program : Program = c.args.checked.now in
    let known : AreReadings (reading_of program.bz) c.as_slice.result.now = subst (AreReadings (reading_of program.bz)) (sym (c.as_slice.ensures ∙ c.requires.readings)) (are_readings_of program) in
    told_line program c.args.line.now c.program.result.now.width c.read_fields.result c.read_fields.new.fields (sym c.is_blank_line.ensures ∙ c.if-is_blank_line.false)
    (ap (λ (p : Program). p.width) c.program.ensures.program) (c.read_fields.ensures (reading_of program.bz) known)

pub returns-clause-fit : goal.returns-clause-fit
returns-clause-fit c = λ good.
    let program : Program = c.args.checked.now in
    let known : AreReadings (reading_of program.bz) c.as_slice.result.now = subst (AreReadings (reading_of program.bz)) (sym (c.as_slice.ensures ∙ c.requires.readings)) (are_readings_of program) in
    row_fits program c.args.line.now c.read_fields.new.fields (told_good c.read_fields.result c.read_fields.new.fields (line_meaning program c.args.line.now)
    (told_line program c.args.line.now c.program.result.now.width c.read_fields.result c.read_fields.new.fields (sym c.is_blank_line.ensures ∙ c.if-is_blank_line.false)
    (ap (λ (p : Program). p.width) c.program.ensures.program) (c.read_fields.ensures (reading_of program.bz) known)) good)
