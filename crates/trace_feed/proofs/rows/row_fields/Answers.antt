use Rattle.std.proofs.Common.{◌∙◌, ap, List, subst, sym}
use Rattle.mltl_base.specs.declared.operators.BzOp.{BzOp}
use Rattle.mltl_base.specs.declared.program.Program.{Program}
use Rattle.trace_feed.specs.Readings.{fields_meaning}
use Rattle.trace_feed.specs.Rows.{IsMeaningOf, fields_of, line_meaning, reading_of}
use Rattle.trace_feed.proofs.FitLaws.{row_fits, told_good, told_line}
use Rattle.trace_feed.proofs.rows.row_fields.Goals as goal

pub returns-clause-told : goal.returns-clause-told
returns-clause-told c =
    let program : Program = c.args.checked.now in
    let width = c.program-program.result.now.width in
    told_line program c.args.line.now width c.search_fields.result c.search_fields.new.fields (sym c.is_blank_line.ensures ∙ c.if-is_blank_line.false)
    (ap (λ (p : Program). p.width) c.program-program.ensures.program)
    (subst (λ (ops : List BzOp). IsMeaningOf c.search_fields.result c.search_fields.new.fields (fields_meaning (reading_of ops) 0 width (fields_of c.args.line.now)))
    (c.as_slice.ensures ∙ ap (λ (p : Program). p.bz) c.program-program.ensures.program) c.search_fields.ensures)

pub returns-clause-fit : goal.returns-clause-fit
returns-clause-fit c = λ good.
    let program : Program = c.args.checked.now in
    let width = c.program-program.result.now.width in
    row_fits program c.args.line.now c.search_fields.new.fields (told_good c.search_fields.result c.search_fields.new.fields (line_meaning program c.args.line.now)
    (told_line program c.args.line.now width c.search_fields.result c.search_fields.new.fields (sym c.is_blank_line.ensures ∙ c.if-is_blank_line.false)
    (ap (λ (p : Program). p.width) c.program-program.ensures.program)
    (subst (λ (ops : List BzOp). IsMeaningOf c.search_fields.result c.search_fields.new.fields (fields_meaning (reading_of ops) 0 width (fields_of c.args.line.now)))
    (c.as_slice.ensures ∙ ap (λ (p : Program). p.bz) c.program-program.ensures.program) c.search_fields.ensures)) good)
