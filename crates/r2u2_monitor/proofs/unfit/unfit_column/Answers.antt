use Rattle.std.proofs.Common.{◌≡◌, ◌∙◌, ap, arith, length, sym}
use Rattle.mltl_base.specs.declared.program.Program.{Program}
use Rattle.trace_feed.specs.Rows.{reading_of}
use Rattle.r2u2_monitor.proofs.Fitting.{are_readings, one_each_of, too_few, too_many, unfit_there}
use Rattle.r2u2_monitor.proofs.unfit.unfit_column.Goals as goal

pub returns-then-row-width-clause-unfit : goal.returns-then-row-width-clause-unfit
returns-then-row-width-clause-unfit g c =
    let program : Program = c.args.checked.now in
    let width : c.program.result.now.width ≡ program.width = ap (λ (p : Program). p.width) c.program.ensures.program in
    too_few program c.args.row.now (omega (arith, c.if-row-width.true, width))

pub returns-then-row-width-2-clause-unfit : goal.returns-then-row-width-2-clause-unfit
returns-then-row-width-2-clause-unfit g c =
    let program : Program = c.args.checked.now in
    let width : c.program.result.now.width ≡ program.width = ap (λ (p : Program). p.width) c.program.ensures.program in
    too_many program c.args.row.now c.program.result.now.width width (omega (arith, c.if-row-width-2.true, width))

pub first_unfit-requires-clause-one_each : goal.first_unfit-requires-clause-one_each
first_unfit-requires-clause-one_each g c =
    one_each_of c.args.checked.now c.as_slice.result.now (c.as_slice.ensures ∙ c.requires) ∙ ap (λ (p : Program). p.width) (sym c.program.ensures.program)

pub returns-else-row-width-2-clause-unfit : goal.returns-else-row-width-2-clause-unfit
returns-else-row-width-2-clause-unfit g c =
    let program : Program = c.args.checked.now in
    let width : c.program.result.now.width ≡ program.width = ap (λ (p : Program). p.width) c.program.ensures.program in
    let wide : length c.args.row.now ≡ program.width = omega (arith, c.if-row-width.false, c.if-row-width-2.false, width) in
    unfit_there program c.args.row.now c.first_unfit.result wide
    (c.first_unfit.ensures.first (reading_of program.bz) (are_readings program c.as_slice.result.now (c.as_slice.ensures ∙ c.requires)))
