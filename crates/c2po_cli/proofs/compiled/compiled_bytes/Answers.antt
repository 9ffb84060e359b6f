use Rattle.std.proofs.Common.{ap}
use Rattle.std.proofs.lemmas.Result.{err_from_is_err_and}
use Rattle.std.specs.Option.{option_copied}
use Rattle.c2po_ast.specs.ItemShape.{spec_shape}
use Rattle.c2po_types.specs.Signals.{signals_of}
use Rattle.c2po_cli.proofs.WrittenImages.{image_written}
use Rattle.c2po_cli.proofs.MakingLaws.{alone_columns, alone_limit, header_refuses, limit_refuses, text_written}
use Rattle.c2po_cli.proofs.compiled.compiled_bytes.Goals as goal

pub returns-in_err-columns-clause-refused : goal.returns-in_err-columns-clause-refused
returns-in_err-columns-clause-refused c =
    let p = err_from_is_err_and c.from_residual.result c.from_residual.ensures.1 in
    rw (p.1, p.2) (λ some text none same.
    header_refuses c.args.form text (option_copied c.args.header) (spec_shape c.args.spec.now) c.in_err-columns.field-0.0 none same c.in_err-columns.ensures.fault some)

pub returns-in_err-checked-clause-refused : goal.returns-in_err-checked-clause-refused
returns-in_err-checked-clause-refused c =
    let p = err_from_is_err_and c.from_residual-in_err-checked.result c.from_residual-in_err-checked.ensures.1 in
    rw (p.1, p.2) (λ some text none same.
    limit_refuses c.args.form text (option_copied c.args.header) (spec_shape c.args.spec.now) c.in_ok-columns.columns c.in_err-checked.field-0.0 none same c.in_ok-columns.ensures.columns c.in_err-checked.ensures.refused some)

pub returns-clause-made : goal.returns-clause-made
returns-clause-made c =
    text_written c.args.form (option_copied c.args.header) (spec_shape c.args.spec.now) c.in_ok-columns.columns c.in_ok-checked.checked c.written.result c.in_ok-columns.ensures.columns c.in_ok-checked.ensures.image c.in_ok-checked.ensures.within c.written.ensures.bytes

pub returns-in_err-columns-clause-alone : goal.returns-in_err-columns-clause-alone
returns-in_err-columns-clause-alone c =
    let p = err_from_is_err_and c.from_residual.result c.from_residual.ensures.1 in
    rw (p.1, p.2) (λ none. alone_columns (signals_of (spec_shape c.args.spec.now)) (option_copied c.args.header) c.in_err-columns.field-0.0 (ap option_copied none) c.in_err-columns.ensures.fault)

pub returns-in_err-checked-clause-alone : goal.returns-in_err-checked-clause-alone
returns-in_err-checked-clause-alone c =
    let p = err_from_is_err_and c.from_residual-in_err-checked.result c.from_residual-in_err-checked.ensures.1 in
    rw (p.1, p.2) (λ none. alone_limit _ c.in_err-checked.field-0.0 c.in_err-checked.ensures.refused)

pub returns-clause-image : goal.returns-clause-image
returns-clause-image c =
    image_written c.args.form (option_copied c.args.header) (spec_shape c.args.spec.now) c.in_ok-columns.columns c.in_ok-checked.checked c.written.result c.in_ok-columns.ensures.columns c.in_ok-columns.ensures.serve c.in_ok-checked.ensures.image c.written.ensures.bytes c.written.ensures.fits
