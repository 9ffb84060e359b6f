use Rattle.std.proofs.lemmas.Result.{err_from_is_err_and}
use Rattle.r2u2_cli.proofs.OpenLaws.{spec_refused, spec_unrefused}
use Rattle.r2u2_cli.proofs.program_file.open_spec.Goals as goal

pub returns-in_err-spec-clause-refused : goal.returns-in_err-spec-clause-refused
returns-in_err-spec-clause-refused c =
    let p = err_from_is_err_and c.from_residual.result c.from_residual.ensures.1 in
    rw (p.1, p.2) (spec_refused c.args.text.now c.in_err-spec.field-0.0 c.in_err-spec.ensures.refused)

pub returns-clause-unrefused : goal.returns-clause-unrefused
returns-clause-unrefused c = spec_unrefused c.args.text.now c.in_ok-spec.ensures.faultless
