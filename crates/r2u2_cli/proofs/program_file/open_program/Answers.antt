use Rattle.std.proofs.lemmas.Result.{err_from_is_err_and}
use Rattle.r2u2_cli.proofs.OpenLaws.{program_refused, program_unrefused}
use Rattle.r2u2_cli.proofs.program_file.open_program.Goals as goal

pub returns-in_err-checked-clause-refused : goal.returns-in_err-checked-clause-refused
returns-in_err-checked-clause-refused c =
    let p = err_from_is_err_and c.from_residual.result c.from_residual.ensures.1 in
    rw (p.1, p.2) (program_refused c.args.bytes.now c.in_err-checked.field-0.0 c.in_err-checked.ensures.answer)

pub returns-clause-unrefused : goal.returns-clause-unrefused
returns-clause-unrefused c = program_unrefused c.args.bytes.now c.in_ok-checked.checked c.in_ok-checked.ensures.answer
