use Rattle.std.proofs.lemmas.Result.{err_from_is_err_and}
use Rattle.std.specs.Option.{option_copied}
use Rattle.c2po_ast.specs.ItemShape.{spec_shape}
use Rattle.c2po_compile.proofs.CompiledLaws.{text_refused, header_answer, back_answers, back_refuses}
use Rattle.c2po_compile.proofs.compiler.compile.Goals as goal

pub returns-in_err-spec-clause-refused : goal.returns-in_err-spec-clause-refused
returns-in_err-spec-clause-refused c =
    let p = err_from_is_err_and c.from_residual.result c.from_residual.ensures.1 in
    rw (p.1, p.2) (text_refused c.args.text.now (option_copied c.args.header_line) c.in_err-spec.field-0.0 c.in_err-spec.ensures.refused)

pub returns-in_err-columns-clause-refused : goal.returns-in_err-columns-clause-refused
returns-in_err-columns-clause-refused c =
    let p = err_from_is_err_and c.from_residual-in_err-columns.result c.from_residual-in_err-columns.ensures.1 in
    rw (p.1, p.2) (λ some. header_answer c.args.text.now (option_copied c.args.header_line) (spec_shape c.in_ok-spec.spec) c.in_err-columns.field-0.0
    c.in_ok-spec.ensures.faultless c.in_ok-spec.ensures.items (c.in_err-columns.ensures.fault some))

pub returns-clause-program : goal.returns-clause-program
returns-clause-program c =
    back_answers c.args.text.now (option_copied c.args.header_line) (spec_shape c.in_ok-spec.spec) c.in_ok-columns.columns c.back.result
    c.in_ok-spec.ensures.faultless c.in_ok-spec.ensures.items c.in_ok-columns.ensures.columns c.back.ensures.image c.back.ensures.within

pub returns-clause-refused : goal.returns-clause-refused
returns-clause-refused c =
    back_refuses c.args.text.now (option_copied c.args.header_line) (spec_shape c.in_ok-spec.spec) c.in_ok-columns.columns c.back.result
    c.in_ok-spec.ensures.faultless c.in_ok-spec.ensures.items c.in_ok-columns.ensures.columns c.back.ensures.refused
