use Rattle.std.proofs.Common.{rules, ◌≡◌}
use Rattle.std.proofs.lemmas.Result.{err_from_is_err_and}
use Rattle.std.specs.Option.{option_copied}
use Rattle.c2po_ast.specs.ItemShape.{spec_shape}
use Rattle.tool_words.specs.Statuses.{with_status}
use Rattle.tool_words.proofs.StatusLaws.{told_fault, told_value}
use Rattle.r2u2_cli.specs.ProgramBy.{trace_status}
use Rattle.r2u2_cli.proofs.OpenLaws.{header_refuses, spec_programs, limit_refuses}
use Rattle.r2u2_cli.proofs.program_file.compiled.Goals as goal

pub returns-in_err-columns-clause-refused : goal.returns-in_err-columns-clause-refused
returns-in_err-columns-clause-refused c =
    let p = err_from_is_err_and c.from_residual.result c.from_residual.ensures.1 in
    let why = told_fault trace_status c.columns_of.result c.in_err-columns.field-0.0 _ (search rules) c.columns_of.ensures.fault in
    rw (p.1, p.2, why.2) (λ some kind bytes opens.
    header_refuses kind bytes (option_copied c.args.header) (spec_shape c.args.spec.now) why.0 opens.0 opens.1 opens.2 why.1 some)

pub returns-clause-program : goal.returns-clause-program
returns-clause-program c =
    let named = told_value c.columns_of.result c.map_err.result _ c.in_ok-columns.columns _ c.map_err.ensures.cases c.in_ok-columns.was c.columns_of.ensures.columns in
    let told : c.map_err-2.result ≡ with_status trace_status c.back.result = search rules in
    spec_programs c.back.result c.map_err-2.result (option_copied c.args.header) (spec_shape c.args.spec.now) c.in_ok-columns.columns told named c.back.ensures.image c.back.ensures.within

pub returns-clause-refused : goal.returns-clause-refused
returns-clause-refused c = search (rules, limit_refuses)
