use Rattle.std.proofs.Common.{◌≡◌, ◌∙◌, None, ap, subst}
use Rattle.std.proofs.lemmas.Result.{err_from_is_err_and}
use Rattle.c2po_ast.specs.ItemShape.{spec_shape}
use Rattle.c2po_types.specs.Signals.{signals_of}
use Rattle.c2po_ast.specs.Outputs.{asked}
use Rattle.c2po_compile.specs.Refusals.{IsFirstRefusal, build_refusal}
use Rattle.c2po_compile.specs.Limits.{limit_refusal}
use Rattle.c2po_compile.specs.Image.{image, over_columns}
use Rattle.c2po_compile.proofs.LimitLaws.{none_exceeded, first_exceeded}
use Rattle.c2po_compile.proofs.program.back_of.Goals as goal

pub returns-in_err-checked-clause-refused : goal.returns-in_err-checked-clause-refused
returns-in_err-checked-clause-refused c =
    let p = err_from_is_err_and c.from_residual.result c.from_residual.ensures.1 in
    rw (p.1, p.2) (subst (λ outs. IsFirstRefusal (limit_refusal (over_columns c.args.columns.now outs)) (build_refusal c.in_err-checked.field-0.0)) c.requires.outputs
    (first_exceeded (over_columns c.args.columns.now (asked c.args.expanded.now)) c.in_err-checked.field-0.0 c.in_err-checked.ensures.refused))

pub returns-clause-image : goal.returns-clause-image
returns-clause-image c =
    c.in_ok-checked.ensures.image
    ∙ ap (λ outs. image c.args.columns.now (signals_of (spec_shape c.args.spec.now)) outs) c.requires.outputs

pub returns-clause-within : goal.returns-clause-within
returns-clause-within c = subst (λ outs. limit_refusal (over_columns c.args.columns.now outs) ≡ None) c.requires.outputs
    (none_exceeded (over_columns c.args.columns.now (asked c.args.expanded.now)) c.in_ok-checked.ensures.within)
