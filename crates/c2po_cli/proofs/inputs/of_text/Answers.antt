use Rattle.std.proofs.Common.{inl, inr, option_map}
use Rattle.std.proofs.lemmas.Result.{err_from_is_err_and}
use Rattle.tool_io.proofs.LogLaws.{OnLog-none, OnLog-map}
use Rattle.c2po_cli.proofs.HeadLaws.{front_refused}
use Rattle.c2po_cli.proofs.inputs.of_text.Goals as goal

pub returns-in_err-spec-clause-log : goal.returns-in_err-spec-clause-log
returns-in_err-spec-clause-log g c =
    let p = err_from_is_err_and c.from_residual.result c.from_residual.ensures.1 in
    OnLog-none _ _ (rw (p.1, p.2) (inl (front_refused c.args.form (option_map (λ name. name.now) c.args.header) c.args.text.now c.in_err-spec.field-0.0 c.in_err-spec.ensures.refused)))

pub returns-clause-log : goal.returns-clause-log
returns-clause-log g c =
    OnLog-map _ _ _ (c.of_spec.ensures.log c.args.text.now c.in_ok-spec.ensures.faultless c.in_ok-spec.ensures.items) (λ events has. inr (c.in_ok-spec.ensures.faultless, has))
