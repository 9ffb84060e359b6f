use Rattle.std.proofs.Common.{◌∙◌, sym, ap}
use Rattle.std.proofs.lemmas.Result.{err_from_is_err_and}
use Rattle.obs_verify.proofs.RuleLaws.{first_all, first_here, first_more}
use Rattle.obs_verify.proofs.checks.check_all.Goals as goal

pub returns-in_err-check : goal.returns-in_err-check
returns-in_err-check g c =
    let rule = g.T.Ruled.fault_of c.args.program.now in
    let p = err_from_is_err_and c.from_residual.result c.from_residual.ensures.1 in
    rw (p.1, p.2) (λ other. sym c.loop-i.invariant
    ∙ first_here rule c.args.members.now c.loop-i.i c.index-members-i.result c.in_err-check.field-0.0 c.loop-i-test.true (ap (rule c.loop-i.i) (sym c.index-members-i.is) ∙ c.in_err-check.ensures other))

pub loop-i-preserved : goal.loop-i-preserved
loop-i-preserved g c =
    let rule = g.T.Ruled.fault_of c.args.program.now in
    sym (first_more rule c.args.members.now c.loop-i.i c.index-members-i.result c.loop-i-test.true (ap (rule c.loop-i.i) (sym c.index-members-i.is) ∙ c.in_ok-check.ensures)) ∙ c.loop-i.invariant

pub returns : goal.returns
returns g c = sym c.loop-i.invariant ∙ first_all (g.T.Ruled.fault_of c.args.program.now) c.args.members.now c.loop-i.i c.loop-i-test.false
