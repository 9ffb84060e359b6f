use Rattle.std.proofs.Common.{◌∙◌, sym}
use Rattle.obs_verify.specs.WellFormed.{size_fault}
use Rattle.obs_verify.proofs.RuleLaws.{first_all, first_here, first_more, unless_eq, unless_ne}
use Rattle.obs_verify.proofs.checks.check_stored.Goals as goal

pub returns-then-size-needed : goal.returns-then-size-needed
returns-then-size-needed c = λ other. sym c.loop-i.invariant ∙ first_here (size_fault c.args.part c.args.needed.now) c.args.stored.now c.loop-i.i 0 _ c.loop-i-test.true (unless_ne _ _ _ c.if-size-needed.true)

pub loop-i-preserved : goal.loop-i-preserved
loop-i-preserved c = sym (first_more (size_fault c.args.part c.args.needed.now) c.args.stored.now c.loop-i.i 0 c.loop-i-test.true (unless_eq _ _ _ c.if-size-needed.false)) ∙ c.loop-i.invariant

pub returns : goal.returns
returns c = sym c.loop-i.invariant ∙ first_all (size_fault c.args.part c.args.needed.now) c.args.stored.now c.loop-i.i c.loop-i-test.false
