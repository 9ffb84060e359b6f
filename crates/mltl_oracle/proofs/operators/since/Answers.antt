-- The loop takes one more time.
use Rattle.std.proofs.Common.{Some, ap, ap₂, ◌∙◌}
use Rattle.mltl_base.specs.Kleene.{k_and}
use Rattle.mltl_oracle.proofs.Steps.{below_start, below_next}
use Rattle.mltl_oracle.proofs.operators.since.Goals as goal

pub loop-m-init : goal.loop-m-init
loop-m-init c = below_start _

pub loop-m-preserved : goal.loop-m-preserved
loop-m-preserved c =
    below_next _ _ _ _ _ c.loop-m.invariant
    (c.and-in-loop-m.ensures ∙ ap₂ k_and (ap Some c.within.ensures) (c.and.ensures ∙ ap₂ k_and c.known.ensures c.every_after.ensures)) c.or-some.ensures
