-- The loop takes one more time.
use Rattle.std.proofs.Common.{not, Some, ap, ap₂, ◌∙◌}
use Rattle.mltl_base.specs.Kleene.{k_or}
use Rattle.mltl_oracle.proofs.Steps.{all_start, all_next}
use Rattle.mltl_oracle.proofs.operators.historically.Goals as goal

pub loop-m-init : goal.loop-m-init
loop-m-init c = all_start _

pub loop-m-preserved : goal.loop-m-preserved
loop-m-preserved c =
    all_next _ _ _ _ _ c.loop-m.invariant (c.or.ensures ∙ ap₂ k_or (ap Some (ap not c.within.ensures)) c.known.ensures) c.and-every.ensures
