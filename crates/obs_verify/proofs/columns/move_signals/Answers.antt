use Rattle.std.proofs.Common.{◌∙◌, ap, refl, length, slice_index}
use Rattle.std.proofs.lemmas.List.{length-set}
use Rattle.obs_verify.specs.Bound.{bound_signals}
use Rattle.obs_verify.proofs.BoundLaws.{bound_more}
use Rattle.obs_verify.proofs.columns.move_signals.Goals as goal

pub loop-k-init : goal.loop-k-init
unfolding bound_signals
loop-k-init c = record { long = refl; done = refl }

pub loop-k-preserved : goal.loop-k-preserved
loop-k-preserved c = record {
  long = ap length c.put.ensures.replaced ∙ length-set c.loop-k.signals c.loop-k.k _ ∙ c.loop-k.invariant.long;
  done = c.put.ensures.replaced
      ∙ bound_more c.args.signals.now c.loop-k.signals c.args.columns.now c.loop-k.k _ c.get-signal.result.now _ c.loop-k-test.true c.requires c.loop-k.invariant.done c.get-signal.ensures refl
      (ap (λ name. record c.get-signal.result.now { name = name; column = slice_index c.args.columns.now c.loop-k.k }) c.copy.ensures);
}
