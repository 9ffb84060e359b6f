use Rattle.std.proofs.Common.{refl}
use Rattle.mltl_simplify.specs.Simplify.{has_signal, simp, simple_finally, simple_once, as_truth}
use Rattle.mltl_simplify.proofs.laws.simplified_examples.Goals as goal

pub returns-clause-joined : goal.returns-clause-joined
unfolding simp simple_finally simple_once as_truth has_signal
returns-clause-joined c = refl

pub returns-clause-limit : goal.returns-clause-limit
unfolding simp simple_finally simple_once as_truth has_signal
returns-clause-limit c = λ p e. rw e refl

pub returns-clause-truths : goal.returns-clause-truths
unfolding simp simple_finally simple_once as_truth has_signal
returns-clause-truths c = refl

pub returns-clause-stays : goal.returns-clause-stays
unfolding simp simple_finally simple_once as_truth has_signal
returns-clause-stays c = refl
