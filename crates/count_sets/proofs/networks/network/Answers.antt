-- The last gate counts, since its formula does.
use Rattle.std.proofs.Common.{◌≡◌, ℕ, Bool, List, length, Result, Ok, Err, IfOk, Some, ◌∙◌, ap}
use Rattle.mltl_base.specs.declared.operators.CountOp.{CountOp}
use Rattle.count_sets.specs.declared.gate.Gate.{Gate}
use Rattle.count_sets.specs.Counting.{counting, compares, true_count}
use Rattle.count_sets.specs.Gates.{last_formula, last_truth}
use Rattle.count_sets.proofs.Unfolding.{last_truth_from_formula}
use Rattle.count_sets.proofs.Thresholds.{counting_counts}
use Rattle.count_sets.proofs.networks.network.Goals as goal

counted : {E : Type 0} (r : Result (List Gate) E) (op : CountOp) (n m : ℕ) → IfOk r (λ gates. last_formula gates ≡ Some (counting op n m))
    → IfOk r (λ gates. (bodies : List Bool) → length bodies ≡ n → last_truth bodies gates ≡ Some (compares op m (true_count bodies)))
counted (Ok gates) op n m h = λ bodies e.
    last_truth_from_formula bodies gates (counting op n m) h ∙ ap (λ v. Some v) (counting_counts op n m bodies e)
counted (Err e) op n m h = h

pub returns-in-Exactly-clause-counts : goal.returns-in-Exactly-clause-counts
returns-in-Exactly-clause-counts c =
    counted c.exactly.result c.args.op c.args.n c.args.m (rw c.in-Exactly.is c.exactly.ensures.formula)

pub returns-in-AtLeast-clause-counts : goal.returns-in-AtLeast-clause-counts
returns-in-AtLeast-clause-counts c =
    counted c.at_least.result c.args.op c.args.n c.args.m (rw c.in-AtLeast.is c.at_least.ensures.formula)

pub returns-in-AtMost-clause-counts : goal.returns-in-AtMost-clause-counts
returns-in-AtMost-clause-counts c =
    counted c.at_most.result c.args.op c.args.n c.args.m (rw c.in-AtMost.is c.at_most.ensures.formula)
