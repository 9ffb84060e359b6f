use Rattle.mltl_base.specs.declared.operators.LogicOp.TheVariants as logic
use Rattle.std.proofs.Common.{◌≡◌, true, Some, None}
use Rattle.mltl_simplify.specs.Simplify.{as_truth, simple_or}
use Rattle.mltl_simplify.proofs.Putting.{logic_put, stays}
use Rattle.mltl_simplify.proofs.Heads.{true_or, or_true, or_stays}
use Rattle.mltl_simplify.proofs.rules.disjunction.Goals as goal

pub returns-in-Some-true-default : goal.returns-in-Some-true-default
returns-in-Some-true-default c = λ p q h k.
    let left : Some true ≡ as_truth p = cc (c.truth_at.ensures p h) in
    stays c.args.nodes.now c.args.a p (simple_or p q) h (true_or p q left)

pub returns-in-None-Some-true : goal.returns-in-None-Some-true
returns-in-None-Some-true c = λ p q h k.
    let left : None ≡ as_truth p = cc (c.truth_at.ensures p h) in
    let right : Some true ≡ as_truth q = cc (c.truth_at-2.ensures q k) in
    stays c.args.nodes.now c.args.b q (simple_or p q) k (or_true p q left right)

pub returns-in-None-None : goal.returns-in-None-None
returns-in-None-None c = λ p q h k.
    let left : None ≡ as_truth p = cc (c.truth_at.ensures p h) in
    let right : None ≡ as_truth q = cc (c.truth_at-2.ensures q k) in
    logic_put c.push.result c.args.nodes.now c.push.new.self (simple_or p q) c.push.ensures.place logic.Or c.args.a c.args.b p q c.push.ensures.pushed h k
    (or_stays p q left right)
