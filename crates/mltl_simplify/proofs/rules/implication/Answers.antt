use Rattle.mltl_base.specs.declared.operators.LogicOp.TheVariants as logic
use Rattle.std.proofs.Common.{◌≡◌, true, false, Some, None}
use Rattle.mltl_simplify.specs.Simplify.{as_truth, simple_implies}
use Rattle.mltl_simplify.proofs.Putting.{logic_put, stays, truth_put}
use Rattle.mltl_simplify.proofs.Heads.{false_implies, implies_true, implies_stays}
use Rattle.mltl_simplify.proofs.rules.implication.Goals as goal

pub returns-in-Some-false-default : goal.returns-in-Some-false-default
returns-in-Some-false-default c = λ p q h k.
    let left : Some false ≡ as_truth p = cc (c.truth_at.ensures p h) in
    truth_put c.push.result c.args.nodes.now c.push.new.self (simple_implies p q) c.push.ensures.place true c.push.ensures.pushed (false_implies p q left)

pub returns-in-None-Some-true : goal.returns-in-None-Some-true
returns-in-None-Some-true c = λ p q h k.
    let left : None ≡ as_truth p = cc (c.truth_at.ensures p h) in
    let right : Some true ≡ as_truth q = cc (c.truth_at-2.ensures q k) in
    stays c.args.nodes.now c.args.b q (simple_implies p q) k (implies_true p q left right)

pub returns-in-None-None : goal.returns-in-None-None
returns-in-None-None c = λ p q h k.
    let left : None ≡ as_truth p = cc (c.truth_at.ensures p h) in
    let right : None ≡ as_truth q = cc (c.truth_at-2.ensures q k) in
    logic_put c.push-in-None-None.result c.args.nodes.now c.push-in-None-None.new.self (simple_implies p q) c.push-in-None-None.ensures.place logic.Implies c.args.a c.args.b p q c.push-in-None-None.ensures.pushed h k
    (implies_stays p q left right)
