use Rattle.mltl_base.specs.declared.operators.LogicOp.TheVariants as logic
use Rattle.std.proofs.Common.{◌≡◌, false, Some, None}
use Rattle.mltl_simplify.specs.Simplify.{as_truth, simple_and}
use Rattle.mltl_simplify.proofs.Putting.{logic_put, stays}
use Rattle.mltl_simplify.proofs.Heads.{false_and, and_false, and_stays}
use Rattle.mltl_simplify.proofs.rules.conjunction.Goals as goal

pub returns-in-Some-false-default : goal.returns-in-Some-false-default
returns-in-Some-false-default c = λ p q h k.
    let left : Some false ≡ as_truth p = cc (c.truth_at.ensures p h) in
    stays c.args.nodes.now c.args.a p (simple_and p q) h (false_and p q left)

pub returns-in-None-Some-false : goal.returns-in-None-Some-false
returns-in-None-Some-false c = λ p q h k.
    let left : None ≡ as_truth p = cc (c.truth_at.ensures p h) in
    let right : Some false ≡ as_truth q = cc (c.truth_at-2.ensures q k) in
    stays c.args.nodes.now c.args.b q (simple_and p q) k (and_false p q left right)

pub returns-in-None-None : goal.returns-in-None-None
returns-in-None-None c = λ p q h k.
    let left : None ≡ as_truth p = cc (c.truth_at.ensures p h) in
    let right : None ≡ as_truth q = cc (c.truth_at-2.ensures q k) in
    logic_put c.push.result c.args.nodes.now c.push.new.self (simple_and p q) c.push.ensures.place logic.And c.args.a c.args.b p q c.push.ensures.pushed h k
    (and_stays p q left right)
