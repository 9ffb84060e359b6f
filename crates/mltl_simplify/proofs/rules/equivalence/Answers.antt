use Rattle.mltl_base.specs.declared.operators.LogicOp.TheVariants as logic
use Rattle.std.proofs.Common.{◌≡◌, None}
use Rattle.mltl_simplify.specs.Simplify.{as_truth, simple_equals}
use Rattle.mltl_simplify.proofs.Putting.{logic_put}
use Rattle.mltl_simplify.proofs.Heads.{equals_stays}
use Rattle.mltl_simplify.proofs.rules.equivalence.Goals as goal

pub returns-in-None-None : goal.returns-in-None-None
returns-in-None-None c = λ p q h k.
    let left : None ≡ as_truth p = cc (c.truth_at.ensures p h) in
    let right : None ≡ as_truth q = cc (c.truth_at-2.ensures q k) in
    logic_put c.push.result c.args.nodes.now c.push.new.self (simple_equals p q) c.push.ensures.place logic.Iff c.args.a c.args.b p q c.push.ensures.pushed h k
    (equals_stays p q left right)
