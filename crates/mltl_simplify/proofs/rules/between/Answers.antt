use Rattle.std.proofs.Common.{sym, ◌∙◌}
use Rattle.mltl_simplify.specs.Nodes.{simple_between}
use Rattle.mltl_simplify.proofs.Putting.{between_put, stays}
use Rattle.mltl_simplify.proofs.Heads.{between_gives, between_none, between_stays, none_left}
use Rattle.mltl_simplify.proofs.rules.between.Goals as goal
use Rattle.mltl_simplify.proofs.rules.between.Goals.{in_default-via-in-Some+else-gives, in_default-via-in_default}

pub returns-in-Some : goal.returns-in-Some
returns-in-Some c = λ p q h k.
    stays c.args.nodes.now c.args.b q (simple_between c.args.op c.args.i p q) k (between_gives c.args.op c.args.i c.in-Some.value p q (c.in-Some.ensures q k) (sym c.gives.ensures ∙ c.if-gives.true))

pub returns-in_default : goal.returns-in_default
returns-in_default c = λ p q h k.
    between_put c.push.result c.args.nodes.now c.push.new.self (simple_between c.args.op c.args.i p q) c.push.ensures.place c.args.op c.args.i c.args.a c.args.b p q c.push.ensures.pushed c.requires.bounded h k
    (elim c.in_default.branch [
      | in_default-via-in-Some+else-gives w ↦ between_stays c.args.op c.args.i w.in-Some.value p q (w.in-Some.ensures q k) (sym w.gives.ensures ∙ w.if-gives.false)
      | in_default-via-in_default w ↦ between_none c.args.op c.args.i p q (none_left c.truth_at.result w.in_default.not-Some ∙ c.truth_at.ensures q k)
    ])
