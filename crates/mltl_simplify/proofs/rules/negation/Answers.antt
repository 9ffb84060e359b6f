use Rattle.std.proofs.Common.{length, take, not, ap, refl, arith}
use Rattle.c2po_ast.specs.declared.nodes.Plain.TheVariants.{Truth, Not}
use Rattle.c2po_ast.specs.Nodes.{formula, node_formula, trees}
use Rattle.mltl_simplify.specs.Simplify.{simple_not}
use Rattle.mltl_simplify.proofs.Reading.{formed_found, formula_operand, found, has_place}
use Rattle.mltl_simplify.proofs.Putting.{not_put, stays, truth_put}
use Rattle.mltl_simplify.proofs.Heads.{not_not, not_other, not_truth}
use Rattle.mltl_simplify.proofs.rules.negation.Goals as goal

pub bounds : goal.bounds
bounds c = omega (arith, has_place c.args.nodes.now c.args.a (formula c.requires.there.the) c.requires.there.has, ap length c.as_slice.ensures)

pub bounds-as_slice-a : goal.bounds-as_slice-a
bounds-as_slice-a c = omega (arith, has_place c.args.nodes.now c.args.a (formula c.requires.there.the) c.requires.there.has, ap length c.as_slice.ensures)

pub returns-in-Truth : goal.returns-in-Truth
returns-in-Truth c = λ p h.
    truth_put c.push.result c.args.nodes.now c.push.new.self (simple_not p) c.push.ensures.place (not c.in-Truth.value) c.push.ensures.pushed
    (not_truth (trees (take c.args.a c.args.nodes.now)) c.in-Truth.value p
    (found c.args.nodes.now c.as_slice.result.now c.args.a (Truth c.in-Truth.value) (formula p) c.as_slice.ensures c.in-Truth.is h))

pub returns-in-Not : goal.returns-in-Not
returns-in-Not c = λ p h.
    let nodes = c.args.nodes.now in
    let z = c.in-Not.z in
    stays nodes z (node_formula (trees (take c.args.a nodes)) z) (simple_not p)
    (formula_operand nodes c.args.a z (formed_found nodes c.as_slice.result.now c.args.a (Not z) c.requires.formed (has_place nodes c.args.a (formula p) h) c.as_slice.ensures c.in-Not.is))
    (not_not (trees (take c.args.a nodes)) z p (found nodes c.as_slice.result.now c.args.a (Not z) (formula p) c.as_slice.ensures c.in-Not.is h))

pub returns-in_default : goal.returns-in_default
returns-in_default c = λ p h.
    not_put c.push-in_default.result c.args.nodes.now c.push-in_default.new.self (simple_not p) c.push-in_default.ensures.place c.args.a p c.push-in_default.ensures.pushed h
    (not_other (trees (take c.args.a c.args.nodes.now)) _ p
    (found c.args.nodes.now c.as_slice.result.now c.args.a _ (formula p) c.as_slice.ensures refl h) c.in_default.not-Truth c.in_default.not-Not)
