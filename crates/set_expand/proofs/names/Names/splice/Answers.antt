use Rattle.std.proofs.Common.{◌+◌, ◌-◌, false, List, ℕ, map, sym, subst, get_or, length, ◌∙◌, arith}
use Rattle.std.proofs.lemmas.List.{get_or_default}
use Rattle.std.proofs.lemmas.Option.{slice_get-get_or}
use Rattle.count_sets.specs.declared.gate.Gate.TheVariants.{Truth}
use Rattle.c2po_ast.specs.Nodes.{Has, formula}
use Rattle.c2po_types.specs.Values.{counted_formula}
use Rattle.set_expand.specs.Nodes.{HaveFormulas}
use Rattle.set_expand.proofs.Gates.{SplicedSoFar, spliced_start, spliced_more, spliced_last}
use Rattle.set_expand.proofs.names.Names.splice.Goals as goal

pub loop-gate-init : goal.loop-gate-init
loop-gate-init c =
    subst (λ (done : List ℕ). SplicedSoFar c.args.self.now c.args.nodes.now c.args.nodes.now c.args.gates.now c.args.bodies.now done 0) (sym c.new-places.ensures.items)
    (spliced_start c.args.self.now c.args.nodes.now c.args.gates.now c.args.bodies.now c.requires.formulas)

pub loop-gate-preserved : goal.loop-gate-preserved
loop-gate-preserved c =
    let i = c.loop-gate.gate-index in
    let gate = get_or c.args.gates.now i (Truth false) in
    let done = c.loop-gate.places.items in
    subst (λ (next : List ℕ). SplicedSoFar c.args.self.now c.args.nodes.now c.gate.new.nodes c.args.gates.now c.args.bodies.now next (i + 1)) (sym c.in_ok-push.ensures.items)
    (spliced_more c.args.self.now c.args.nodes.now c.loop-gate.nodes c.gate.new.nodes c.args.gates.now c.args.bodies.now done i c.in_ok-place.place gate
    c.loop-gate.invariant (slice_get-get_or c.args.gates.now i (Truth false) c.loop-gate-test.true) c.in_ok-place.ensures.more c.in_ok-place.ensures.is
    (λ ps cs h k. c.in_ok-place.ensures.has ps cs h
    (subst (λ xs. HaveFormulas c.loop-gate.nodes xs (map (counted_formula ps) cs)) (sym c.deref.ensures.value) k)))

pub returns-clause-has : goal.returns-clause-has
returns-clause-has c = λ ps k h e.
    let done = c.loop-gate.places.items in
    let last = length c.args.gates.now - 1 in
    subst (λ n. Has c.loop-gate.nodes n (formula (counted_formula ps k)))
    (sym (c.index.ensures ∙ get_or_default done last c.index.result.now 0 (omega (arith, c.loop-gate.invariant.count))))
    (spliced_last c.args.self.now c.args.nodes.now c.loop-gate.nodes c.args.gates.now c.args.bodies.now done c.loop-gate.gate-index ps k c.loop-gate.invariant
    (omega arith) h e c.requires.some)
