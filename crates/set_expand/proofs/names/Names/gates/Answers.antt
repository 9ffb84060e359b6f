use Rattle.std.proofs.Common.{◌≡◌, ◌+◌, ◌-◌, ◌≤◌, min, Some, sym, subst, ap, ◌∙◌, length, arith}
use Rattle.std.specs.Prelude.{IfOk}
use Rattle.std.proofs.lemmas.Option.{slice_get_within}
use Rattle.count_sets.specs.Counting.{counting}
use Rattle.count_sets.specs.Gates.{gate_formulas, last_formula}
use Rattle.count_sets.proofs.Unfolding.{length-formulas}
use Rattle.c2po_ast.specs.Nodes.{Has, formula}
use Rattle.c2po_types.specs.Values.{counted_formula}
use Rattle.set_expand.proofs.Gates.{counting_min}
use Rattle.set_expand.proofs.names.Names.gates.Goals as goal

pub splice-requires-clause-some : goal.splice-requires-clause-some
splice-requires-clause-some c =
    let gates = c.in_ok-gates.gates in
    subst (λ gs. 1 ≤ length gs) (sym c.as_slice.ensures)
    (omega (
      arith,
      slice_get_within (gate_formulas gates) (length gates - 1) (counting c.args.op (length c.args.bodies.now) c.min-number.result) c.in_ok-gates.ensures.unfolds,
      length-formulas gates,
    ))

pub returns-clause-has : goal.returns-clause-has
returns-clause-has c = λ ps h.
    let n = length c.args.bodies.now in
    let least_number = c.min-number.ensures ∙ ap (λ k. min c.args.number (k + 1)) c.from.ensures in
    let same : counting c.args.op n c.min-number.result ≡ counting c.args.op (length ps) c.args.number =
    ap (counting c.args.op n) least_number ∙ (counting_min c.args.op n c.args.number ∙ ap (λ k. counting c.args.op k c.args.number) h.count) in
    subst (λ q. IfOk c.splice.result (λ node. Has c.splice.new.nodes node (formula (counted_formula ps q)))) same
    (c.splice.ensures.has ps (counting c.args.op n c.min-number.result) h
    (subst (λ gs. last_formula gs ≡ Some (counting c.args.op n c.min-number.result)) (sym c.as_slice.ensures) c.in_ok-gates.ensures.unfolds))
