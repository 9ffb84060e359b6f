use Rattle.std.proofs.Common.{sym, subst, get_or, length}
use Rattle.c2po_ast.specs.Nodes.{Has, formula}
use Rattle.count_sets.specs.Gates.{formula_of_gate, gate_meaning, IsOver}
use Rattle.c2po_types.specs.Values.{counted_formula}
use Rattle.set_expand.proofs.Gates.{truth_has, bodies_have, place_is, earlier_has, both_has, either_has, not_has}
use Rattle.set_expand.proofs.names.Names.gate.Goals as goal

pub returns-in_ok-node-in-Truth-clause-has : goal.returns-in_ok-node-in-Truth-clause-has
returns-in_ok-node-in-Truth-clause-has c = λ ps cs h k.
    subst (λ g. Has c.place.new.nodes c.in_ok-node-in-Truth.node (formula (counted_formula ps (gate_meaning cs g)))) (sym c.in-Truth.is)
    (truth_has c.place.new.nodes c.in_ok-node-in-Truth.node ps c.in-Truth.truth c.in_ok-node-in-Truth.ensures.has)

pub returns-in-Body-clause-is : goal.returns-in-Body-clause-is
returns-in-Body-clause-is c =
    place_is c.args.nodes.now c.args.bodies.now c.in-Body.i c.requires.bodies
    (subst (λ g. IsOver (length c.args.bodies.now) (length c.args.earlier.now) g) c.in-Body.is c.requires.over)

pub returns-in-Body-clause-has : goal.returns-in-Body-clause-has
returns-in-Body-clause-has c = λ ps cs h k.
    subst (λ g. Has c.args.nodes.now (get_or c.args.bodies.now c.in-Body.i 0) (formula (counted_formula ps (gate_meaning cs g)))) (sym c.in-Body.is)
    (bodies_have c.args.nodes.now c.args.bodies.now ps c.in-Body.i h (subst (λ g. IsOver (length c.args.bodies.now) (length c.args.earlier.now) g) c.in-Body.is c.requires.over))

pub returns-in_ok-node-in-Both-clause-has : goal.returns-in_ok-node-in-Both-clause-has
returns-in_ok-node-in-Both-clause-has c = λ ps cs h k.
    let over = subst (λ g. IsOver (length c.args.bodies.now) (length c.args.earlier.now) g) c.in-Both.is c.requires.over in
    subst (λ g. Has c.place-in-Both.new.nodes c.in_ok-node-in-Both.node (formula (counted_formula ps (gate_meaning cs g)))) (sym c.in-Both.is)
    (both_has c.args.nodes.now c.place-in-Both.new.nodes c.in_ok-node-in-Both.node
    (get_or c.args.earlier.now c.in-Both.i 0) (get_or c.args.earlier.now c.in-Both.j 0) ps (formula_of_gate cs c.in-Both.i) (formula_of_gate cs c.in-Both.j)
    c.in_ok-node-in-Both.ensures.has
    (earlier_has c.args.nodes.now c.args.earlier.now ps cs c.in-Both.i k over.0)
    (earlier_has c.args.nodes.now c.args.earlier.now ps cs c.in-Both.j k over.1))

pub returns-in_ok-node-in-Either-clause-has : goal.returns-in_ok-node-in-Either-clause-has
returns-in_ok-node-in-Either-clause-has c = λ ps cs h k.
    let over = subst (λ g. IsOver (length c.args.bodies.now) (length c.args.earlier.now) g) c.in-Either.is c.requires.over in
    subst (λ g. Has c.place-in-Either.new.nodes c.in_ok-node-in-Either.node (formula (counted_formula ps (gate_meaning cs g)))) (sym c.in-Either.is)
    (either_has c.args.nodes.now c.place-in-Either.new.nodes c.in_ok-node-in-Either.node
    (get_or c.args.earlier.now c.in-Either.i 0) (get_or c.args.earlier.now c.in-Either.j 0) ps (formula_of_gate cs c.in-Either.i) (formula_of_gate cs c.in-Either.j)
    c.in_ok-node-in-Either.ensures.has
    (earlier_has c.args.nodes.now c.args.earlier.now ps cs c.in-Either.i k over.0)
    (earlier_has c.args.nodes.now c.args.earlier.now ps cs c.in-Either.j k over.1))

pub returns-in_ok-node-in-Not-clause-has : goal.returns-in_ok-node-in-Not-clause-has
returns-in_ok-node-in-Not-clause-has c = λ ps cs h k.
    let over = subst (λ g. IsOver (length c.args.bodies.now) (length c.args.earlier.now) g) c.in-Not.is c.requires.over in
    subst (λ g. Has c.place-in-Not.new.nodes c.in_ok-node-in-Not.node (formula (counted_formula ps (gate_meaning cs g)))) (sym c.in-Not.is)
    (not_has c.args.nodes.now c.place-in-Not.new.nodes c.in_ok-node-in-Not.node
    (get_or c.args.earlier.now c.in-Not.i 0) ps (formula_of_gate cs c.in-Not.i) c.in_ok-node-in-Not.ensures.has
    (earlier_has c.args.nodes.now c.args.earlier.now ps cs c.in-Not.i k over))
