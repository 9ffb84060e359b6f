-- Each operator is rewritten by its equation.
use Rattle.std.proofs.Common.{subst, sym}
use Rattle.std.specs.Prelude.{IfOk}
use Rattle.mltl_base.specs.declared.operators.LogicOp.{LogicOp}
use Rattle.mltl_base.specs.Formula.{core}
use Rattle.c2po_ast.specs.Nodes.{connected}
use Rattle.core_graph.specs.Vertices.{Has}
use Rattle.core_graph.specs.Images.{of_core}
use Rattle.core_graph.proofs.forest.Forest.connective.Goals as goal

pub returns-in-And-clause-has : goal.returns-in-And-clause-has
unfolding core
returns-in-And-clause-has c = λ p q h g.
    subst (λ (op : LogicOp). IfOk c.conjunction.result (λ n. Has c.conjunction.new.self n (of_core (core (connected op p q))))) (sym c.in-And.is)
    (c.conjunction.ensures.has (core p) (core q) h g)

pub returns-in-Or-clause-has : goal.returns-in-Or-clause-has
unfolding core
returns-in-Or-clause-has c = λ p q h g.
    subst (λ (op : LogicOp). IfOk c.disjunction.result (λ n. Has c.disjunction.new.self n (of_core (core (connected op p q))))) (sym c.in-Or.is)
    (c.disjunction.ensures.has (core p) (core q) h g)

pub returns-in-Implies-clause-has : goal.returns-in-Implies-clause-has
unfolding core
returns-in-Implies-clause-has c = λ p q h g.
    subst (λ (op : LogicOp). IfOk c.implication.result (λ n. Has c.implication.new.self n (of_core (core (connected op p q))))) (sym c.in-Implies.is)
    (c.implication.ensures.has (core p) (core q) h g)

pub returns-in-Iff-clause-has : goal.returns-in-Iff-clause-has
unfolding core
returns-in-Iff-clause-has c = λ p q h g.
    subst (λ (op : LogicOp). IfOk c.equivalence.result (λ n. Has c.equivalence.new.self n (of_core (core (connected op p q))))) (sym c.in-Iff.is)
    (c.equivalence.ensures.has (core p) (core q) h g)
