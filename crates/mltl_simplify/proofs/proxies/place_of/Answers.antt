use Rattle.std.proofs.Common.{take, subst, sym, refl, ◌∙◌, ◌<◌, arith}
use Rattle.c2po_ast.specs.declared.nodes.Plain.TheVariants.{Minus, Arith, Compare, Not, Logic, Window, Between}
use Rattle.c2po_ast.specs.Nodes.{Has, node_formula, number, node_term, trees}
use Rattle.mltl_simplify.specs.Nodes.{IsFormulaAt, IsSimplified}
use Rattle.mltl_simplify.proofs.Reading.{formed_here, formula_below, head, number_below}
use Rattle.c2po_ast.proofs.Places.{node_there}
use Rattle.mltl_simplify.proofs.Numbering.{IsKnown}
use Rattle.mltl_simplify.proofs.Placing.{formula_there, number_there, known_operand, is_there, logic_placed, window_placed, between_placed, not_placed, place_arith, place_compare, place_leaf, place_minus, place_truth}
use Rattle.mltl_simplify.proofs.proxies.place_of.Goals as goal

pub place_at-requires : goal.place_at-requires
place_at-requires c =
    let below : c.in-Minus.a < c.args.i = number_below c.args.nodes.now c.args.i c.in-Minus.a c.requires.next (formed_here c.args.nodes.now c.args.i (Minus c.in-Minus.a) c.requires.formed c.requires.next c.in-Minus.is) in
    omega (arith, c.requires.before.each)

pub place_at-requires-in-Arith : goal.place_at-requires-in-Arith
place_at-requires-in-Arith c =
    let below : c.in-Arith.a < c.args.i = number_below c.args.nodes.now c.args.i c.in-Arith.a c.requires.next (formed_here c.args.nodes.now c.args.i (Arith c.in-Arith.op c.in-Arith.a c.in-Arith.b) c.requires.formed c.requires.next c.in-Arith.is).0 in
    omega (arith, c.requires.before.each)

pub place_at-requires-in-Arith-2 : goal.place_at-requires-in-Arith-2
place_at-requires-in-Arith-2 c =
    let below : c.in-Arith.b < c.args.i = number_below c.args.nodes.now c.args.i c.in-Arith.b c.requires.next (formed_here c.args.nodes.now c.args.i (Arith c.in-Arith.op c.in-Arith.a c.in-Arith.b) c.requires.formed c.requires.next c.in-Arith.is).1 in
    omega (arith, c.requires.before.each)

pub number_at-requires : goal.number_at-requires
number_at-requires c =
    let below : c.in-Compare.a < c.args.i = number_below c.args.nodes.now c.args.i c.in-Compare.a c.requires.next (formed_here c.args.nodes.now c.args.i (Compare c.in-Compare.op c.in-Compare.a c.in-Compare.b) c.requires.formed c.requires.next c.in-Compare.is).0 in
    omega (arith, c.requires.before.each)

pub number_at-requires-in-Compare : goal.number_at-requires-in-Compare
number_at-requires-in-Compare c =
    let below : c.in-Compare.b < c.args.i = number_below c.args.nodes.now c.args.i c.in-Compare.b c.requires.next (formed_here c.args.nodes.now c.args.i (Compare c.in-Compare.op c.in-Compare.a c.in-Compare.b) c.requires.formed c.requires.next c.in-Compare.is).1 in
    omega (arith, c.requires.before.each)

pub place_at-requires-in-None : goal.place_at-requires-in-None
place_at-requires-in-None c =
    let below : c.in-Compare.a < c.args.i = number_below c.args.nodes.now c.args.i c.in-Compare.a c.requires.next (formed_here c.args.nodes.now c.args.i (Compare c.in-Compare.op c.in-Compare.a c.in-Compare.b) c.requires.formed c.requires.next c.in-Compare.is).0 in
    omega (arith, c.requires.before.each)

pub place_at-requires-in-None-2 : goal.place_at-requires-in-None-2
place_at-requires-in-None-2 c =
    let below : c.in-Compare.b < c.args.i = number_below c.args.nodes.now c.args.i c.in-Compare.b c.requires.next (formed_here c.args.nodes.now c.args.i (Compare c.in-Compare.op c.in-Compare.a c.in-Compare.b) c.requires.formed c.requires.next c.in-Compare.is).1 in
    omega (arith, c.requires.before.each)

pub place_at-requires-in-Not : goal.place_at-requires-in-Not
place_at-requires-in-Not c =
    let below : c.in-Not.a < c.args.i = formula_below c.args.nodes.now c.args.i c.in-Not.a c.requires.next (formed_here c.args.nodes.now c.args.i (Not c.in-Not.a) c.requires.formed c.requires.next c.in-Not.is) in
    omega (arith, c.requires.before.each)

pub place_at-requires-in-Logic : goal.place_at-requires-in-Logic
place_at-requires-in-Logic c =
    let below : c.in-Logic.a < c.args.i = formula_below c.args.nodes.now c.args.i c.in-Logic.a c.requires.next (formed_here c.args.nodes.now c.args.i (Logic c.in-Logic.op c.in-Logic.a c.in-Logic.b) c.requires.formed c.requires.next c.in-Logic.is).0 in
    omega (arith, c.requires.before.each)

pub place_at-requires-in-Logic-2 : goal.place_at-requires-in-Logic-2
place_at-requires-in-Logic-2 c =
    let below : c.in-Logic.b < c.args.i = formula_below c.args.nodes.now c.args.i c.in-Logic.b c.requires.next (formed_here c.args.nodes.now c.args.i (Logic c.in-Logic.op c.in-Logic.a c.in-Logic.b) c.requires.formed c.requires.next c.in-Logic.is).1 in
    omega (arith, c.requires.before.each)

pub place_at-requires-in-Window : goal.place_at-requires-in-Window
place_at-requires-in-Window c =
    let below : c.in-Window.a < c.args.i = formula_below c.args.nodes.now c.args.i c.in-Window.a c.requires.next (formed_here c.args.nodes.now c.args.i (Window c.in-Window.op c.in-Window.i c.in-Window.a) c.requires.formed c.requires.next c.in-Window.is).1 in
    omega (arith, c.requires.before.each)

pub place_at-requires-in-Between : goal.place_at-requires-in-Between
place_at-requires-in-Between c =
    let below : c.in-Between.a < c.args.i = formula_below c.args.nodes.now c.args.i c.in-Between.a c.requires.next (formed_here c.args.nodes.now c.args.i (Between c.in-Between.op c.in-Between.i c.in-Between.a c.in-Between.b) c.requires.formed c.requires.next c.in-Between.is).1 in
    omega (arith, c.requires.before.each)

pub place_at-requires-in-Between-2 : goal.place_at-requires-in-Between-2
place_at-requires-in-Between-2 c =
    let below : c.in-Between.b < c.args.i = formula_below c.args.nodes.now c.args.i c.in-Between.b c.requires.next (formed_here c.args.nodes.now c.args.i (Between c.in-Between.op c.in-Between.i c.in-Between.a c.in-Between.b) c.requires.formed c.requires.next c.in-Between.is).2 in
    omega (arith, c.requires.before.each)

pub negation-requires-clause-there : goal.negation-requires-clause-there
negation-requires-clause-there c = subst (λ n. IsFormulaAt c.args.simple.now n) (sym c.place_at-in-Not.ensures) (is_there c.args.nodes.now c.args.simple.now c.args.proxies.now c.args.i c.requires.next c.requires.before c.in-Not.a (formed_here c.args.nodes.now c.args.i (Not c.in-Not.a) c.requires.formed c.requires.next c.in-Not.is))

pub connective-requires-clause-left : goal.connective-requires-clause-left
connective-requires-clause-left c = subst (λ n. IsFormulaAt c.args.simple.now n) (sym c.place_at-in-Logic.ensures) (is_there c.args.nodes.now c.args.simple.now c.args.proxies.now c.args.i c.requires.next c.requires.before c.in-Logic.a (formed_here c.args.nodes.now c.args.i (Logic c.in-Logic.op c.in-Logic.a c.in-Logic.b) c.requires.formed c.requires.next c.in-Logic.is).0)

pub connective-requires-clause-right : goal.connective-requires-clause-right
connective-requires-clause-right c = subst (λ n. IsFormulaAt c.args.simple.now n) (sym c.place_at-in-Logic-2.ensures) (is_there c.args.nodes.now c.args.simple.now c.args.proxies.now c.args.i c.requires.next c.requires.before c.in-Logic.b (formed_here c.args.nodes.now c.args.i (Logic c.in-Logic.op c.in-Logic.a c.in-Logic.b) c.requires.formed c.requires.next c.in-Logic.is).1)

pub window-requires-clause-bounded : goal.window-requires-clause-bounded
window-requires-clause-bounded c = (formed_here c.args.nodes.now c.args.i (Window c.in-Window.op c.in-Window.i c.in-Window.a) c.requires.formed c.requires.next c.in-Window.is).0

pub window-requires-clause-there : goal.window-requires-clause-there
window-requires-clause-there c = subst (λ n. IsFormulaAt c.args.simple.now n) (sym c.place_at-in-Window.ensures) (is_there c.args.nodes.now c.args.simple.now c.args.proxies.now c.args.i c.requires.next c.requires.before c.in-Window.a (formed_here c.args.nodes.now c.args.i (Window c.in-Window.op c.in-Window.i c.in-Window.a) c.requires.formed c.requires.next c.in-Window.is).1)

pub between-requires-clause-bounded : goal.between-requires-clause-bounded
between-requires-clause-bounded c = (formed_here c.args.nodes.now c.args.i (Between c.in-Between.op c.in-Between.i c.in-Between.a c.in-Between.b) c.requires.formed c.requires.next c.in-Between.is).0

pub between-requires-clause-left : goal.between-requires-clause-left
between-requires-clause-left c = subst (λ n. IsFormulaAt c.args.simple.now n) (sym c.place_at-in-Between.ensures) (is_there c.args.nodes.now c.args.simple.now c.args.proxies.now c.args.i c.requires.next c.requires.before c.in-Between.a (formed_here c.args.nodes.now c.args.i (Between c.in-Between.op c.in-Between.i c.in-Between.a c.in-Between.b) c.requires.formed c.requires.next c.in-Between.is).1)

pub between-requires-clause-right : goal.between-requires-clause-right
between-requires-clause-right c = subst (λ n. IsFormulaAt c.args.simple.now n) (sym c.place_at-in-Between-2.ensures) (is_there c.args.nodes.now c.args.simple.now c.args.proxies.now c.args.i c.requires.next c.requires.before c.in-Between.b (formed_here c.args.nodes.now c.args.i (Between c.in-Between.op c.in-Between.i c.in-Between.a c.in-Between.b) c.requires.formed c.requires.next c.in-Between.is).2)

pub returns-in-Not : goal.returns-in-Not
returns-in-Not c = λ tree h.
    let x : IsSimplified c.args.simple.now c.place_at-in-Not.result (node_formula (trees (take c.args.i c.args.nodes.now)) c.in-Not.a) = subst (λ n. IsSimplified c.args.simple.now n (node_formula (trees (take c.args.i c.args.nodes.now)) c.in-Not.a)) (sym c.place_at-in-Not.ensures) (formula_there c.args.nodes.now c.args.simple.now c.args.proxies.now c.args.i c.requires.next c.requires.before c.in-Not.a (formed_here c.args.nodes.now c.args.i (Not c.in-Not.a) c.requires.formed c.requires.next c.in-Not.is)) in
    not_placed c.negation.result c.args.nodes.now c.args.simple.now c.negation.new.nodes tree (node_formula (trees (take c.args.i c.args.nodes.now)) c.in-Not.a) c.place_at-in-Not.result x (head c.args.nodes.now c.args.i (Not c.in-Not.a) tree (node_there c.args.nodes.now c.args.i (Not c.in-Not.a) c.requires.next c.in-Not.is) h)
    (c.negation.ensures x.the x.has)

pub returns-in-Logic : goal.returns-in-Logic
returns-in-Logic c = λ tree h.
    let x : IsSimplified c.args.simple.now c.place_at-in-Logic.result (node_formula (trees (take c.args.i c.args.nodes.now)) c.in-Logic.a) = subst (λ n. IsSimplified c.args.simple.now n (node_formula (trees (take c.args.i c.args.nodes.now)) c.in-Logic.a)) (sym c.place_at-in-Logic.ensures) (formula_there c.args.nodes.now c.args.simple.now c.args.proxies.now c.args.i c.requires.next c.requires.before c.in-Logic.a (formed_here c.args.nodes.now c.args.i (Logic c.in-Logic.op c.in-Logic.a c.in-Logic.b) c.requires.formed c.requires.next c.in-Logic.is).0) in
    let y : IsSimplified c.args.simple.now c.place_at-in-Logic-2.result (node_formula (trees (take c.args.i c.args.nodes.now)) c.in-Logic.b) = subst (λ n. IsSimplified c.args.simple.now n (node_formula (trees (take c.args.i c.args.nodes.now)) c.in-Logic.b)) (sym c.place_at-in-Logic-2.ensures) (formula_there c.args.nodes.now c.args.simple.now c.args.proxies.now c.args.i c.requires.next c.requires.before c.in-Logic.b (formed_here c.args.nodes.now c.args.i (Logic c.in-Logic.op c.in-Logic.a c.in-Logic.b) c.requires.formed c.requires.next c.in-Logic.is).1) in
    logic_placed c.connective.result c.args.nodes.now c.args.simple.now c.connective.new.nodes tree c.in-Logic.op (node_formula (trees (take c.args.i c.args.nodes.now)) c.in-Logic.a) (node_formula (trees (take c.args.i c.args.nodes.now)) c.in-Logic.b) c.place_at-in-Logic.result c.place_at-in-Logic-2.result x y (head c.args.nodes.now c.args.i (Logic c.in-Logic.op c.in-Logic.a c.in-Logic.b) tree (node_there c.args.nodes.now c.args.i (Logic c.in-Logic.op c.in-Logic.a c.in-Logic.b) c.requires.next c.in-Logic.is) h)
    (c.connective.ensures x.the y.the x.has y.has)

pub returns-in-Window : goal.returns-in-Window
returns-in-Window c = λ tree h.
    let x : IsSimplified c.args.simple.now c.place_at-in-Window.result (node_formula (trees (take c.args.i c.args.nodes.now)) c.in-Window.a) = subst (λ n. IsSimplified c.args.simple.now n (node_formula (trees (take c.args.i c.args.nodes.now)) c.in-Window.a)) (sym c.place_at-in-Window.ensures) (formula_there c.args.nodes.now c.args.simple.now c.args.proxies.now c.args.i c.requires.next c.requires.before c.in-Window.a (formed_here c.args.nodes.now c.args.i (Window c.in-Window.op c.in-Window.i c.in-Window.a) c.requires.formed c.requires.next c.in-Window.is).1) in
    window_placed c.window.result c.args.nodes.now c.args.simple.now c.window.new.nodes tree c.in-Window.op c.in-Window.i (node_formula (trees (take c.args.i c.args.nodes.now)) c.in-Window.a) c.place_at-in-Window.result x (head c.args.nodes.now c.args.i (Window c.in-Window.op c.in-Window.i c.in-Window.a) tree (node_there c.args.nodes.now c.args.i (Window c.in-Window.op c.in-Window.i c.in-Window.a) c.requires.next c.in-Window.is) h)
    (c.window.ensures x.the x.has)

pub returns-in-Between : goal.returns-in-Between
returns-in-Between c = λ tree h.
    let x : IsSimplified c.args.simple.now c.place_at-in-Between.result (node_formula (trees (take c.args.i c.args.nodes.now)) c.in-Between.a) = subst (λ n. IsSimplified c.args.simple.now n (node_formula (trees (take c.args.i c.args.nodes.now)) c.in-Between.a)) (sym c.place_at-in-Between.ensures) (formula_there c.args.nodes.now c.args.simple.now c.args.proxies.now c.args.i c.requires.next c.requires.before c.in-Between.a (formed_here c.args.nodes.now c.args.i (Between c.in-Between.op c.in-Between.i c.in-Between.a c.in-Between.b) c.requires.formed c.requires.next c.in-Between.is).1) in
    let y : IsSimplified c.args.simple.now c.place_at-in-Between-2.result (node_formula (trees (take c.args.i c.args.nodes.now)) c.in-Between.b) = subst (λ n. IsSimplified c.args.simple.now n (node_formula (trees (take c.args.i c.args.nodes.now)) c.in-Between.b)) (sym c.place_at-in-Between-2.ensures) (formula_there c.args.nodes.now c.args.simple.now c.args.proxies.now c.args.i c.requires.next c.requires.before c.in-Between.b (formed_here c.args.nodes.now c.args.i (Between c.in-Between.op c.in-Between.i c.in-Between.a c.in-Between.b) c.requires.formed c.requires.next c.in-Between.is).2) in
    between_placed c.between.result c.args.nodes.now c.args.simple.now c.between.new.nodes tree c.in-Between.op c.in-Between.i (node_formula (trees (take c.args.i c.args.nodes.now)) c.in-Between.a) (node_formula (trees (take c.args.i c.args.nodes.now)) c.in-Between.b) c.place_at-in-Between.result c.place_at-in-Between-2.result x y (head c.args.nodes.now c.args.i (Between c.in-Between.op c.in-Between.i c.in-Between.a c.in-Between.b) tree (node_there c.args.nodes.now c.args.i (Between c.in-Between.op c.in-Between.i c.in-Between.a c.in-Between.b) c.requires.next c.in-Between.is) h)
    (c.between.ensures x.the y.the x.has y.has)

pub returns-in-Minus : goal.returns-in-Minus
returns-in-Minus c = λ tree h.
    let x : Has c.args.simple.now c.place_at.result (number (node_term (trees (take c.args.i c.args.nodes.now)) c.in-Minus.a)) = subst (λ n. Has c.args.simple.now n (number (node_term (trees (take c.args.i c.args.nodes.now)) c.in-Minus.a))) (sym c.place_at.ensures) (number_there c.args.nodes.now c.args.simple.now c.args.proxies.now c.args.i c.requires.next c.requires.before c.in-Minus.a (formed_here c.args.nodes.now c.args.i (Minus c.in-Minus.a) c.requires.formed c.requires.next c.in-Minus.is)) in
    place_minus c.push.result c.args.nodes.now c.args.simple.now c.push.new.self c.place_at.result (node_term (trees (take c.args.i c.args.nodes.now)) c.in-Minus.a) tree c.push.ensures.pushed c.push.ensures.place x (head c.args.nodes.now c.args.i (Minus c.in-Minus.a) tree (node_there c.args.nodes.now c.args.i (Minus c.in-Minus.a) c.requires.next c.in-Minus.is) h)

pub returns-in-Arith : goal.returns-in-Arith
returns-in-Arith c = λ tree h.
    let x : Has c.args.simple.now c.place_at-in-Arith.result (number (node_term (trees (take c.args.i c.args.nodes.now)) c.in-Arith.a)) = subst (λ n. Has c.args.simple.now n (number (node_term (trees (take c.args.i c.args.nodes.now)) c.in-Arith.a))) (sym c.place_at-in-Arith.ensures) (number_there c.args.nodes.now c.args.simple.now c.args.proxies.now c.args.i c.requires.next c.requires.before c.in-Arith.a (formed_here c.args.nodes.now c.args.i (Arith c.in-Arith.op c.in-Arith.a c.in-Arith.b) c.requires.formed c.requires.next c.in-Arith.is).0) in
    let y : Has c.args.simple.now c.place_at-in-Arith-2.result (number (node_term (trees (take c.args.i c.args.nodes.now)) c.in-Arith.b)) = subst (λ n. Has c.args.simple.now n (number (node_term (trees (take c.args.i c.args.nodes.now)) c.in-Arith.b))) (sym c.place_at-in-Arith-2.ensures) (number_there c.args.nodes.now c.args.simple.now c.args.proxies.now c.args.i c.requires.next c.requires.before c.in-Arith.b (formed_here c.args.nodes.now c.args.i (Arith c.in-Arith.op c.in-Arith.a c.in-Arith.b) c.requires.formed c.requires.next c.in-Arith.is).1) in
    place_arith c.push-in-Arith.result c.args.nodes.now c.args.simple.now c.push-in-Arith.new.self c.in-Arith.op c.place_at-in-Arith.result c.place_at-in-Arith-2.result (node_term (trees (take c.args.i c.args.nodes.now)) c.in-Arith.a) (node_term (trees (take c.args.i c.args.nodes.now)) c.in-Arith.b) tree
    c.push-in-Arith.ensures.pushed c.push-in-Arith.ensures.place x y (head c.args.nodes.now c.args.i (Arith c.in-Arith.op c.in-Arith.a c.in-Arith.b) tree (node_there c.args.nodes.now c.args.i (Arith c.in-Arith.op c.in-Arith.a c.in-Arith.b) c.requires.next c.in-Arith.is) h)

pub returns-in-Some : goal.returns-in-Some
returns-in-Some c = λ tree h.
    let u : IsKnown c.number_at.result (node_term (trees (take c.args.i c.args.nodes.now)) c.in-Compare.a) = subst (λ n. IsKnown n (node_term (trees (take c.args.i c.args.nodes.now)) c.in-Compare.a)) (sym c.number_at.ensures) (known_operand c.args.nodes.now c.args.proxies.now c.args.i c.in-Compare.a c.requires.before.each c.requires.next c.requires.before.numbered (formed_here c.args.nodes.now c.args.i (Compare c.in-Compare.op c.in-Compare.a c.in-Compare.b) c.requires.formed c.requires.next c.in-Compare.is).0) in
    let w : IsKnown c.number_at-in-Compare.result (node_term (trees (take c.args.i c.args.nodes.now)) c.in-Compare.b) = subst (λ n. IsKnown n (node_term (trees (take c.args.i c.args.nodes.now)) c.in-Compare.b)) (sym c.number_at-in-Compare.ensures) (known_operand c.args.nodes.now c.args.proxies.now c.args.i c.in-Compare.b c.requires.before.each c.requires.next c.requires.before.numbered (formed_here c.args.nodes.now c.args.i (Compare c.in-Compare.op c.in-Compare.a c.in-Compare.b) c.requires.formed c.requires.next c.in-Compare.is).1) in
    place_truth c.push-in-Some.result c.args.nodes.now c.args.simple.now c.push-in-Some.new.self c.in-Compare.op (node_term (trees (take c.args.i c.args.nodes.now)) c.in-Compare.a) (node_term (trees (take c.args.i c.args.nodes.now)) c.in-Compare.b) c.number_at.result c.number_at-in-Compare.result c.in-Some.value tree
    c.push-in-Some.ensures.pushed c.push-in-Some.ensures.place u w (sym c.in-Some.is ∙ c.compared.ensures) (head c.args.nodes.now c.args.i (Compare c.in-Compare.op c.in-Compare.a c.in-Compare.b) tree (node_there c.args.nodes.now c.args.i (Compare c.in-Compare.op c.in-Compare.a c.in-Compare.b) c.requires.next c.in-Compare.is) h)

pub returns-in-None : goal.returns-in-None
returns-in-None c = λ tree h.
    let u : IsKnown c.number_at.result (node_term (trees (take c.args.i c.args.nodes.now)) c.in-Compare.a) = subst (λ n. IsKnown n (node_term (trees (take c.args.i c.args.nodes.now)) c.in-Compare.a)) (sym c.number_at.ensures) (known_operand c.args.nodes.now c.args.proxies.now c.args.i c.in-Compare.a c.requires.before.each c.requires.next c.requires.before.numbered (formed_here c.args.nodes.now c.args.i (Compare c.in-Compare.op c.in-Compare.a c.in-Compare.b) c.requires.formed c.requires.next c.in-Compare.is).0) in
    let w : IsKnown c.number_at-in-Compare.result (node_term (trees (take c.args.i c.args.nodes.now)) c.in-Compare.b) = subst (λ n. IsKnown n (node_term (trees (take c.args.i c.args.nodes.now)) c.in-Compare.b)) (sym c.number_at-in-Compare.ensures) (known_operand c.args.nodes.now c.args.proxies.now c.args.i c.in-Compare.b c.requires.before.each c.requires.next c.requires.before.numbered (formed_here c.args.nodes.now c.args.i (Compare c.in-Compare.op c.in-Compare.a c.in-Compare.b) c.requires.formed c.requires.next c.in-Compare.is).1) in
    let x : Has c.args.simple.now c.place_at-in-None.result (number (node_term (trees (take c.args.i c.args.nodes.now)) c.in-Compare.a)) = subst (λ n. Has c.args.simple.now n (number (node_term (trees (take c.args.i c.args.nodes.now)) c.in-Compare.a))) (sym c.place_at-in-None.ensures) (number_there c.args.nodes.now c.args.simple.now c.args.proxies.now c.args.i c.requires.next c.requires.before c.in-Compare.a (formed_here c.args.nodes.now c.args.i (Compare c.in-Compare.op c.in-Compare.a c.in-Compare.b) c.requires.formed c.requires.next c.in-Compare.is).0) in
    let y : Has c.args.simple.now c.place_at-in-None-2.result (number (node_term (trees (take c.args.i c.args.nodes.now)) c.in-Compare.b)) = subst (λ n. Has c.args.simple.now n (number (node_term (trees (take c.args.i c.args.nodes.now)) c.in-Compare.b))) (sym c.place_at-in-None-2.ensures) (number_there c.args.nodes.now c.args.simple.now c.args.proxies.now c.args.i c.requires.next c.requires.before c.in-Compare.b (formed_here c.args.nodes.now c.args.i (Compare c.in-Compare.op c.in-Compare.a c.in-Compare.b) c.requires.formed c.requires.next c.in-Compare.is).1) in
    place_compare c.push-in-None.result c.args.nodes.now c.args.simple.now c.push-in-None.new.self c.in-Compare.op c.place_at-in-None.result c.place_at-in-None-2.result (node_term (trees (take c.args.i c.args.nodes.now)) c.in-Compare.a) (node_term (trees (take c.args.i c.args.nodes.now)) c.in-Compare.b) c.number_at.result c.number_at-in-Compare.result tree
    c.push-in-None.ensures.pushed c.push-in-None.ensures.place x y u w (sym c.in-None.is ∙ c.compared.ensures) (head c.args.nodes.now c.args.i (Compare c.in-Compare.op c.in-Compare.a c.in-Compare.b) tree (node_there c.args.nodes.now c.args.i (Compare c.in-Compare.op c.in-Compare.a c.in-Compare.b) c.requires.next c.in-Compare.is) h)

pub returns-in_default : goal.returns-in_default
returns-in_default c = λ tree h.
    place_leaf c.push-in_default.result c.args.nodes.now c.args.simple.now c.push-in_default.new.self c.args.i _ tree c.push-in_default.ensures.pushed c.push-in_default.ensures.place
    (node_there c.args.nodes.now c.args.i _ c.requires.next refl) h
    (record {
      no_minus = c.in_default.not-Minus;
      no_arith = c.in_default.not-Arith;
      no_compare = c.in_default.not-Compare;
      no_not = c.in_default.not-Not;
      no_logic = c.in_default.not-Logic;
      no_window = c.in_default.not-Window;
      no_between = c.in_default.not-Between;
    })
