-- Each arm reads a node of its kind, whose operands were read before.
use Rattle.std.proofs.Common.{rules, length, slice_index, subst, sym}
use Rattle.std.specs.Prelude.{ℤ, FitsSigned, IfOk}
use Rattle.std.specs.Int.{w64}
use Rattle.std.proofs.lemmas.Int.{to_z-of_z}
use Rattle.std.proofs.lemmas.Result.{on_ok_weaker}
use Rattle.c2po_ast.specs.declared.nodes.Plain.{Plain}
use Rattle.c2po_ast.specs.Nodes as plain
use Rattle.core_graph.specs.Trees.{leaf, number}
use Rattle.core_graph.specs.Vertices.{Has}
use Rattle.core_graph.specs.Reading.{Represents}
use Rattle.core_graph.proofs.Forests.{core_here, grows_then}
use Rattle.core_graph.proofs.Outputs.{number_there, formula_there, number_named, formula_named}
use Rattle.core_graph.proofs.NodesRead.{truth_stands, flag_stands, number_stands, signal_stands, minus_stands, arith_stands, compare_stands, not_stands, logic_stands, window_stands, between_stands}
use Rattle.core_graph.proofs.node_vertices.read_node.Goals as goal
use Rattle.core_graph.proofs.node_vertices.read_node.Goals.{After-share-in-Number}

pub bounds-columns-signal : goal.bounds-columns-signal
bounds-columns-signal c =
    (subst (λ (x : Plain). plain.IsFormed (length c.args.columns.now) (plain.trees c.requires.before) x) c.in-Flag.is c.requires.formed)

pub bounds-columns-signal-in-Signal : goal.bounds-columns-signal-in-Signal
bounds-columns-signal-in-Signal c =
    (subst (λ (x : Plain). plain.IsFormed (length c.args.columns.now) (plain.trees c.requires.before) x) c.in-Signal.is c.requires.formed)

pub bounds-ids-a : goal.bounds-ids-a
bounds-ids-a c =
    number_named c.args.columns.now c.args.forest.now c.requires.before c.args.ids.now c.requires.read c.in-Minus.a (subst (λ (x : Plain). plain.IsFormed (length c.args.columns.now) (plain.trees c.requires.before) x) c.in-Minus.is c.requires.formed)

pub bounds-ids-a-in-Arith : goal.bounds-ids-a-in-Arith
bounds-ids-a-in-Arith c =
    number_named c.args.columns.now c.args.forest.now c.requires.before c.args.ids.now c.requires.read c.in-Arith.a (subst (λ (x : Plain). plain.IsFormed (length c.args.columns.now) (plain.trees c.requires.before) x) c.in-Arith.is c.requires.formed).0

pub bounds-ids-b : goal.bounds-ids-b
bounds-ids-b c =
    number_named c.args.columns.now c.args.forest.now c.requires.before c.args.ids.now c.requires.read c.in-Arith.b (subst (λ (x : Plain). plain.IsFormed (length c.args.columns.now) (plain.trees c.requires.before) x) c.in-Arith.is c.requires.formed).1

pub bounds-ids-a-in-Compare : goal.bounds-ids-a-in-Compare
bounds-ids-a-in-Compare c =
    number_named c.args.columns.now c.args.forest.now c.requires.before c.args.ids.now c.requires.read c.in-Compare.a (subst (λ (x : Plain). plain.IsFormed (length c.args.columns.now) (plain.trees c.requires.before) x) c.in-Compare.is c.requires.formed).0

pub bounds-ids-b-in-Compare : goal.bounds-ids-b-in-Compare
bounds-ids-b-in-Compare c =
    number_named c.args.columns.now c.args.forest.now c.requires.before c.args.ids.now c.requires.read c.in-Compare.b (subst (λ (x : Plain). plain.IsFormed (length c.args.columns.now) (plain.trees c.requires.before) x) c.in-Compare.is c.requires.formed).1

pub bounds-ids-a-in-Not : goal.bounds-ids-a-in-Not
bounds-ids-a-in-Not c =
    formula_named c.args.columns.now c.args.forest.now c.requires.before c.args.ids.now c.requires.read c.in-Not.a (subst (λ (x : Plain). plain.IsFormed (length c.args.columns.now) (plain.trees c.requires.before) x) c.in-Not.is c.requires.formed)

pub bounds-ids-a-in-Logic : goal.bounds-ids-a-in-Logic
bounds-ids-a-in-Logic c =
    formula_named c.args.columns.now c.args.forest.now c.requires.before c.args.ids.now c.requires.read c.in-Logic.a (subst (λ (x : Plain). plain.IsFormed (length c.args.columns.now) (plain.trees c.requires.before) x) c.in-Logic.is c.requires.formed).0

pub bounds-ids-b-in-Logic : goal.bounds-ids-b-in-Logic
bounds-ids-b-in-Logic c =
    formula_named c.args.columns.now c.args.forest.now c.requires.before c.args.ids.now c.requires.read c.in-Logic.b (subst (λ (x : Plain). plain.IsFormed (length c.args.columns.now) (plain.trees c.requires.before) x) c.in-Logic.is c.requires.formed).1

pub bounds-ids-a-in-Window : goal.bounds-ids-a-in-Window
bounds-ids-a-in-Window c =
    formula_named c.args.columns.now c.args.forest.now c.requires.before c.args.ids.now c.requires.read c.in-Window.a (subst (λ (x : Plain). plain.IsFormed (length c.args.columns.now) (plain.trees c.requires.before) x) c.in-Window.is c.requires.formed).1

pub bounds-ids-a-in-Between : goal.bounds-ids-a-in-Between
bounds-ids-a-in-Between c =
    formula_named c.args.columns.now c.args.forest.now c.requires.before c.args.ids.now c.requires.read c.in-Between.a (subst (λ (x : Plain). plain.IsFormed (length c.args.columns.now) (plain.trees c.requires.before) x) c.in-Between.is c.requires.formed).1

pub bounds-ids-b-in-Between : goal.bounds-ids-b-in-Between
bounds-ids-b-in-Between c =
    formula_named c.args.columns.now c.args.forest.now c.requires.before c.args.ids.now c.requires.read c.in-Between.b (subst (λ (x : Plain). plain.IsFormed (length c.args.columns.now) (plain.trees c.requires.before) x) c.in-Between.is c.requires.formed).2

pub share-requires-in-Minus-clause-below : goal.share-requires-in-Minus-clause-below
share-requires-in-Minus-clause-below c =
    (number_there c.args.columns.now c.args.forest.now c.requires.before c.args.ids.now c.requires.read c.in-Minus.a (subst (λ (x : Plain). plain.IsFormed (length c.args.columns.now) (plain.trees c.requires.before) x) c.in-Minus.is c.requires.formed)).within

pub share-requires-in-Arith-clause-below : goal.share-requires-in-Arith-clause-below
share-requires-in-Arith-clause-below c =
    ((number_there c.args.columns.now c.args.forest.now c.requires.before c.args.ids.now c.requires.read c.in-Arith.a (subst (λ (x : Plain). plain.IsFormed (length c.args.columns.now) (plain.trees c.requires.before) x) c.in-Arith.is c.requires.formed).0).within, (number_there c.args.columns.now c.args.forest.now c.requires.before c.args.ids.now c.requires.read c.in-Arith.b (subst (λ (x : Plain). plain.IsFormed (length c.args.columns.now) (plain.trees c.requires.before) x) c.in-Arith.is c.requires.formed).1).within)

pub comparison-requires-clause-left : goal.comparison-requires-clause-left
comparison-requires-clause-left c =
    (number_there c.args.columns.now c.args.forest.now c.requires.before c.args.ids.now c.requires.read c.in-Compare.a (subst (λ (x : Plain). plain.IsFormed (length c.args.columns.now) (plain.trees c.requires.before) x) c.in-Compare.is c.requires.formed).0).within

pub comparison-requires-clause-right : goal.comparison-requires-clause-right
comparison-requires-clause-right c =
    (number_there c.args.columns.now c.args.forest.now c.requires.before c.args.ids.now c.requires.read c.in-Compare.b (subst (λ (x : Plain). plain.IsFormed (length c.args.columns.now) (plain.trees c.requires.before) x) c.in-Compare.is c.requires.formed).1).within

pub negation-requires-clause-there : goal.negation-requires-clause-there
negation-requires-clause-there c =
    core_here c.args.forest.now (slice_index c.args.ids.now c.in-Not.a) _ (formula_there c.args.columns.now c.args.forest.now c.requires.before c.args.ids.now c.requires.read c.in-Not.a (subst (λ (x : Plain). plain.IsFormed (length c.args.columns.now) (plain.trees c.requires.before) x) c.in-Not.is c.requires.formed))

pub connective-requires-clause-left : goal.connective-requires-clause-left
connective-requires-clause-left c =
    core_here c.args.forest.now (slice_index c.args.ids.now c.in-Logic.a) _ (formula_there c.args.columns.now c.args.forest.now c.requires.before c.args.ids.now c.requires.read c.in-Logic.a (subst (λ (x : Plain). plain.IsFormed (length c.args.columns.now) (plain.trees c.requires.before) x) c.in-Logic.is c.requires.formed).0)

pub connective-requires-clause-right : goal.connective-requires-clause-right
connective-requires-clause-right c =
    core_here c.args.forest.now (slice_index c.args.ids.now c.in-Logic.b) _ (formula_there c.args.columns.now c.args.forest.now c.requires.before c.args.ids.now c.requires.read c.in-Logic.b (subst (λ (x : Plain). plain.IsFormed (length c.args.columns.now) (plain.trees c.requires.before) x) c.in-Logic.is c.requires.formed).1)

pub window-requires-clause-there : goal.window-requires-clause-there
window-requires-clause-there c =
    core_here c.args.forest.now (slice_index c.args.ids.now c.in-Window.a) _ (formula_there c.args.columns.now c.args.forest.now c.requires.before c.args.ids.now c.requires.read c.in-Window.a (subst (λ (x : Plain). plain.IsFormed (length c.args.columns.now) (plain.trees c.requires.before) x) c.in-Window.is c.requires.formed).1)

pub between-requires-clause-left : goal.between-requires-clause-left
between-requires-clause-left c =
    core_here c.args.forest.now (slice_index c.args.ids.now c.in-Between.a) _ (formula_there c.args.columns.now c.args.forest.now c.requires.before c.args.ids.now c.requires.read c.in-Between.a (subst (λ (x : Plain). plain.IsFormed (length c.args.columns.now) (plain.trees c.requires.before) x) c.in-Between.is c.requires.formed).1)

pub between-requires-clause-right : goal.between-requires-clause-right
between-requires-clause-right c =
    core_here c.args.forest.now (slice_index c.args.ids.now c.in-Between.b) _ (formula_there c.args.columns.now c.args.forest.now c.requires.before c.args.ids.now c.requires.read c.in-Between.b (subst (λ (x : Plain). plain.IsFormed (length c.args.columns.now) (plain.trees c.requires.before) x) c.in-Between.is c.requires.formed).2)

pub returns-in-Truth-clause-stands : goal.returns-in-Truth-clause-stands
returns-in-Truth-clause-stands c = λ before read formed.
    subst (λ (x : Plain). IfOk c.truth.result (λ n. Represents c.args.columns.now c.truth.new.self n (plain.tree_of (plain.trees before) x)))
    (sym c.in-Truth.is)
    (truth_stands c.args.columns.now c.args.forest.now before c.args.ids.now read c.truth.new.self c.truth.result c.in-Truth.value c.truth.ensures.has)

pub returns-in_ok-atom-in-Flag-clause-grows : goal.returns-in_ok-atom-in-Flag-clause-grows
returns-in_ok-atom-in-Flag-clause-grows c =
    on_ok_weaker _ (grows_then c.args.forest.now c.share.new.self c.share-in-Flag.new.self c.in_ok-atom-in-Flag.ensures.grows) c.share-in-Flag.ensures.grows

pub returns-in_ok-atom-in-Flag-clause-stands : goal.returns-in_ok-atom-in-Flag-clause-stands
returns-in_ok-atom-in-Flag-clause-stands c = λ before read formed.
    subst (λ (x : Plain). IfOk c.share-in-Flag.result (λ n. Represents c.args.columns.now c.share-in-Flag.new.self n (plain.tree_of (plain.trees before) x)))
    (sym c.in-Flag.is)
    (flag_stands c.args.columns.now c.args.forest.now before c.args.ids.now read c.share-in-Flag.new.self c.share-in-Flag.result c.in-Flag.signal c.in_ok-atom-in-Flag.atom c.share.new.self c.in_ok-atom-in-Flag.ensures.has c.share-in-Flag.ensures.has)

fits : (c : After-share-in-Number) → FitsSigned w64 c.in-Number.number
fits c = search rules

pub returns-in-Number-clause-stands : goal.returns-in-Number-clause-stands
returns-in-Number-clause-stands c = λ before read formed.
    subst (λ (x : Plain). IfOk c.share-in-Number.result (λ n. Represents c.args.columns.now c.share-in-Number.new.self n (plain.tree_of (plain.trees before) x)))
    (sym c.in-Number.is)
    (number_stands c.args.columns.now c.args.forest.now before c.args.ids.now read c.share-in-Number.new.self c.share-in-Number.result c.in-Number.number
    (subst (λ (m : ℤ). IfOk c.share-in-Number.result (λ n. Has c.share-in-Number.new.self n (leaf (number m)))) (to_z-of_z w64 c.in-Number.number (fits c)) c.share-in-Number.ensures.has))

pub returns-in-Signal-clause-stands : goal.returns-in-Signal-clause-stands
returns-in-Signal-clause-stands c = λ before read formed.
    subst (λ (x : Plain). IfOk c.share-in-Signal.result (λ n. Represents c.args.columns.now c.share-in-Signal.new.self n (plain.tree_of (plain.trees before) x)))
    (sym c.in-Signal.is)
    (signal_stands c.args.columns.now c.args.forest.now before c.args.ids.now read c.share-in-Signal.new.self c.share-in-Signal.result c.in-Signal.signal c.share-in-Signal.ensures.has)

pub returns-in-Minus-clause-stands : goal.returns-in-Minus-clause-stands
returns-in-Minus-clause-stands c = λ before read formed.
    subst (λ (x : Plain). IfOk c.share-in-Minus.result (λ n. Represents c.args.columns.now c.share-in-Minus.new.self n (plain.tree_of (plain.trees before) x)))
    (sym c.in-Minus.is)
    (minus_stands c.args.columns.now c.args.forest.now before c.args.ids.now read c.share-in-Minus.new.self c.share-in-Minus.result c.in-Minus.a (subst (λ (x : Plain). plain.IsFormed (length c.args.columns.now) (plain.trees before) x) c.in-Minus.is formed) c.share-in-Minus.ensures.has)

pub returns-in-Arith-clause-stands : goal.returns-in-Arith-clause-stands
returns-in-Arith-clause-stands c = λ before read formed.
    subst (λ (x : Plain). IfOk c.share-in-Arith.result (λ n. Represents c.args.columns.now c.share-in-Arith.new.self n (plain.tree_of (plain.trees before) x)))
    (sym c.in-Arith.is)
    (arith_stands c.args.columns.now c.args.forest.now before c.args.ids.now read c.share-in-Arith.new.self c.share-in-Arith.result c.in-Arith.op c.in-Arith.a c.in-Arith.b (subst (λ (x : Plain). plain.IsFormed (length c.args.columns.now) (plain.trees before) x) c.in-Arith.is formed).0 (subst (λ (x : Plain). plain.IsFormed (length c.args.columns.now) (plain.trees before) x) c.in-Arith.is formed).1 c.share-in-Arith.ensures.has)

pub returns-in-Compare-clause-stands : goal.returns-in-Compare-clause-stands
returns-in-Compare-clause-stands c = λ before read formed.
    subst (λ (x : Plain). IfOk c.comparison.result (λ n. Represents c.args.columns.now c.comparison.new.self n (plain.tree_of (plain.trees before) x)))
    (sym c.in-Compare.is)
    (compare_stands c.args.columns.now c.args.forest.now before c.args.ids.now read c.comparison.new.self c.comparison.result c.in-Compare.op c.in-Compare.a c.in-Compare.b (subst (λ (x : Plain). plain.IsFormed (length c.args.columns.now) (plain.trees before) x) c.in-Compare.is formed).0 (subst (λ (x : Plain). plain.IsFormed (length c.args.columns.now) (plain.trees before) x) c.in-Compare.is formed).1 c.comparison.ensures.has)

pub returns-in-Not-clause-stands : goal.returns-in-Not-clause-stands
returns-in-Not-clause-stands c = λ before read formed.
    subst (λ (x : Plain). IfOk c.negation.result (λ n. Represents c.args.columns.now c.negation.new.self n (plain.tree_of (plain.trees before) x)))
    (sym c.in-Not.is)
    (not_stands c.args.columns.now c.args.forest.now before c.args.ids.now read c.negation.new.self c.negation.result c.in-Not.a (subst (λ (x : Plain). plain.IsFormed (length c.args.columns.now) (plain.trees before) x) c.in-Not.is formed) c.negation.ensures.has)

pub returns-in-Logic-clause-stands : goal.returns-in-Logic-clause-stands
returns-in-Logic-clause-stands c = λ before read formed.
    subst (λ (x : Plain). IfOk c.connective.result (λ n. Represents c.args.columns.now c.connective.new.self n (plain.tree_of (plain.trees before) x)))
    (sym c.in-Logic.is)
    (logic_stands c.args.columns.now c.args.forest.now before c.args.ids.now read c.connective.new.self c.connective.result c.in-Logic.op c.in-Logic.a c.in-Logic.b (subst (λ (x : Plain). plain.IsFormed (length c.args.columns.now) (plain.trees before) x) c.in-Logic.is formed).0 (subst (λ (x : Plain). plain.IsFormed (length c.args.columns.now) (plain.trees before) x) c.in-Logic.is formed).1 c.connective.ensures.has)

pub returns-in-Window-clause-stands : goal.returns-in-Window-clause-stands
returns-in-Window-clause-stands c = λ before read formed.
    subst (λ (x : Plain). IfOk c.window.result (λ n. Represents c.args.columns.now c.window.new.self n (plain.tree_of (plain.trees before) x)))
    (sym c.in-Window.is)
    (window_stands c.args.columns.now c.args.forest.now before c.args.ids.now read c.window.new.self c.window.result c.in-Window.op c.in-Window.interval c.in-Window.a (subst (λ (x : Plain). plain.IsFormed (length c.args.columns.now) (plain.trees before) x) c.in-Window.is formed).1 c.window.ensures.has)

pub returns-in-Between-clause-stands : goal.returns-in-Between-clause-stands
returns-in-Between-clause-stands c = λ before read formed.
    subst (λ (x : Plain). IfOk c.between.result (λ n. Represents c.args.columns.now c.between.new.self n (plain.tree_of (plain.trees before) x)))
    (sym c.in-Between.is)
    (between_stands c.args.columns.now c.args.forest.now before c.args.ids.now read c.between.new.self c.between.result c.in-Between.op c.in-Between.interval c.in-Between.a c.in-Between.b (subst (λ (x : Plain). plain.IsFormed (length c.args.columns.now) (plain.trees before) x) c.in-Between.is formed).1 (subst (λ (x : Plain). plain.IsFormed (length c.args.columns.now) (plain.trees before) x) c.in-Between.is formed).2 c.between.ensures.has)
