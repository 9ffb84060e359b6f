-- The beginning and the end of a visit.
use Rattle.std.proofs.Common.{◌≡◌, ◌<◌, ◌-◌, ◌∷◌, [], ℕ, List, Bool, Some, None, length, slice_get, refl, sym, ap, ◌∙◌, arith}
use Rattle.std.proofs.lemmas.Option.{slice_get_read}
use Rattle.core_graph.specs.Walks.{trees_of}
use Rattle.core_graph.proofs.Walking.{start_stack, start_goal, end_goal, done_already, no_last}
use Rattle.core_graph.proofs.walk.Walk.visit.Goals as goal

pub returns-then-index-clause-visited : goal.returns-then-index-clause-visited
returns-then-index-clause-visited c =
    let done : List Bool = c.args.self.now.done.items in
    let inside : c.args.root < length done = omega (arith, c.requires.walk.count) in
    let read : slice_get done c.args.root ≡ Some c.index.result.now = slice_get_read done (length done) c.args.root c.index.result.now refl inside c.index.ensures in
    done_already c.args.forest.now c.args.self.now.order.items done c.args.root c.requires.walk c.requires.there (read ∙ ap Some c.if-index.true)

pub loop-top-init : goal.loop-top-init
loop-top-init c =
    let done : List Bool = c.args.self.now.done.items in
    let inside : c.args.root < length done = omega (arith, c.requires.walk.count) in
    let read : slice_get done c.args.root ≡ Some c.index.result.now = slice_get_read done (length done) c.args.root c.index.result.now refl inside c.index.ensures in
    let stack : List ℕ = c.in_ok-stack.stack.items in
    let alone : stack ≡ c.args.root ∷ [] = c.in_ok-stack.ensures.items_if_clones_equal (λ y h. h) in
    record {
      walk = c.requires.walk;
      waiting = start_stack c.args.forest.now done stack c.args.root alone c.requires.there (read ∙ ap Some c.if-index.false);
      goal = start_goal c.args.forest.now stack c.args.root (trees_of c.args.forest.now c.args.self.now.order.items) alone;
    }

pub returns-clause-visited : goal.returns-clause-visited
returns-clause-visited c =
    let none : slice_get c.deref.result.now (length c.deref.result.now - 1) ≡ None = sym c.last.ensures.value ∙ (sym c.copied.ensures ∙ c.in_default.is) in
    let empty : c.loop-top.stack.items ≡ [] = sym c.deref.ensures.value ∙ no_last c.deref.result.now none in
    sym (end_goal c.args.forest.now c.loop-top.stack.items (trees_of c.args.forest.now c.loop-top.self.order.items) empty) ∙ c.loop-top.invariant.goal
