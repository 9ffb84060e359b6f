-- Each goal is a lemma on steps, at what the code has read and written.
use Rattle.std.proofs.Common.{◌≡◌, vec_len, ◌<◌, List, ℕ, Bool, length, set, true, refl, subst, ap, sym, ◌∙◌, arith}
use Rattle.core_graph.specs.declared.vertex.Operands.{Operands}
use Rattle.core_graph.specs.Vertices.{OperandsAreBelow, operands_of}
use Rattle.core_graph.specs.Walks.{AreDone, IsFirstIncomplete, IsStack, trees_of, finish, work}
use Rattle.core_graph.proofs.Walking.{IsAt, below_length, popped, top_inside, operand_stack, operand_goal, operand_less, complete_walk, complete_stack, complete_goal, complete_less}
use Rattle.core_graph.proofs.walk.Walk.step.Goals as goal
use Rattle.core_graph.proofs.walk.Walk.step.Goals.{In_ok-push-in-Some, After-pop}

pub get-vertex-requires : goal.get-vertex-requires
get-vertex-requires c = top_inside c.args.forest.now c.args.self.now.done.items c.args.stack.now.items c.requires.top.0 c.args.top c.requires.stack c.requires.top.1

pub first_open-requires : goal.first_open-requires
first_open-requires c =
    let inside : c.args.top < length c.args.forest.now = top_inside c.args.forest.now c.args.self.now.done.items c.args.stack.now.items c.requires.top.0 c.args.top c.requires.stack c.requires.top.1 in
    let below : OperandsAreBelow c.args.top (operands_of c.get-vertex.result) = c.requires.forest.over c.args.top c.get-vertex.result c.get-vertex.ensures in
    let size : length c.deref.result.now ≡ length c.args.forest.now = ap length c.deref.ensures.value ∙ c.requires.walk.count in
    subst (λ (o : Operands). OperandsAreBelow (length c.deref.result.now) o) (sym c.operands.ensures)
    (subst (λ (n : ℕ). OperandsAreBelow n (operands_of c.get-vertex.result)) (sym size) (below_length c.args.top (length c.args.forest.now) (operands_of c.get-vertex.result) inside below))

pub index_mut-requires : goal.index_mut-requires
index_mut-requires c =
    let inside : c.args.top < length c.args.forest.now = top_inside c.args.forest.now c.args.self.now.done.items c.args.stack.now.items c.requires.top.0 c.args.top c.requires.stack c.requires.top.1 in
    omega (arith, c.requires.walk.count)

at_some : (c : In_ok-push-in-Some) → IsAt c.args.forest.now c.args.self.now.order.items c.args.self.now.done.items c.args.stack.now.items c.args.top c.get-vertex.result c.requires.top.0
at_some c = record { forest = c.requires.forest; walk = c.requires.walk; waiting = c.requires.stack; latest = c.requires.top.1; there = c.get-vertex.ensures }

first : (c : In_ok-push-in-Some) → IsFirstIncomplete c.args.self.now.done.items (operands_of c.get-vertex.result) c.in-Some.operand
first c =
    subst (λ (d : List Bool). IsFirstIncomplete d (operands_of c.get-vertex.result) c.in-Some.operand) c.deref.ensures.value
    (subst (λ (o : Operands). IsFirstIncomplete c.deref.result.now o c.in-Some.operand) c.operands.ensures c.in-Some.ensures)

pub returns-in_ok-push-in-Some-clause-stack : goal.returns-in_ok-push-in-Some-clause-stack
returns-in_ok-push-in-Some-clause-stack c =
    operand_stack c.args.forest.now c.args.self.now.order.items c.args.self.now.done.items c.args.stack.now.items c.args.top c.get-vertex.result c.requires.top.0
    c.in-Some.operand c.push.new.self.items (at_some c) (first c) c.in_ok-push-in-Some.ensures.items

pub returns-in_ok-push-in-Some-clause-goal : goal.returns-in_ok-push-in-Some-clause-goal
returns-in_ok-push-in-Some-clause-goal c =
    operand_goal c.args.forest.now c.args.self.now.order.items c.args.self.now.done.items c.args.stack.now.items c.args.top c.get-vertex.result c.requires.top.0
    c.in-Some.operand c.push.new.self.items (at_some c) (first c) c.in_ok-push-in-Some.ensures.items

pub returns-in_ok-push-in-Some-clause-less : goal.returns-in_ok-push-in-Some-clause-less
returns-in_ok-push-in-Some-clause-less c =
    operand_less c.args.forest.now c.args.self.now.order.items c.args.self.now.done.items c.args.stack.now.items c.args.top c.get-vertex.result c.requires.top.0
    c.in-Some.operand c.push.new.self.items (at_some c) (first c) c.in_ok-push-in-Some.ensures.items

at_none : (c : After-pop) → IsAt c.args.forest.now c.args.self.now.order.items c.args.self.now.done.items c.args.stack.now.items c.args.top c.get-vertex.result c.requires.top.0
at_none c = record { forest = c.requires.forest; walk = c.requires.walk; waiting = c.requires.stack; latest = c.requires.top.1; there = c.get-vertex.ensures }

all_done : (c : After-pop) → AreDone c.args.self.now.done.items (operands_of c.get-vertex.result)
all_done c =
    subst (λ (d : List Bool). AreDone d (operands_of c.get-vertex.result)) c.deref.ensures.value
    (subst (λ (o : Operands). AreDone c.deref.result.now o) c.operands.ensures c.in-None.ensures)

rest : (c : After-pop) → c.requires.top.0 ≡ c.pop.new.self.items
rest c = popped c.args.stack.now.items c.requires.top.0 c.pop.new.self.items c.args.top (vec_len c.args.stack.now) c.requires.top.1 (omega arith) c.pop.ensures.rest

pub returns-in_ok-push-in-None-clause-walk : goal.returns-in_ok-push-in-None-clause-walk
returns-in_ok-push-in-None-clause-walk c =
    complete_walk c.args.forest.now c.args.self.now.order.items c.args.self.now.done.items c.args.stack.now.items c.args.top c.get-vertex.result c.requires.top.0
    c.push-in-None.new.self.items (set c.args.self.now.done.items c.args.top true) (at_none c) (all_done c) c.in_ok-push-in-None.ensures.items refl

pub returns-in_ok-push-in-None-clause-stack : goal.returns-in_ok-push-in-None-clause-stack
returns-in_ok-push-in-None-clause-stack c =
    subst (λ (ns : List ℕ). IsStack c.args.forest.now (set c.args.self.now.done.items c.args.top true) ns) (rest c)
    (complete_stack c.args.forest.now c.args.self.now.order.items c.args.self.now.done.items c.args.stack.now.items c.args.top c.get-vertex.result c.requires.top.0
    (set c.args.self.now.done.items c.args.top true) (at_none c) refl)

pub returns-in_ok-push-in-None-clause-goal : goal.returns-in_ok-push-in-None-clause-goal
returns-in_ok-push-in-None-clause-goal c =
    ap (λ (ns : List ℕ). finish (trees_of c.args.forest.now ns) (trees_of c.args.forest.now c.push-in-None.new.self.items)) (sym (rest c))
    ∙ complete_goal c.args.forest.now c.args.self.now.order.items c.args.self.now.done.items c.args.stack.now.items c.args.top c.get-vertex.result c.requires.top.0
    c.push-in-None.new.self.items (at_none c) (all_done c) c.in_ok-push-in-None.ensures.items

pub returns-in_ok-push-in-None-clause-less : goal.returns-in_ok-push-in-None-clause-less
returns-in_ok-push-in-None-clause-less c =
    subst (λ (ns : List ℕ). work (set c.args.self.now.done.items c.args.top true) ns < work c.args.self.now.done.items c.args.stack.now.items) (rest c)
    (complete_less c.args.forest.now c.args.self.now.order.items c.args.self.now.done.items c.args.stack.now.items c.args.top c.get-vertex.result c.requires.top.0
    (set c.args.self.now.done.items c.args.top true) (at_none c) refl)
