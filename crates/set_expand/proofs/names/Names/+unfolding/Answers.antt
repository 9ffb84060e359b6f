use Rattle.std.proofs.Common.{◌≡◌, ◌+◌, ◌<◌, ℕ, false, Some, List, map, length, sym, subst, ap, ◌∙◌, get_or, slice_get, arith}
use Rattle.std.proofs.lemmas.Grind.{common_steps}
use Rattle.std.proofs.lemmas.List.{length-map}
use Rattle.std.proofs.lemmas.Option.{get_or_from_slice_get, slice_get-get_or, slice_get_within}
use Rattle.c2po_ast.proofs.Pushing.{is_formula}
use Rattle.c2po_ast.specs.Shape.{shape}
use Rattle.c2po_types.specs.Values.{members, formula_of, truth_value, connected_all, counted}
use Rattle.c2po_types.specs.Environment.{value_of}
use Rattle.c2po_types.specs.Operators.{bodies_over, bodies_of, body_value, operation_value}
use Rattle.c2po_types.proofs.Loops.{member_at}
use Rattle.set_expand.proofs.Members.{bodies_count, body_at}
use Rattle.set_expand.specs.declared.nodes.Made.TheVariants as made
use Rattle.set_expand.specs.Heads.{env_in, head_value}
use Rattle.set_expand.specs.Light.{IsLight}
use Rattle.set_expand.specs.Nodes.{HaveFormulas, IsMade}
use Rattle.set_expand.proofs.Gates.{CountedSoFar, counted_more}
use Rattle.set_expand.proofs.Joining.{joined_start, joined_more, made_joined, none_joined, none_counted, some_counted}
use Rattle.set_expand.proofs.Lightness.{light-joined, light-counted, light-gates}
use Rattle.set_expand.proofs.names.Names.+unfolding.Goals as goal

pub body_nodes-loop-i-preserved : goal.body_nodes-loop-i-preserved
body_nodes-loop-i-preserved t c =
    let names = c.args.self.now in
    let q = c.args.bodies in
    let env = env_in names c.args.at.scope.now in
    let s = head_value names c.in_ok-set.set in
    let i = c.loop-i.i in
    let v = get_or (members s) i (truth_value false) in
    let at : slice_get (members s) i ≡ Some v = member_at (members s) i c.member_count-i-end.result c.member_count-i-end.ensures c.loop-i-test.true in
    subst (λ (places : List ℕ). CountedSoFar names c.args.nodes.now c.body.new.nodes (bodies_over q env s) (i + 1) places) (sym c.in_ok-push.ensures.items)
    (counted_more names c.args.nodes.now c.loop-i.nodes c.body.new.nodes (bodies_over q env s) i c.in_ok-place.place c.loop-i.places.items (body_value q env v)
    c.loop-i.invariant (body_at q env s v i at) c.in_ok-place.ensures.more (c.in_ok-place.ensures.has v at))

pub joined-loop-i-init : goal.joined-loop-i-init
joined-loop-i-init t c =
    let names = c.args.self.now in
    let q = c.args.bodies in
    let env = env_in names c.args.at.scope.now in
    let s = head_value names c.in_ok-set.set in
    let v = get_or (members s) 0 (truth_value false) in
    let at : slice_get (members s) 0 ≡ Some v = member_at (members s) 0 c.member_count-count.result c.member_count-count.ensures (omega arith) in
    joined_start names c.args.op (bodies_over q env s) c.args.nodes.now c.body.new.nodes c.in_ok-all.all (body_value q env v)
    (body_at q env s v 0 at) c.in_ok-all.ensures.more (c.in_ok-all.ensures.has v at)

pub joined-place-requires-in-loop-i : goal.joined-place-requires-in-loop-i
joined-place-requires-in-loop-i t c = record {
  formed = λ signals below.
      let names = c.args.self.now in
      let q = c.args.bodies in
      let env = env_in names c.args.at.scope.now in
      let s = head_value names c.in_ok-set.set in
      let i = c.loop-i.i in
      let v = get_or (members s) i (truth_value false) in
      let at : slice_get (members s) i ≡ Some v = member_at (members s) i c.member_count-count.result c.member_count-count.ensures c.loop-i-test.true in
      let nodes = c.body-in-loop-i.new.nodes in (
        is_formula nodes c.loop-i.all _ (c.in_ok-next.ensures.more.grows.kept c.loop-i.all _ c.loop-i.invariant.has),
        is_formula nodes c.in_ok-next.next (formula_of (body_value q env v)) (c.in_ok-next.ensures.has v at),
      );
}

pub joined-loop-i-preserved : goal.joined-loop-i-preserved
joined-loop-i-preserved t c =
    let names = c.args.self.now in
    let q = c.args.bodies in
    let env = env_in names c.args.at.scope.now in
    let s = head_value names c.in_ok-set.set in
    let i = c.loop-i.i in
    let v = get_or (members s) i (truth_value false) in
    let at : slice_get (members s) i ≡ Some v = member_at (members s) i c.member_count-count.result c.member_count-count.ensures c.loop-i-test.true in
    joined_more names c.args.op (bodies_over q env s) c.args.nodes.now c.loop-i.nodes c.body-in-loop-i.new.nodes c.place-in-loop-i.new.nodes
    i c.loop-i.all c.in_ok-next.next c.in_ok-more.more (body_value q env v) c.loop-i.invariant (body_at q env s v i at) c.loop-i.auto.i
    c.in_ok-next.ensures.more c.in_ok-more.ensures.more (c.in_ok-next.ensures.has v at) c.in_ok-more.ensures.has

pub operator-returns-in_ok-node-in-Joined-clause-made : goal.operator-returns-in_ok-node-in-Joined-clause-made
operator-returns-in_ok-node-in-Joined-clause-made t c =
    let env = env_in c.args.self.now c.args.at.scope.now in
    let bodies = bodies_of c.in-Joined.bodies env in
    let same : connected_all c.in-Joined.op bodies ≡ value_of (shape c.args.e.now) env =
    ap (λ r. operation_value r env) (sym c.in-Joined.is) ∙ c.of.ensures env c.requires.operator in
    subst (IsMade c.joined.new.nodes (made.Formula c.in_ok-node-in-Joined.node)) same
    (made_joined c.joined.new.nodes c.in_ok-node-in-Joined.node c.in-Joined.op bodies c.in_ok-node-in-Joined.ensures.has)

-- quantifiers over no member
pub joined-returns-then-count-eq0-clause-has : goal.joined-returns-then-count-eq0-clause-has
joined-returns-then-count-eq0-clause-has t c =
    let env = env_in c.args.self.now c.args.at.scope.now in
    let s = value_of (shape c.args.bodies.set.now) env in
    let none : length (bodies_of c.args.bodies env) ≡ 0 =
    omega (arith, bodies_count c.args.bodies env s, ap (λ v. length (members v)) c.in_ok-set.ensures.head, c.member_count-count.ensures) in
    none_joined c.place.new.nodes c.in_ok-none.none c.args.op (bodies_of c.args.bodies env) none c.in_ok-none.ensures.has

pub counted-returns-then-is_empty-clause-has : goal.counted-returns-then-is_empty-clause-has
counted-returns-then-is_empty-clause-has t c =
    let bodies = bodies_of c.args.bodies (env_in c.args.self.now c.args.at.scope.now) in
    let empty : length c.in_ok-places.places.items ≡ 0 = grind (arith, common_steps) in
    none_counted c.place.new.nodes c.in_ok-none.none c.args.op c.args.number bodies
    (omega (arith, empty, c.in_ok-places.ensures.have.count, length-map bodies formula_of)) c.in_ok-none.ensures.has

-- a counting quantifier over some
pub counted-returns-clause-has : goal.counted-returns-clause-has
counted-returns-clause-has t c =
    let bodies = bodies_of c.args.bodies (env_in c.args.self.now c.args.at.scope.now) in
    let some : 0 < length c.in_ok-places.places.items = grind (arith, common_steps) in
    some_counted c.gates.new.nodes c.in_ok-node.node c.args.op c.args.number bodies
    (omega (arith, some, c.in_ok-places.ensures.have.count, length-map bodies formula_of))
    (c.in_ok-node.ensures.has (map formula_of bodies)
    (subst (λ (ns : List ℕ). HaveFormulas c.body_nodes.new.nodes ns (map formula_of bodies)) (sym c.deref.ensures.value) c.in_ok-places.ensures.have))

-- the body of a light quantifier is light
pub body-formula-requires : goal.body-formula-requires
body-formula-requires t c =
    let names = c.args.self.now in
    let q = c.args.bodies in
    let env = env_in names c.args.at.scope.now in
    let s = head_value names c.args.set.now in
    let i = c.args.i in
    let v = get_or (members s) i (truth_value false) in
    let at : slice_get (members s) i ≡ Some v = slice_get-get_or (members s) i (truth_value false) c.requires.inside in
    let own = body_value q env v in
    let there : slice_get (bodies_over q env s) i ≡ Some own = body_at q env s v i at in
    let light : IsLight own =
    subst IsLight (get_or_from_slice_get (bodies_over q env s) i own own there) (c.requires.light i own (slice_get_within (bodies_over q env s) i own there)) in
    (omega arith, (subst (λ env. IsLight (value_of (shape q.body.now) env)) (sym (c.member_scope-scope.ensures v at)) light, c.requires.kept))

-- the bodies of a light quantifier, and what its gates weigh
pub operator-joined-requires : goal.operator-joined-requires
operator-joined-requires t c =
    let env = env_in c.args.self.now c.args.at.scope.now in
    let bodies = bodies_of c.in-Joined.bodies env in
    let same : connected_all c.in-Joined.op bodies ≡ value_of (shape c.args.e.now) env =
    ap (λ r. operation_value r env) (sym c.in-Joined.is) ∙ c.of.ensures env c.requires.operator in
    (omega arith, (light-joined c.in-Joined.op bodies (value_of (shape c.args.e.now) env) same c.requires.light, c.requires.kept))

pub operator-counted-requires : goal.operator-counted-requires
operator-counted-requires t c =
    let env = env_in c.args.self.now c.args.at.scope.now in
    let bodies = bodies_of c.in-Counted.bodies env in
    let whole = value_of (shape c.args.e.now) env in
    let same : counted c.in-Counted.op c.in-Counted.number bodies ≡ whole =
    ap (λ r. operation_value r env) (sym c.in-Counted.is) ∙ c.of.ensures env c.requires.operator in (
      omega arith,
      (
        light-counted c.in-Counted.op c.in-Counted.number bodies whole same c.requires.light,
        (light-gates c.in-Counted.op c.in-Counted.number bodies whole same c.requires.light, c.requires.kept),
      ),
    )
