use Rattle.std.proofs.Common.{◌≡◌, ◌+◌, ◌-◌, ◌<◌, false, Some, [], IfOk, IfErr, map, refl, sym, subst, ap, ◌∙◌, take, length, get_or, slice_get, sum_by, arith}
use Rattle.std.proofs.lemmas.List.{take_all, length-map}
use Rattle.std.proofs.lemmas.Result.{err_from_is_err_and}
use Rattle.c2po_ast.specs.Shape.{shape}
use Rattle.c2po_types.specs.Facts.{Tells}
use Rattle.c2po_ast.specs.Nodes.{formula}
use Rattle.c2po_types.specs.declared.unfold_fault.UnfoldFault.TheVariants.{Heavy}
use Rattle.mltl_base.specs.declared.operators.LogicOp.TheVariants.{Or}
use Rattle.c2po_types.specs.Values.{boolean, members, formula_of, truth_value, connected_all, counted}
use Rattle.c2po_types.specs.Weights.{weight, counting_weight}
use Rattle.c2po_types.specs.Environment.{value_of, bind}
use Rattle.c2po_types.specs.Operators.{bodies_over, bodies_of, operation_value}
use Rattle.c2po_types.specs.Heads.{Heads}
use Rattle.c2po_types.specs.Summaries.{IsSummary, gathered}
use Rattle.c2po_types.proofs.Members.{found_at, holds_weight}
use Rattle.c2po_types.proofs.Loops.{WeighedSoFar, GatheredSoFar, weighed_more, weight_within, bodies_count, body_at, member_at, none_left, weights_back, joined_first, joined_one, joined_known, joined_within, not_known, sum_within, gathered_more, counted_tells, counted_weight}
use Rattle.c2po_types.proofs.unfolding.Unfolding.+summing.Goals as goal

pub binary-returns-in_err-b-clause-heavy : goal.binary-returns-in_err-b-clause-heavy
binary-returns-in_err-b-clause-heavy t c = λ env h.
    let p = err_from_is_err_and c.from_residual-in_err-b.result c.from_residual-in_err-b.ensures.1 in
    rw (p.1, p.2)
    (λ e. omega (
      arith,
      c.in_err-b.ensures.heavy env h e,
      c.in_ok-left.ensures.left,
      (c.in_ok-a.ensures.holds env h).weight,
    ))

pub operator-returns-in-Joined-clause-holds : goal.operator-returns-in-Joined-clause-holds
operator-returns-in-Joined-clause-holds t c = λ env h o.
    let same : connected_all c.in-Joined.op (bodies_of c.in-Joined.bodies env) ≡ value_of (shape c.args.e.now) env =
    ap (λ r. operation_value r env) (sym c.in-Joined.is) ∙ c.of.ensures env o in
    subst (λ w. IfOk c.joined_bodies.result (λ s. IsSummary s w)) same (c.joined_bodies.ensures.holds env h)

pub operator-returns-in-Joined-clause-heavy : goal.operator-returns-in-Joined-clause-heavy
operator-returns-in-Joined-clause-heavy t c = λ env h o.
    let same : connected_all c.in-Joined.op (bodies_of c.in-Joined.bodies env) ≡ value_of (shape c.args.e.now) env =
    ap (λ r. operation_value r env) (sym c.in-Joined.is) ∙ c.of.ensures env o in
    subst (λ w. IfErr c.joined_bodies.result (λ why. why ≡ Heavy → c.args.room < weight w)) same (c.joined_bodies.ensures.heavy env h)

pub parts_summary-returns-in_err-member-clause-heavy : goal.parts_summary-returns-in_err-member-clause-heavy
parts_summary-returns-in_err-member-clause-heavy t c = λ env h.
    let p = err_from_is_err_and c.from_residual-in_err-member.result c.from_residual-in_err-member.ensures.1 in
    rw (p.1, p.2)
    (λ e. omega (
      arith,
      c.in_err-member.ensures.heavy env h e,
      c.loop-e.invariant.weight env h,
      weight_within c.args.es.now c.loop-e.e-index c.e-item.result env (found_at c.args.es.now c.args.es.now c.loop-e.e-index c.e-item.result refl c.loop-e-test.true c.e-item.is),
    ))

pub parts_summary-loop-e-preserved : goal.parts_summary-loop-e-preserved
parts_summary-loop-e-preserved t c =
    let left : c.loop-e.left - c.in_ok-member.member.weight ≡ c.without-left.result = omega (arith, c.without-left.ensures) in
    subst (WeighedSoFar c.args.self.now c.args.at.scope.now (take (c.loop-e.e-index + 1) c.args.es.now) c.args.room) left
    (weighed_more c.args.self.now c.args.at.scope.now c.args.es.now c.loop-e.e-index c.e-item.result c.in_ok-member.member
    c.args.room c.loop-e.left c.loop-e.invariant
    (found_at c.args.es.now c.args.es.now c.loop-e.e-index c.e-item.result refl c.loop-e-test.true c.e-item.is)
    c.in_ok-member.ensures.holds c.in_ok-member.ensures.light)

pub joined_bodies-returns-in_err-first-clause-heavy : goal.joined_bodies-returns-in_err-first-clause-heavy
joined_bodies-returns-in_err-first-clause-heavy t c = λ env h.
    let p = err_from_is_err_and c.from_residual-in_err-first.result c.from_residual-in_err-first.ensures.1 in
    let s = value_of (shape c.args.bodies.set.now) env in
    let heads = c.in_ok-set.ensures.head env h in
    let v = get_or (members s) 0 (truth_value false) in
    let at : slice_get (members s) 0 ≡ Some v = member_at (members s) 0 c.member_count-count.result (c.member_count-count.ensures s heads) (omega arith) in
    rw (p.1, p.2)
    (λ e. omega (
      arith,
      c.in_err-first.ensures.heavy env s v h heads at e,
      joined_first c.args.op (bodies_over c.args.bodies env s) (value_of (shape c.args.bodies.body.now) (bind c.args.bodies.name.now v env))
          (body_at c.args.bodies env s v 0 at),
    ))

pub joined_bodies-loop-i-init : goal.joined_bodies-loop-i-init
joined_bodies-loop-i-init t c = record {
  light = omega (arith, c.as_formula-all.ensures.weight, c.in_ok-first.ensures.light);
  known = c.in_ok-first.ensures.known;
  holds = λ env s h heads.
      let v = get_or (members s) 0 (truth_value false) in
      let at : slice_get (members s) 0 ≡ Some v = member_at (members s) 0 c.member_count-count.result (c.member_count-count.ensures s heads) (omega arith) in
      let w = value_of (shape c.args.bodies.body.now) (bind c.args.bodies.name.now v env) in
      subst (λ x. IsSummary c.as_formula-all.result x)
      (joined_one c.args.op (bodies_over c.args.bodies env s) w (body_at c.args.bodies env s v 0 at))
      (c.as_formula-all.ensures.holds c.args.op w (c.in_ok-first.ensures.holds env s v h heads at));
}

pub joined_bodies-returns-in_err-left-clause-heavy : goal.joined_bodies-returns-in_err-left-clause-heavy
joined_bodies-returns-in_err-left-clause-heavy t c = λ env h.
    let p = err_from_is_err_and c.from_residual-in_err-left.result c.from_residual-in_err-left.ensures.1 in
    let i = c.loop-i.i in
    let s = value_of (shape c.args.bodies.set.now) env in
    let heads = c.in_ok-set.ensures.head env h in
    let v = get_or (members s) i (truth_value false) in
    let at : slice_get (members s) i ≡ Some v = member_at (members s) i c.member_count-count.result (c.member_count-count.ensures s heads) c.loop-i-test.true in
    let bodies = bodies_over c.args.bodies env s in
    let w = value_of (shape c.args.bodies.body.now) (bind c.args.bodies.name.now v env) in
    rw (p.1, p.2)
    (λ e. omega (
      arith,
      c.in_err-left.ensures.heavy,
      c.loop-i.invariant.light,
      (c.loop-i.invariant.holds env s h heads).weight,
      joined_within c.args.op bodies i w (body_at c.args.bodies env s v i at) c.loop-i.auto.i,
    ))

pub joined_bodies-returns-in_err-next-clause-heavy : goal.joined_bodies-returns-in_err-next-clause-heavy
joined_bodies-returns-in_err-next-clause-heavy t c = λ env h.
    let p = err_from_is_err_and c.from_residual-in_err-next.result c.from_residual-in_err-next.ensures.1 in
    let i = c.loop-i.i in
    let s = value_of (shape c.args.bodies.set.now) env in
    let heads = c.in_ok-set.ensures.head env h in
    let v = get_or (members s) i (truth_value false) in
    let at : slice_get (members s) i ≡ Some v = member_at (members s) i c.member_count-count.result (c.member_count-count.ensures s heads) c.loop-i-test.true in
    let bodies = bodies_over c.args.bodies env s in
    let w = value_of (shape c.args.bodies.body.now) (bind c.args.bodies.name.now v env) in
    rw (p.1, p.2)
    (λ e. omega (
      arith,
      c.in_err-next.ensures.heavy env s v h heads at e,
      c.in_ok-left.ensures.left,
      c.loop-i.invariant.light,
      (c.loop-i.invariant.holds env s h heads).weight,
      joined_within c.args.op bodies i w (body_at c.args.bodies env s v i at) c.loop-i.auto.i,
    ))

pub joined_bodies-loop-i-preserved : goal.joined_bodies-loop-i-preserved
joined_bodies-loop-i-preserved t c =
    let i = c.loop-i.i in
    record {
      light = omega (arith, c.over_two-all.ensures.weight, c.in_ok-next.ensures.light, c.in_ok-left.ensures.left, c.loop-i.invariant.light);
      known = c.in_ok-next.ensures.known;
      holds = λ env s h heads.
          let v = get_or (members s) i (truth_value false) in
          let at : slice_get (members s) i ≡ Some v = member_at (members s) i c.member_count-count.result (c.member_count-count.ensures s heads) c.loop-i-test.true in
          let bodies = bodies_over c.args.bodies env s in
          let w = value_of (shape c.args.bodies.body.now) (bind c.args.bodies.name.now v env) in
          joined_known c.over_two-all.result c.args.op bodies i w (body_at c.args.bodies env s v i at) c.loop-i.auto.i
          (c.over_two-all.ensures.holds (connected_all c.args.op (take i bodies)) w
          (c.loop-i.invariant.holds env s h heads)
          (c.in_ok-next.ensures.holds env s v h heads at));
    }

pub joined_bodies-returns-clause-holds : goal.joined_bodies-returns-clause-holds
joined_bodies-returns-clause-holds t c = λ env h.
    let s = value_of (shape c.args.bodies.set.now) env in
    let heads = c.in_ok-set.ensures.head env h in
    let bodies = bodies_over c.args.bodies env s in
    let whole : take c.loop-i.i bodies ≡ bodies =
    take_all c.loop-i.i bodies (omega (arith, bodies_count c.args.bodies env s, c.member_count-count.ensures s heads)) in
    subst (λ vs. IsSummary c.loop-i.all (connected_all c.args.op vs)) whole (c.loop-i.invariant.holds env s h heads)

pub gather-returns-in_err-next-clause-heavy : goal.gather-returns-in_err-next-clause-heavy
gather-returns-in_err-next-clause-heavy t c = λ env h.
    let p = err_from_is_err_and c.from_residual-in_err-next.result c.from_residual-in_err-next.ensures.1 in
    let i = c.loop-i.i in
    let s = value_of (shape c.args.bodies.set.now) env in
    let heads = c.in_ok-set.ensures.head env h in
    let v = get_or (members s) i (truth_value false) in
    let at : slice_get (members s) i ≡ Some v = member_at (members s) i c.member_count-count.result (c.member_count-count.ensures s heads) c.loop-i-test.true in
    let bodies = bodies_over c.args.bodies env s in
    let w = value_of (shape c.args.bodies.body.now) (bind c.args.bodies.name.now v env) in
    rw (p.1, p.2)
    (λ e. omega (
      arith,
      c.in_err-next.ensures.heavy env s v h heads at e,
      c.loop-i.invariant.weight env s h heads,
      sum_within bodies i w (body_at c.args.bodies env s v i at),
    ))

pub gather-loop-i-preserved : goal.gather-loop-i-preserved
gather-loop-i-preserved t c =
    let left : c.loop-i.left - c.in_ok-next.next.summary.weight ≡ c.without-left.result = omega (arith, c.without-left.ensures) in
    subst (λ n. GatheredSoFar c.args.self.now c.args.at.scope.now c.in_ok-set.set c.args.bodies c.args.room (c.loop-i.i + 1) c.joined-fact.result n c.in_ok-next.next) left
    (gathered_more c.args.self.now c.args.at.scope.now c.in_ok-set.set c.args.bodies c.args.room c.loop-i.i c.loop-i.fact c.joined-fact.result c.loop-i.left
    c.loop-i.last c.in_ok-next.next c.loop-i.invariant c.in_ok-next.ensures.light
    (λ s heads. omega (arith, c.member_count-count.ensures s heads, c.loop-i-test.true))
    c.in_ok-next.ensures.holds c.in_ok-next.ensures.known (λ o q h k. c.joined-fact.ensures Or o q h k))

pub gather-returns-clause-fact : goal.gather-returns-clause-fact
gather-returns-clause-fact t c = λ env h.
    let s = value_of (shape c.args.bodies.set.now) env in
    let heads = c.in_ok-set.ensures.head env h in
    let whole : take c.loop-i.i (bodies_over c.args.bodies env s) ≡ bodies_over c.args.bodies env s =
    take_all c.loop-i.i (bodies_over c.args.bodies env s) (omega (arith, bodies_count c.args.bodies env s, c.member_count-count.ensures s heads)) in
    subst (λ vs. Tells c.loop-i.fact (Some (formula (gathered (map formula_of vs))))) whole (c.loop-i.invariant.tells env s h heads)

pub gather-returns-clause-weight : goal.gather-returns-clause-weight
gather-returns-clause-weight t c = λ env h.
    let s = value_of (shape c.args.bodies.set.now) env in
    let heads = c.in_ok-set.ensures.head env h in
    let whole : take c.loop-i.i (bodies_over c.args.bodies env s) ≡ bodies_over c.args.bodies env s =
    take_all c.loop-i.i (bodies_over c.args.bodies env s) (omega (arith, bodies_count c.args.bodies env s, c.member_count-count.ensures s heads)) in
    subst (λ vs. c.args.room ≡ c.loop-i.left + sum_by weight vs) whole (c.loop-i.invariant.weight env s h heads)

pub gather-returns-clause-count : goal.gather-returns-clause-count
gather-returns-clause-count t c = λ env h.
    let s = value_of (shape c.args.bodies.set.now) env in
    c.member_count-count.ensures s (c.in_ok-set.ensures.head env h) ∙ sym (bodies_count c.args.bodies env s)

pub counted_bodies-returns-clause-holds : goal.counted_bodies-returns-clause-holds
counted_bodies-returns-clause-holds t c = λ env h.
    let bodies = bodies_of c.args.bodies env in
    let count : c.in_ok-all.all.count ≡ length bodies = c.in_ok-all.ensures.count env h in
    let some : 0 < length bodies = omega (arith, count) in
    let beside : counting_weight c.in_ok-all.all.count c.args.number ≡ counting_weight (length bodies) c.args.number = ap (λ n. counting_weight n c.args.number) count in
    record {
      weight = omega (arith, c.in_ok-all.ensures.weight env h, beside, c.in_ok-gates.ensures.weight, counted_weight c.args.op c.args.number bodies some);
      fact = counted_tells c.args.op c.in_ok-all.all.count c.args.number bodies c.counted_fact.result some count
          (c.counted_fact.ensures (map formula_of bodies) (length-map bodies formula_of ∙ sym count) (c.in_ok-all.ensures.fact env h));
    }

pub gather-loop-i-init : goal.gather-loop-i-init
gather-loop-i-init t c = record {
  inside = omega arith;
  known = not_known c.args.self.now c.args.at.scope.now c.args.bodies c.none-last.result c.none-last.ensures;
  tells = λ env s h heads. c.truth-fact.ensures.truth false;
  weight = λ env s h heads. omega arith;
}

pub summary-returns-in-Nothing-clause-holds : goal.summary-returns-in-Nothing-clause-holds
summary-returns-in-Nothing-clause-holds t c = λ env h.
    let is = subst (λ r. Heads c.args.self.now r (value_of (shape c.args.e.now) env)) c.in-Nothing.is (c.in_ok-head.ensures.head env h) in
    subst (λ v. IfOk c.token.result (λ s. IsSummary s v)) (sym is.2) (c.token.ensures.holds (boolean false) refl (c.truth.ensures.truth false))

-- what is known of the last body is known where the member is the same stored value
pub body-returns-in_err-less-clause-heavy : goal.body-returns-in_err-less-clause-heavy
body-returns-in_err-less-clause-heavy t c = λ env s v h heads at.
    let p = err_from_is_err_and c.from_residual-in_err-less.result c.from_residual-in_err-less.ensures.1 in
    let same = c.is_of.ensures c.if-is_of.true in
    let held = subst (λ head. Heads c.args.self.now head v) same.2 (c.in_ok-head.ensures.head s v heads at) in
    rw (p.1, p.2)
    (λ e. omega (arith, c.in_err-less.ensures.heavy, (c.requires.holds env same.0 v same.1 h held).weight))

pub body-returns-then-is_of-clause-holds : goal.body-returns-then-is_of-clause-holds
body-returns-then-is_of-clause-holds t c = λ env s v h heads at.
    let same = c.is_of.ensures c.if-is_of.true in
    let held = subst (λ head. Heads c.args.self.now head v) same.2 (c.in_ok-head.ensures.head s v heads at) in
    c.requires.holds env same.0 v same.1 h held

pub summary-returns-in_err-less-in-Held-clause-heavy : goal.summary-returns-in_err-less-in-Held-clause-heavy
summary-returns-in_err-less-in-Held-clause-heavy t c = λ env h.
    let p = err_from_is_err_and c.from_residual-in_err-less-in-Held.result c.from_residual-in_err-less-in-Held.ensures.1 in
    let v = value_of (shape c.args.e.now) env in
    let held = subst (λ r. Heads c.args.self.now r v) c.in-Held.is (c.in_ok-head.ensures.head env h) in
    rw (p.1, p.2)
    (λ e. omega (arith, c.in_err-less-in-Held.ensures.heavy, holds_weight v c.args.self.now c.in-Held.stored held))

-- quantifiers over no member
pub joined_bodies-returns-then-count-eq0-clause-holds : goal.joined_bodies-returns-then-count-eq0-clause-holds
joined_bodies-returns-then-count-eq0-clause-holds t c = λ env h.
    let s = value_of (shape c.args.bodies.set.now) env in
    let bodies = bodies_of c.args.bodies env in
    let none : bodies ≡ [] =
    none_left bodies c.member_count-count.result (c.member_count-count.ensures s (c.in_ok-set.ensures.head env h) ∙ sym (bodies_count c.args.bodies env s)) (omega arith) in
    subst (λ vs. IsSummary c.none.result (connected_all c.args.op vs)) (sym none) (c.none.ensures.joined c.args.op)

pub counted_bodies-returns-then-all-eq0-clause-holds : goal.counted_bodies-returns-then-all-eq0-clause-holds
counted_bodies-returns-then-all-eq0-clause-holds t c = λ env h.
    let bodies = bodies_of c.args.bodies env in
    let none : bodies ≡ [] = none_left bodies c.in_ok-all.all.count (c.in_ok-all.ensures.count env h) (omega arith) in
    subst (λ vs. IsSummary c.none.result (counted c.args.op c.args.number vs)) (sym none) (c.none.ensures.counted c.args.op c.args.number)

-- a counting quantifier weighs more than its bodies
pub counted_bodies-returns-in_err-all-clause-heavy : goal.counted_bodies-returns-in_err-all-clause-heavy
counted_bodies-returns-in_err-all-clause-heavy t c = λ env h.
    let p = err_from_is_err_and c.from_residual.result c.from_residual.ensures.1 in
    rw (p.1, p.2)
    (λ e. omega (arith, c.in_err-all.ensures.heavy env h e, weights_back (bodies_of c.args.bodies env)))

pub counted_bodies-returns-in_err-gates-clause-heavy : goal.counted_bodies-returns-in_err-gates-clause-heavy
counted_bodies-returns-in_err-gates-clause-heavy t c = λ env h.
    let p = err_from_is_err_and c.from_residual-in_err-gates.result c.from_residual-in_err-gates.ensures.1 in
    let bodies = bodies_of c.args.bodies env in
    let count : c.in_ok-all.all.count ≡ length bodies = c.in_ok-all.ensures.count env h in
    let some : 0 < length bodies = omega (arith, count) in
    let beside : counting_weight c.in_ok-all.all.count c.args.number ≡ counting_weight (length bodies) c.args.number = ap (λ n. counting_weight n c.args.number) count in
    rw (p.1, p.2)
    (λ e. omega (arith, c.in_err-gates.ensures.heavy, c.in_ok-all.ensures.weight env h, beside, counted_weight c.args.op c.args.number bodies some))
