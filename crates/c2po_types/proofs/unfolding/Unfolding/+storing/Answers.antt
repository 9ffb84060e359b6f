use Rattle.std.proofs.Common.{false, ◌≡◌, ◌∙◌, ◌+◌, ◌-◌, refl, sym, subst, List, take, arith}
use Rattle.std.proofs.lemmas.Result.{err_from_is_err_and}
use Rattle.c2po_ast.specs.Shape.{shape}
use Rattle.c2po_types.specs.declared.values.Stored.{Stored}
use Rattle.c2po_types.specs.Environment.{value_of}
use Rattle.c2po_types.specs.Values.{boolean}
use Rattle.c2po_types.proofs.Later.{fits_later}
use Rattle.c2po_types.specs.Heads.{Heads}
use Rattle.c2po_types.specs.Holding.{Holds}
use Rattle.c2po_types.specs.Summaries.{IsSummary}
use Rattle.c2po_types.proofs.Members.{found_at, holds_weight, operator_is_leaf}
use Rattle.c2po_types.proofs.Loops.{BuiltSoFar, built_more, weight_within}
use Rattle.c2po_types.proofs.unfolding.Unfolding.+storing.Goals as goal

pub store_all-returns-in_err-member-clause-heavy : goal.store_all-returns-in_err-member-clause-heavy
store_all-returns-in_err-member-clause-heavy t c = λ env h.
    let p = err_from_is_err_and c.from_residual-in_err-member.result c.from_residual-in_err-member.ensures.1 in
    let fits = fits_later c.args.at.scope.now c.args.self.now c.loop-e.self env c.loop-e.invariant.later h in
    rw (p.1, p.2)
    (λ e. omega (
      arith,
      c.in_err-member.ensures.heavy env fits e,
      c.loop-e.invariant.weight env h,
      weight_within c.args.es.now c.loop-e.e-index c.e-item.result env (found_at c.args.es.now c.args.es.now c.loop-e.e-index c.e-item.result refl c.loop-e-test.true c.e-item.is),
    ))

pub store_all-loop-e-preserved : goal.store_all-loop-e-preserved
store_all-loop-e-preserved t c =
    let left : c.loop-e.left - c.in_ok-member.member.weight ≡ c.without-left.result = omega (arith, c.without-left.ensures) in
    subst (BuiltSoFar c.args.self.now c.store.new.self c.args.at.scope.now (take (c.loop-e.e-index + 1) c.args.es.now) c.push.new.self c.args.room) left
    (subst (λ (done : List Stored). BuiltSoFar c.args.self.now c.store.new.self c.args.at.scope.now (take (c.loop-e.e-index + 1) c.args.es.now) done c.args.room
    (c.loop-e.left - c.in_ok-member.member.weight)) (sym c.in_ok-push.ensures.pushed)
    (built_more c.args.self.now c.loop-e.self c.store.new.self c.args.at.scope.now c.args.es.now c.loop-e.e-index c.e-item.result c.loop-e.members c.in_ok-member.member
    c.args.room c.loop-e.left c.loop-e.invariant
    (found_at c.args.es.now c.args.es.now c.loop-e.e-index c.e-item.result refl c.loop-e-test.true c.e-item.is)
    c.in_ok-member.ensures.later c.in_ok-member.ensures.holds c.in_ok-member.ensures.light))

pub store-returns-in_ok-add_leaf-in-Nothing-clause-holds : goal.store-returns-in_ok-add_leaf-in-Nothing-clause-holds
store-returns-in_ok-add_leaf-in-Nothing-clause-holds t c = λ env h.
    let is = subst (λ r. Heads c.args.self.now r (value_of (shape c.args.e.now) env)) c.in-Nothing.is (c.in_ok-head.ensures.head env h) in
    subst (λ v. Holds c.add_leaf.new.self c.in_ok-add_leaf-in-Nothing.field-0 v) (sym is.2)
    (c.in_ok-add_leaf-in-Nothing.ensures.holds (boolean false) (c.in_ok-token-in-Nothing.ensures.holds (boolean false) refl (c.truth.ensures.truth false)))

pub store-returns-in_ok-add_leaf-in-Leaf-clause-holds : goal.store-returns-in_ok-add_leaf-in-Leaf-clause-holds
store-returns-in_ok-add_leaf-in-Leaf-clause-holds t c = λ env h.
    let g = subst (λ r. Heads c.args.self.now r (value_of (shape c.args.e.now) env)) c.in-Leaf.is (c.in_ok-head.ensures.head env h) in
    let e = shape c.in-Leaf.e.now in
    let l = operator_is_leaf e g.0 g.3 in
    let found = subst (λ v. IsSummary c.in_ok-found-in-Leaf.found v) l.is (c.in_ok-found-in-Leaf.ensures.holds g.0 g.1 g.3) in
    subst (λ v. Holds c.add_leaf-in-Leaf.new.self c.in_ok-add_leaf-in-Leaf.field-0 v) (sym (g.2 ∙ l.is))
    (c.in_ok-add_leaf-in-Leaf.ensures.holds l.of found)

pub store-returns-in_err-less-in-Held-clause-heavy : goal.store-returns-in_err-less-in-Held-clause-heavy
store-returns-in_err-less-in-Held-clause-heavy t c = λ env h.
    let p = err_from_is_err_and c.from_residual-in_err-less-in-Held.result c.from_residual-in_err-less-in-Held.ensures.1 in
    let v = value_of (shape c.args.e.now) env in
    let held = subst (λ r. Heads c.args.self.now r v) c.in-Held.is (c.in_ok-head.ensures.head env h) in
    rw (p.1, p.2)
    (λ e. omega (arith, c.in_err-less-in-Held.ensures.heavy, holds_weight v c.args.self.now c.in-Held.stored held))
