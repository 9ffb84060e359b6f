use Rattle.std.proofs.Common.{refl, arith}
use Rattle.c2po_ast.specs.Shape.{shape}
use Rattle.c2po_types.specs.Environment.{value, value_of}
use Rattle.c2po_types.proofs.Later.{stands_later}
use Rattle.c2po_types.proofs.Members.{holds_fault, holds_weight}
use Rattle.c2po_types.proofs.unfolding.Unfolding.define.Goals as goal

pub returns-clause-stands : goal.returns-clause-stands
returns-clause-stands c = λ env h.
    c.in_ok-declare.ensures.stands env (value (value_of (shape c.args.e.now) env))
    (stands_later c.args.self.now c.store.new.self env c.in_ok-stored.ensures.later h)
    (value_of (shape c.args.e.now) env, c.in_ok-stored.ensures.holds env h, refl)

pub returns-clause-fault : goal.returns-clause-fault
returns-clause-fault c = λ env h.
    holds_fault (value_of (shape c.args.e.now) env) c.store.new.self c.in_ok-stored.stored (c.in_ok-stored.ensures.holds env h)

pub returns-clause-light : goal.returns-clause-light
returns-clause-light c = λ env h.
    omega (
      arith,
      c.in_ok-stored.ensures.light,
      holds_weight (value_of (shape c.args.e.now) env) c.store.new.self c.in_ok-stored.stored (c.in_ok-stored.ensures.holds env h),
    )
