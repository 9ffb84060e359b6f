-- Which limit is exceeded first.

use Rattle.std.proofs.Common.{◌≡◌, ◌≤◌, inl, inr, Bool, true, false, None, Some, List, refl}
use Rattle.std.specs.Prelude.{nat_lt, if◌then◌else◌}
use Rattle.std.proofs.lemmas.Bool.{lt-ltb, le-ltb, ltb-false, or_left, or_right, or_from}
use Rattle.std.proofs.lemmas.List.Folds.{list_any-from_Any, list_any_none}
use Rattle.mltl_base.specs.declared.limits.TheConstants.{MAX_DELAY, MAX_SLOTS}
use Rattle.mltl_base.specs.Queues.{worst_delays}
use Rattle.mltl_base.specs.Subformulas.{Asked, ft_list}
use Rattle.core_graph.specs.Limits.{AreFew, AreMany}
use Rattle.c2po_compile.specs.declared.build_fault.BuildFault.{BuildFault}
use Rattle.c2po_compile.specs.declared.build_fault.BuildFault.TheVariants as build
use Rattle.c2po_compile.specs.BuildLimits.{IsWithinLimits, IsReason, AreInTime, IsLate, slots_needed}
use Rattle.c2po_compile.specs.Refusals.{IsFirstRefusal, build_refusal}
use Rattle.c2po_compile.specs.Limits.{has_many_nodes, has_many_slots, is_late, limit_refusal}

-- nodes
few_nodes : (outs : List Asked) → AreFew outs → has_many_nodes outs ≡ false
few_nodes outs h = or_from _ _ (le-ltb _ _ h.bz) (or_from _ _ (le-ltb _ _ h.ft) (le-ltb _ _ h.pt))

many_nodes : (outs : List Asked) → AreMany outs → has_many_nodes outs ≡ true
many_nodes outs (inl h) = or_left _ _ (lt-ltb _ _ h)
many_nodes outs (inr (inl h)) = or_right _ _ (or_left _ _ (lt-ltb _ _ h))
many_nodes outs (inr (inr h)) = or_right _ _ (or_right _ _ (lt-ltb _ _ h))

-- delays
in_time : (outs : List Asked) → AreInTime outs → is_late outs ≡ false
in_time outs h = list_any_none (nat_lt MAX_DELAY) (worst_delays (ft_list outs)) (λ k d inside. le-ltb MAX_DELAY _ (h k d inside))

late : (outs : List Asked) → IsLate outs → is_late outs ≡ true
late outs h = list_any-from_Any (nat_lt MAX_DELAY) (worst_delays (ft_list outs)) (h.0, h.1, h.2, h.3, lt-ltb MAX_DELAY _ h.4)

-- all limits are kept
pub none_exceeded : (outs : List Asked) → IsWithinLimits outs → limit_refusal outs ≡ None
unfolding limit_refusal
none_exceeded outs h = rw (few_nodes outs h.few, in_time outs h.in_time, le-ltb _ _ h.fits) refl

-- the refusal names the first that isn't
pub first_exceeded : (outs : List Asked) (fault : BuildFault) → IsReason outs fault → IsFirstRefusal (limit_refusal outs) (build_refusal fault)
unfolding limit_refusal
first_exceeded outs build.TooManyNodes h = rw (many_nodes outs h) refl
first_exceeded outs build.TooLate h = rw (few_nodes outs h.0, late outs h.1) refl
first_exceeded outs build.TooManySlots h = rw (few_nodes outs h.0, in_time outs h.1, lt-ltb _ _ h.2) refl
first_exceeded outs build.Memory h = tt

-- where there is no refusal, slots and boxes are within their limit
last_test : {A : Type 0} (nodes late slots : Bool) (x y z : A) → (if nodes then Some x else if late then Some y else if slots then Some z else None) ≡ None → slots ≡ false
last_test false false false x y z h = refl
last_test _ _ _ x y z h = absurd (cc)

pub none_fits : (outs : List Asked) → limit_refusal outs ≡ None → slots_needed outs ≤ MAX_SLOTS
unfolding limit_refusal
none_fits outs h = ltb-false _ _ (last_test (has_many_nodes outs) (is_late outs) (has_many_slots outs) _ _ _ h)
