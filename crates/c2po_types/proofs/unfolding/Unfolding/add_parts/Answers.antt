use Rattle.std.proofs.Common.{◌≡◌, Some, refl, ap, subst, slice_get, ◌∙◌}
use Rattle.c2po_types.proofs.Later.{hold_all_later}
use Rattle.c2po_types.specs.Parts.{stored_fault}
use Rattle.c2po_types.proofs.Members.{store_fault}
use Rattle.c2po_types.proofs.unfolding.Unfolding.add_parts.Goals as goal

pub returns-clause-structure : goal.returns-clause-structure
returns-clause-structure c = λ x vs e h w. (
  w,
  (
    c.in_ok-place.place,
    c.args.members,
    refl,
    subst (λ k. slice_get c.parts_place.new.self.parts c.in_ok-place.place ≡ Some (record { whole = k; members = c.args.members })) e c.in_ok-place.ensures.there,
    hold_all_later vs c.args.self.now c.parts_place.new.self c.args.members c.in_ok-place.ensures.later h,
    c.first_of-fault.ensures ∙ (ap stored_fault c.as_slice.ensures ∙ store_fault vs c.args.self.now c.args.members h),
  ),
)

pub returns-clause-set : goal.returns-clause-set
returns-clause-set c = λ vs e h w. (
  w,
  (
    c.in_ok-place.place,
    c.args.members,
    refl,
    subst (λ k. slice_get c.parts_place.new.self.parts c.in_ok-place.place ≡ Some (record { whole = k; members = c.args.members })) e c.in_ok-place.ensures.there,
    hold_all_later vs c.args.self.now c.parts_place.new.self c.args.members c.in_ok-place.ensures.later h,
    c.first_of-fault.ensures ∙ (ap stored_fault c.as_slice.ensures ∙ store_fault vs c.args.self.now c.args.members h),
  ),
)
