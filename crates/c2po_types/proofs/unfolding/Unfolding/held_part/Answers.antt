use Rattle.std.proofs.Common.{sym, subst, length, ◌≤◌}
use Rattle.c2po_types.specs.Environment.{fields_in}
use Rattle.c2po_types.proofs.Members.{found_at}
use Rattle.c2po_types.proofs.StoredParts.{held_part_some, held_part_past}
use Rattle.c2po_types.proofs.unfolding.Unfolding.held_part.Goals as goal

pub returns-in-Some-get : goal.returns-in-Some-get
returns-in-Some-get c = λ env v h k.
    held_part_some v c.args.self.now c.args.stored c.in-Some-get.part.now c.in-Parts.i c.in-Some.parts.now _ c.in-Some-field_place.place
    (λ y. fields_in (env y)) c.args.field.now k c.in-Parts.is
    (found_at _ _ _ _ c.as_slice.ensures c.in-Some.ensures.lookup.3.0 c.in-Some.ensures.lookup.1) c.in-Struct.is
    (sym (c.in-Some-field_place.ensures env h))
    (found_at _ _ _ _ c.as_slice-2.ensures c.in-Some-get.ensures.lookup.3.0 c.in-Some-get.ensures.lookup.1)

pub returns-in-None : goal.returns-in-None
returns-in-None c = λ env v h k.
    held_part_past v c.args.self.now c.args.stored c.in-Parts.i c.in-Some.parts.now _ c.in-Some-field_place.place
    (λ y. fields_in (env y)) c.args.field.now k c.in-Parts.is
    (found_at _ _ _ _ c.as_slice.ensures c.in-Some.ensures.lookup.3.0 c.in-Some.ensures.lookup.1) c.in-Struct.is
    (sym (c.in-Some-field_place.ensures env h))
    (subst (λ xs. length xs ≤ c.in-Some-field_place.place) c.as_slice-2.ensures c.in-None.ensures.lookup.3)
