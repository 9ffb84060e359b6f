use Rattle.std.proofs.Common.{◌≡◌, ℕ, List, Some, slice_get, refl, subst, ◌∙◌}
use Rattle.c2po_types.specs.Environment.{fields}
use Rattle.c2po_types.proofs.Later.{stands_kept}
use Rattle.c2po_types.proofs.Members.{at_place}
use Rattle.c2po_types.proofs.StoredParts.{structs_push}
use Rattle.c2po_types.proofs.unfolding.Unfolding.add_struct.Goals as goal

pub returns : goal.returns
returns c = λ env h.
    c.in_ok-declare.ensures.stands env (fields c.args.names)
    (stands_kept c.args.self.now (record c.args.self.now { structs = c.push.new.self }) env refl
    (structs_push c.args.self.now c.push.new.self c.in_ok-fields.fields c.in_ok-push.ensures.pushed) h) (
      c.args.names,
      subst (λ (xs : List (List ℕ)). slice_get c.push.new.self c.in_ok-place.place ≡ Some xs) c.in_ok-fields.ensures
          (at_place c.args.self.now.structs c.push.new.self c.in_ok-fields.fields c.in_ok-place.place c.in_ok-push.ensures.pushed (c.in_ok-place.ensures ∙ c.len.ensures)),
      refl,
    )
