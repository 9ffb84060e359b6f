use Rattle.std.proofs.Common.{◌≡◌, ◌++◌, ◌∷◌, [], List, ℕ, Some, slice_get, take, length, sym, subst, ap, ◌∙◌, arith}
use Rattle.std.proofs.lemmas.List.{length-take-le}
use Rattle.std.proofs.lemmas.Option.{slice_get_within}
use Rattle.c2po_types.specs.Fields.{ArePlaces}
use Rattle.c2po_types.proofs.Members.{found_at}
use Rattle.c2po_types.proofs.Placing.{places_new, places_known, first_names}
use Rattle.c2po_types.proofs.fields.Fields.of.Goals as goal
use Rattle.c2po_types.proofs.fields.Fields.of.Goals.{then-not-contains+in_ok-add, else-not-contains}

pub loop-i-preserved : goal.loop-i-preserved
loop-i-preserved c =
    let xs = c.args.names in
    let i = c.loop-i.i in
    let x = c.index-as_slice-i.result in
    let at : slice_get xs i ≡ Some x = found_at _ _ _ _ c.as_slice.ensures (omega (arith, c.loop-i-test.true, ap length c.as_slice.ensures)) c.index-as_slice-i.is in
    let inside : length (take i xs) ≡ i = length-take-le i xs (omega (arith, slice_get_within xs i x at)) in
    subst (λ (ns : List (List ℕ)). ArePlaces c.if-not-contains.places ns) (sym (first_names xs i x at))
    (elim c.if-not-contains.branch [
      | then-not-contains+in_ok-add w ↦
          subst (λ (t : List (List ℕ × ℕ)). ArePlaces t (take i xs ++ x ∷ [])) (sym w.places-is)
          (places_new c.loop-i.places _ (take i xs) x c.in_ok-place.place c.loop-i.invariant w.in_ok-add.ensures.added
          (c.in_ok-place.ensures ∙ sym inside))
      | else-not-contains w ↦
          subst (λ (t : List (List ℕ × ℕ)). ArePlaces t (take i xs ++ x ∷ [])) (sym w.places-is)
          (places_known c.loop-i.places (take i xs) x c.loop-i.invariant (sym c.contains.ensures ∙ w.if-not-contains.false))
    ])
