-- Names in a set that is ordered by their bytes.
use Rattle.std.proofs.Common.{◌≡◌, ℕ, Bool, true, false, List, [], ◌∷◌, refl, ap, sym, ◌∙◌}
use Rattle.std.specs.Prelude.{◌||◌, Vec}
use Rattle.std.specs.BTreeSet.{insert_key}
use Rattle.std.specs.Cmp.Lexicographic.{slice_cmp}
use Rattle.std.specs.List.{list_any}
use Rattle.std.specs.Ordering.{is_eq, match_ordering, nat_cmp}
use Rattle.std.specs.Str.{bytes_eq}
use Rattle.std.specs.declared.alloc.Global.{Global}
use Rattle.std.specs.declared.cmp.Ordering.{Ordering}
use Rattle.std.specs.declared.cmp.Ordering.TheVariants.{Less, Equal, Greater}
use Rattle.std.proofs.lemmas.Map.Text.{is_eq-slice_cmp}
use Rattle.std.proofs.lemmas.Slice.Eq.{bytes_eq-Decides}

-- a name is found by the order exactly where an equal one is there
pub found_by_order : (bytes : List ℕ) (keys : List (Vec ℕ Global)) →
    list_any (λ k. is_eq (slice_cmp nat_cmp bytes k.items)) keys ≡ list_any (λ k. bytes_eq bytes k.items) keys
found_by_order bytes [] = refl
found_by_order bytes (k ∷ keys) =
    ap (λ b. b || list_any (λ k. is_eq (slice_cmp nat_cmp bytes k.items)) keys) (is_eq-slice_cmp bytes k.items)
    ∙ ap (λ b. bytes_eq bytes k.items || b) (found_by_order bytes keys)

-- a name more
pub put_in_order : (bytes : List ℕ) (key : Vec ℕ Global) (keys : List (Vec ℕ Global)) →
    list_any (λ k. bytes_eq bytes k.items) (insert_key (λ a b. slice_cmp nat_cmp a.items b.items) keys key)
    ≡ (bytes_eq bytes key.items || list_any (λ k. bytes_eq bytes k.items) keys)
put_in_order bytes key [] = refl
put_in_order bytes key (k ∷ keys) = here (put_in_order bytes key keys) (slice_cmp nat_cmp key.items k.items) refl
  where
    rest : Bool
    rest = list_any (λ k. bytes_eq bytes k.items) keys

    twice : (b : Bool) → (b || rest) ≡ (b || (b || rest))
    twice true = refl
    twice false = refl

    later : (a b : Bool) → (b || (a || rest)) ≡ (a || (b || rest))
    later true true = refl
    later true false = refl
    later false b = refl

    more : List (Vec ℕ Global)
    more = insert_key (λ a b. slice_cmp nat_cmp a.items b.items) keys key

    here : list_any (λ k. bytes_eq bytes k.items) more ≡ (bytes_eq bytes key.items || rest) → (o : Ordering) → slice_cmp nat_cmp key.items k.items ≡ o →
        list_any (λ k. bytes_eq bytes k.items) (match_ordering o (key ∷ k ∷ keys) (k ∷ keys) (k ∷ more))
        ≡ (bytes_eq bytes key.items || (bytes_eq bytes k.items || rest))
    here h Less e = refl
    here h Equal e =
        let same : key.items ≡ k.items = (bytes_eq-Decides key.items k.items).0 (sym (is_eq-slice_cmp key.items k.items) ∙ ap is_eq e) in
        twice (bytes_eq bytes k.items) ∙ ap (λ (bs : List ℕ). bytes_eq bytes bs || (bytes_eq bytes k.items || rest)) (sym same)
    here h Greater e = ap (λ b. bytes_eq bytes k.items || b) h ∙ later (bytes_eq bytes key.items) (bytes_eq bytes k.items)
