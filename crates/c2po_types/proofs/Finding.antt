-- Names that are found at their places.

use Rattle.std.proofs.Common.{◌≡◌, ℕ, true, Some, None, List, [], ◌∷◌, ◌++◌, slice_get, option_map, if◌then◌else◌, inl, inr, ◌⊎◌, ◌<◌, length, refl, sym, subst, ap, ◌∙◌}
use Rattle.std.specs.Str.{bytes_eq}
use Rattle.std.proofs.lemmas.Option.{slice_get_within}
use Rattle.std.proofs.lemmas.Slice.Eq.{bytes_eq-Decides}
use Rattle.mltl_base.specs.Tables.{entry_of}
use Rattle.c2po_ast.proofs.Places.{at_push, get_left, get_last}
use Rattle.c2po_types.proofs.Summarizing.{or_entry, entry_push}
use Rattle.c2po_types.specs.declared.meanings.Numbered.{Numbered}
use Rattle.c2po_types.specs.Meanings.{ArePlaced}

-- no names are in any table
pub none_placed : {V : Type 0} (table : List (List ℕ × V)) → ArePlaced [] table
none_placed table = record { means = λ i n h. absurd (cc) }

-- a name that is found is in the table
pub found_within : {V : Type 0} (names : List Numbered) (table : List (List ℕ × V)) (i : ℕ) (n : Numbered) → ArePlaced names table →
    slice_get names i ≡ Some n → n.number < length table
found_within names table i n h at =
    let has = h.means i n at in
    slice_get_within table n.number (n.name, has.0) has.1

-- it means what it has there
pub found_means : {V : Type 0} (names : List Numbered) (table : List (List ℕ × V)) (i : ℕ) (n : Numbered) (x : List ℕ) (d : V) → ArePlaced names table →
    slice_get names i ≡ Some n → bytes_eq n.name x ≡ true → option_map (λ (e : List ℕ × V). e.1) (slice_get table n.number) ≡ Some d → entry_of x table ≡ Some d
found_means {V} names table i n x d h at same is =
    let has = h.means i n at in
    subst (λ y. entry_of y table ≡ Some d) ((bytes_eq-Decides n.name x).0 same)
    (has.2 ∙ (sym (ap (option_map (λ (e : List ℕ × V). e.1)) has.1) ∙ is))

same_bytes : (x : List ℕ) → bytes_eq x x ≡ true
same_bytes x = (bytes_eq-Decides x x).1 refl

-- the meaning of the name that a table has more, where it wasn't there
last_entry : {V : Type 0} (table : List (List ℕ × V)) (x : List ℕ) (d : V) → entry_of x table ≡ None → entry_of x (table ++ (x, d) ∷ []) ≡ Some d
unfolding or_entry
last_entry table x d none =
    entry_push x x d table ∙ (ap (λ o. or_entry o (if bytes_eq x x then Some d else None)) none
    ∙ ap (λ b. if b then Some d else None) (same_bytes x))

-- the meaning of another name stays
other_entry : {V : Type 0} (table : List (List ℕ × V)) (x y : List ℕ) (d e : V) → entry_of y table ≡ Some e → entry_of y (table ++ (x, d) ∷ []) ≡ Some e
unfolding or_entry
other_entry table x y d e is =
    entry_push y x d table ∙ ap (λ o. or_entry o (if bytes_eq y x then Some d else None)) is

-- a table and its names have one more
pub placed_more : {V : Type 0} (names all : List Numbered) (table new : List (List ℕ × V)) (x : List ℕ) (d : V) → ArePlaced names table →
    entry_of x table ≡ None → new ≡ table ++ (x, d) ∷ [] → all ≡ names ++ record { name = x; number = length table } ∷ [] → ArePlaced all new
placed_more {V} names all table new x d h none same longer = subst (ArePlaced all) (sym same) (record {
  means = λ i n at. by n (at_push names (record { name = x; number = length table }) i n (subst (λ ns. slice_get ns i ≡ Some n) longer at));
})
  where
    Means : Numbered → Type 0
    Means n = (e : V) × (slice_get (table ++ (x, d) ∷ []) n.number ≡ Some (n.name, e)) × (entry_of n.name (table ++ (x, d) ∷ []) ≡ Some e)

    by : {i : ℕ} (n : Numbered) → ((i < length names) × (slice_get names i ≡ Some n)) ⊎ ((i ≡ length names) × (record { name = x; number = length table } ≡ n)) → Means n
    by {i} n (inl k) =
        let has = h.means i n k.1 in
        (has.0, get_left table ((x, d) ∷ []) n.number (n.name, has.0) has.1, other_entry table x n.name d has.0 has.2)
    by {i} n (inr k) = subst Means k.1 (d, get_last table (x, d), last_entry table x d none)
