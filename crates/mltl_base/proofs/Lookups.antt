-- Entries of a table by their numbers.

use Rattle.std.proofs.Common.{◌≡◌, ◌<◌, ◌≤◌, ◌+◌, ◌-◌, ◌==◌, ℕ, zero, suc, Bool, true, false, List, [], ◌∷◌, ◌++◌, length, Vec, Option, None, Some, is_some, option_map, slice_get, cond, refl, ap, subst, sym, ◌∙◌, arith}
use Rattle.std.specs.BTreeMap.{insert_entry}
use Rattle.std.specs.Cmp.Lexicographic.{slice_cmp}
use Rattle.std.specs.Map.{lookup}
use Rattle.std.specs.Ordering.{is_eq, match_ordering, nat_cmp}
use Rattle.std.specs.Str.{bytes_eq}
use Rattle.std.specs.declared.cmp.Ordering.{Ordering}
use Rattle.std.specs.declared.cmp.Ordering.TheVariants.{Less, Equal, Greater}
use Rattle.std.proofs.lemmas.Bool.{eq-eqb, ne_eqb}
use Rattle.std.proofs.lemmas.List.{length_push}
use Rattle.std.proofs.lemmas.Map.Text.{is_eq-slice_cmp}
use Rattle.std.proofs.lemmas.Slice.Eq.{bytes_eq-Decides}
use Rattle.mltl_base.specs.Entries.{AreBelow, AreNumbered, entries_from, entry_name, entry_number}
use Rattle.mltl_base.specs.Tables.{Table, entry_of}

-- the order of names finds what equality finds
pub found_by_order : {A : Type 0} (name : List ℕ) (numbers : List (Vec ℕ A × ℕ)) →
    lookup (λ key. is_eq (slice_cmp nat_cmp name key.items)) numbers ≡ lookup (λ key. bytes_eq name key.items) numbers
found_by_order name [] = refl
found_by_order name (e ∷ numbers) =
    ap (λ b. cond b (Some e.1) (lookup (λ key. is_eq (slice_cmp nat_cmp name key.items)) numbers)) (is_eq-slice_cmp name e.0.items)
    ∙ ap (cond (bytes_eq name e.0.items) (Some e.1)) (found_by_order name numbers)

-- an entry by its number, among those from number m on
at_number : {V : Type 0} (name : List ℕ) (m n : ℕ) (entries : Table V) → entry_number name m entries ≡ Some n →
    (m ≤ n) × (entry_of name entries ≡ option_map (λ (e : List ℕ × V). e.1) (slice_get entries (n - m)))
at_number name m n [] h = cc
at_number {V} name m n (e ∷ entries) h = here (bytes_eq name e.0) (at_number name (m + 1) n entries) h
  where
    here : (b : Bool) →
        (entry_number name (m + 1) entries ≡ Some n → (m + 1 ≤ n) × (entry_of name entries ≡ option_map (λ (e : List ℕ × V). e.1) (slice_get entries (n - (m + 1))))) →
        cond b (Some m) (entry_number name (m + 1) entries) ≡ Some n →
        (m ≤ n) × (cond b (Some e.1) (entry_of name entries) ≡ option_map (λ (e : List ℕ × V). e.1) (slice_get (e ∷ entries) (n - m)))
    here true rest h =
        let same : m ≡ n = cc in
        let none : n - m ≡ 0 = omega arith in
        (omega arith, ap (λ k. option_map (λ (e : List ℕ × V). e.1) (slice_get (e ∷ entries) k)) (sym none))
    here false rest h =
        let p = rest h in
        let above : m + 1 ≤ n = p.0 in
        let next : suc (n - (m + 1)) ≡ n - m = omega arith in
        (omega arith, p.1 ∙ ap (λ k. option_map (λ (e : List ℕ × V). e.1) (slice_get (e ∷ entries) k)) next)

pub no_number : {V : Type 0} (name : List ℕ) (m : ℕ) (entries : Table V) → is_some (entry_number name m entries) ≡ is_some (entry_of name entries)
no_number name m [] = refl
no_number {V} name m (e ∷ entries) = here (bytes_eq name e.0) (no_number name (m + 1) entries)
  where
    here : (b : Bool) → is_some (entry_number name (m + 1) entries) ≡ is_some (entry_of name entries) →
        is_some (cond b (Some m) (entry_number name (m + 1) entries)) ≡ is_some (cond b (Some e.1) (entry_of name entries))
    here true rest = refl
    here false rest = rest

none_there : {X : Type 0} (o : Option X) → is_some o ≡ false → o ≡ None
none_there None h = refl
none_there (Some x) h = cc

pub length-entries : {A V : Type 0} (m : ℕ) (numbers : List (Vec ℕ A × ℕ)) (values : List V) → length (entries_from m numbers values) ≡ length values
length-entries m numbers [] = refl
length-entries m numbers (v ∷ values) = ap suc (length-entries (m + 1) numbers values)

pub entry_value : {A V : Type 0} (m : ℕ) (numbers : List (Vec ℕ A × ℕ)) (values : List V) (n : ℕ) →
    option_map (λ (e : List ℕ × V). e.1) (slice_get (entries_from m numbers values) n) ≡ slice_get values n
entry_value m numbers [] n = refl
entry_value m numbers (v ∷ values) zero = refl
entry_value m numbers (v ∷ values) (suc n) = entry_value (m + 1) numbers values n

-- a name that was found by its number
pub found_value : {A V : Type 0} (name : List ℕ) (numbers : List (Vec ℕ A × ℕ)) (values : List V) (n : ℕ) → AreNumbered numbers values →
    lookup (λ key. bytes_eq name key.items) numbers ≡ Some n → slice_get values n ≡ entry_of name (entries_from 0 numbers values)
found_value name numbers values n known h =
    let p = at_number name 0 n (entries_from 0 numbers values) (sym (known.found name) ∙ h) in
    let whole : n - 0 ≡ n = omega arith in
    sym (p.1 ∙ (ap (λ k. option_map (λ e. e.1) (slice_get (entries_from 0 numbers values) k)) whole ∙ entry_value 0 numbers values n))

below_found : {A : Type 0} (test : Vec ℕ A → Bool) (n m : ℕ) (numbers : List (Vec ℕ A × ℕ)) → AreBelow n numbers → lookup test numbers ≡ Some m → m < n
below_found test n m [] h e = cc
below_found test n m (d ∷ numbers) h e = here (test d.0) (below_found test n m numbers h.1) e
  where
    here : (b : Bool) → (lookup test numbers ≡ Some m → m < n) → cond b (Some d.1) (lookup test numbers) ≡ Some m → m < n
    here true rest e = let l : d.1 < n = h.0 in let same : d.1 ≡ m = cc in omega arith
    here false rest e = rest e

pub found_within : {A V : Type 0} (name : List ℕ) (numbers : List (Vec ℕ A × ℕ)) (values : List V) (n : ℕ) → AreNumbered numbers values →
    lookup (λ key. bytes_eq name key.items) numbers ≡ Some n → n < length values
found_within name numbers values n known h = below_found (λ key. bytes_eq name key.items) (length values) n numbers known.below h

pub missing : {A V : Type 0} (name : List ℕ) (numbers : List (Vec ℕ A × ℕ)) (values : List V) → AreNumbered numbers values →
    lookup (λ key. bytes_eq name key.items) numbers ≡ None → entry_of name (entries_from 0 numbers values) ≡ None
missing name numbers values known h =
    none_there (entry_of name (entries_from 0 numbers values)) (sym (no_number name 0 (entries_from 0 numbers values)) ∙ ap is_some (sym (known.found name) ∙ h))

pub is_found : {A V : Type 0} (name : List ℕ) (numbers : List (Vec ℕ A × ℕ)) (values : List V) → AreNumbered numbers values →
    is_some (lookup (λ key. bytes_eq name key.items) numbers) ≡ is_some (entry_of name (entries_from 0 numbers values))
is_found name numbers values known = ap is_some (known.found name) ∙ no_number name 0 (entries_from 0 numbers values)

pub not_found : {A V : Type 0} (name : List ℕ) (numbers : List (Vec ℕ A × ℕ)) (values : List V) → AreNumbered numbers values →
    entry_of name (entries_from 0 numbers values) ≡ None → lookup (λ key. bytes_eq name key.items) numbers ≡ None
not_found name numbers values known h =
    none_there (lookup (λ key. bytes_eq name key.items) numbers) (is_found name numbers values known ∙ ap is_some h)

-- one more value
values_more : {A V : Type 0} (m : ℕ) (numbers : List (Vec ℕ A × ℕ)) (values : List V) (v : V) →
    entries_from m numbers (values ++ v ∷ []) ≡ entries_from m numbers values ++ (entry_name (m + length values) numbers, v) ∷ []
values_more m numbers [] v = let e : m ≡ m + 0 = omega arith in ap (λ (n : ℕ). (entry_name n numbers, v) ∷ []) e
values_more m numbers (w ∷ values) v =
    let e : m + 1 + length values ≡ m + suc (length values) = omega arith in
    ap (λ es. (entry_name m numbers, w) ∷ es) (values_more (m + 1) numbers values v ∙ ap (λ (n : ℕ). entries_from (m + 1) numbers values ++ (entry_name n numbers, v) ∷ []) e)

-- other names for the same numbers
values_same : {A V : Type 0} (m : ℕ) (old new : List (Vec ℕ A × ℕ)) (values : List V) → ((n : ℕ) → n < m + length values → entry_name n new ≡ entry_name n old) →
    entries_from m new values ≡ entries_from m old values
values_same m old new [] same = refl
values_same m old new (v ∷ values) same =
    let rest = values_same (m + 1) old new values (λ n l. same n (omega arith)) in
    ap (λ (x : List ℕ). (x, v) ∷ entries_from (m + 1) new values) (same m (omega arith)) ∙ ap (λ es. (entry_name m old, v) ∷ es) rest

number_more : {V : Type 0} (name : List ℕ) (m : ℕ) (entries : Table V) (e : List ℕ × V) →
    entry_number name m (entries ++ e ∷ []) ≡ cond (is_some (entry_number name m entries)) (entry_number name m entries) (cond (bytes_eq name e.0) (Some (m + length entries)) None)
number_more name m [] e = let same : m ≡ m + 0 = omega arith in ap (λ (n : ℕ). cond (bytes_eq name e.0) (Some n) None) same
number_more {V} name m (d ∷ entries) e = here (bytes_eq name d.0) (number_more name (m + 1) entries e)
  where
    here : (b : Bool) →
        entry_number name (m + 1) (entries ++ e ∷ []) ≡ cond (is_some (entry_number name (m + 1) entries)) (entry_number name (m + 1) entries) (cond (bytes_eq name e.0) (Some (m + 1 + length entries)) None) →
        cond b (Some m) (entry_number name (m + 1) (entries ++ e ∷ []))
        ≡ cond (is_some (cond b (Some m) (entry_number name (m + 1) entries))) (cond b (Some m) (entry_number name (m + 1) entries)) (cond (bytes_eq name e.0) (Some (m + suc (length entries))) None)
    here true rest = refl
    here false rest =
        let same : m + 1 + length entries ≡ m + suc (length entries) = omega arith in
        rest ∙ ap (λ (n : ℕ). cond (is_some (entry_number name (m + 1) entries)) (entry_number name (m + 1) entries) (cond (bytes_eq name e.0) (Some n) None)) same

-- the numbers after a new name got one that is past theirs
module _ {A : Type 0} (key : Vec ℕ A) (n : ℕ) where
  abbrev put : List (Vec ℕ A × ℕ) → List (Vec ℕ A × ℕ)
  put numbers = insert_entry (λ a b. slice_cmp nat_cmp a.items b.items) numbers key n

  same_key : (k : Vec ℕ A) → slice_cmp nat_cmp key.items k.items ≡ Equal → bytes_eq key.items k.items ≡ true
  same_key k e = sym (is_eq-slice_cmp key.items k.items) ∙ ap is_eq e

  -- the name isn't that of the first entry, nor of one after it
  not_first : (e : Vec ℕ A × ℕ) (numbers : List (Vec ℕ A × ℕ)) → lookup (λ k. bytes_eq key.items k.items) (e ∷ numbers) ≡ None →
      (bytes_eq key.items e.0.items ≡ false) × (lookup (λ k. bytes_eq key.items k.items) numbers ≡ None)
  not_first e numbers h = go (bytes_eq key.items e.0.items) h
    where
      go : (b : Bool) → cond b (Some e.1) (lookup (λ k. bytes_eq key.items k.items) numbers) ≡ None → (b ≡ false) × (lookup (λ k. bytes_eq key.items k.items) numbers ≡ None)
      go true h = cc
      go false h = (refl, h)

  no_equal : (k : Vec ℕ A) → bytes_eq key.items k.items ≡ false → slice_cmp nat_cmp key.items k.items ≡ Equal → ⊥
  no_equal k h e = let yes = same_key k e in cc

  put_below : (numbers : List (Vec ℕ A × ℕ)) → AreBelow n numbers → AreBelow (n + 1) (put numbers)
  put_below [] h = (omega arith, tt)
  put_below (e ∷ numbers) h = here (put_below numbers h.1) (wider (e ∷ numbers) h) (slice_cmp nat_cmp key.items e.0.items)
    where
      wider : (ns : List (Vec ℕ A × ℕ)) → AreBelow n ns → AreBelow (n + 1) ns
      wider [] h = tt
      wider (e ∷ ns) h = let l : e.1 < n = h.0 in (omega arith, wider ns h.1)

      here : AreBelow (n + 1) (put numbers) → AreBelow (n + 1) (e ∷ numbers) → (o : Ordering) →
          AreBelow (n + 1) (match_ordering o ((key, n) ∷ e ∷ numbers) ((e.0, n) ∷ numbers) (e ∷ put numbers))
      here rest all Less = (omega arith, all)
      here rest all Equal = (omega arith, all.1)
      here rest all Greater = (all.0, rest)

  put_name : (numbers : List (Vec ℕ A × ℕ)) → AreBelow n numbers → lookup (λ k. bytes_eq key.items k.items) numbers ≡ None → entry_name n (put numbers) ≡ key.items
  put_name [] h none = ap (λ b. cond b key.items []) (eq-eqb n n refl)
  put_name (e ∷ numbers) h none =
      let absent = not_first e numbers none in
      here (put_name numbers h.1 absent.1) (no_equal e.0 absent.0) (slice_cmp nat_cmp key.items e.0.items) refl
    where
      here : entry_name n (put numbers) ≡ key.items → (slice_cmp nat_cmp key.items e.0.items ≡ Equal → ⊥) → (o : Ordering) → slice_cmp nat_cmp key.items e.0.items ≡ o →
          entry_name n (match_ordering o ((key, n) ∷ e ∷ numbers) ((e.0, n) ∷ numbers) (e ∷ put numbers)) ≡ key.items
      here rest other Less is = ap (λ b. cond b key.items (entry_name n (e ∷ numbers))) (eq-eqb n n refl)
      here rest other Equal is = absurd (other is)
      here rest other Greater is =
          let l : e.1 < n = h.0 in
          let no : (e.1 == n) ≡ false = ne_eqb e.1 n (λ s. omega arith) in
          ap (λ b. cond b e.0.items (entry_name n (put numbers))) no ∙ rest

  put_others : (numbers : List (Vec ℕ A × ℕ)) (m : ℕ) → m < n → lookup (λ k. bytes_eq key.items k.items) numbers ≡ None → entry_name m (put numbers) ≡ entry_name m numbers
  put_others [] m l none = let no : (n == m) ≡ false = ne_eqb n m (λ s. omega arith) in ap (λ b. cond b key.items []) no
  put_others (e ∷ numbers) m l none =
      let absent = not_first e numbers none in
      here (put_others numbers m l absent.1) (no_equal e.0 absent.0) (slice_cmp nat_cmp key.items e.0.items) refl
    where
      here : entry_name m (put numbers) ≡ entry_name m numbers → (slice_cmp nat_cmp key.items e.0.items ≡ Equal → ⊥) → (o : Ordering) → slice_cmp nat_cmp key.items e.0.items ≡ o →
          entry_name m (match_ordering o ((key, n) ∷ e ∷ numbers) ((e.0, n) ∷ numbers) (e ∷ put numbers)) ≡ entry_name m (e ∷ numbers)
      here rest other Less is = let no : (n == m) ≡ false = ne_eqb n m (λ s. omega arith) in ap (λ b. cond b key.items (entry_name m (e ∷ numbers))) no
      here rest other Equal is = absurd (other is)
      here rest other Greater is = ap (cond (e.1 == m) e.0.items) rest

  put_found : (name : List ℕ) (numbers : List (Vec ℕ A × ℕ)) → lookup (λ k. bytes_eq key.items k.items) numbers ≡ None →
      lookup (λ k. bytes_eq name k.items) (put numbers) ≡ cond (bytes_eq name key.items) (Some n) (lookup (λ k. bytes_eq name k.items) numbers)
  put_found name [] none = refl
  put_found name (e ∷ numbers) none =
      let absent = not_first e numbers none in
      here (put_found name numbers absent.1) absent.0 (slice_cmp nat_cmp key.items e.0.items) refl
    where
      later : bytes_eq key.items e.0.items ≡ false → (a b : Bool) → bytes_eq name e.0.items ≡ a → bytes_eq name key.items ≡ b →
          cond a (Some e.1) (cond b (Some n) (lookup (λ k. bytes_eq name k.items) numbers)) ≡ cond b (Some n) (cond a (Some e.1) (lookup (λ k. bytes_eq name k.items) numbers))
      later other true true p q = absurd (
          let first : name ≡ e.0.items = (bytes_eq-Decides name e.0.items).0 p in
          let second : name ≡ key.items = (bytes_eq-Decides name key.items).0 q in
          let both : bytes_eq key.items e.0.items ≡ true = (bytes_eq-Decides key.items e.0.items).1 (sym second ∙ first) in cc
          )
      later other true false p q = refl
      later other false b p q = refl

      here : lookup (λ k. bytes_eq name k.items) (put numbers) ≡ cond (bytes_eq name key.items) (Some n) (lookup (λ k. bytes_eq name k.items) numbers) →
          bytes_eq key.items e.0.items ≡ false → (o : Ordering) → slice_cmp nat_cmp key.items e.0.items ≡ o →
          lookup (λ k. bytes_eq name k.items) (match_ordering o ((key, n) ∷ e ∷ numbers) ((e.0, n) ∷ numbers) (e ∷ put numbers))
          ≡ cond (bytes_eq name key.items) (Some n) (lookup (λ k. bytes_eq name k.items) (e ∷ numbers))
      here rest other Less is = refl
      here rest other Equal is = absurd (no_equal e.0 other is)
      here rest other Greater is = ap (cond (bytes_eq name e.0.items) (Some e.1)) rest ∙ later other (bytes_eq name e.0.items) (bytes_eq name key.items) refl refl

-- a table after a new name
module _ {A V : Type 0} (key : Vec ℕ A) (v : V) (numbers : List (Vec ℕ A × ℕ)) (values : List V) (known : AreNumbered numbers values)
    (none : lookup (λ k. bytes_eq key.items k.items) numbers ≡ None) where
  abbrev pub put_last : List (Vec ℕ A × ℕ)
  put_last = insert_entry (λ a b. slice_cmp nat_cmp a.items b.items) numbers key (length values)

  pub entries_more : entries_from 0 put_last (values ++ v ∷ []) ≡ entries_from 0 numbers values ++ (key.items, v) ∷ []
  entries_more =
      let whole : 0 + length values ≡ length values = omega arith in
      values_more 0 put_last values v
      ∙ (ap (λ (n : ℕ). entries_from 0 put_last values ++ (entry_name n put_last, v) ∷ []) whole
      ∙ (ap (λ es. es ++ (entry_name (length values) put_last, v) ∷ []) (values_same 0 numbers put_last values (λ n l. put_others key (length values) numbers n (omega arith) none))
      ∙ ap (λ (x : List ℕ). entries_from 0 numbers values ++ (x, v) ∷ []) (put_name key (length values) numbers known.below none)))

  pub numbered_more : AreNumbered put_last (values ++ v ∷ [])
  numbered_more = record {
    below = subst (λ n. AreBelow n put_last) (sym (length_push values v)) (put_below key (length values) numbers known.below);
    found = λ name. put_found key (length values) name numbers none ∙ (ap (cond (bytes_eq name key.items) (Some (length values))) (known.found name)
        ∙ (turned name (bytes_eq name key.items) refl ∙ (sym (number_more name 0 (entries_from 0 numbers values) (key.items, v)) ∙ ap (entry_number name 0) (sym entries_more))));
  }
    where
      turned : (name : List ℕ) (b : Bool) → bytes_eq name key.items ≡ b →
          cond b (Some (length values)) (entry_number name 0 (entries_from 0 numbers values))
          ≡ cond (is_some (entry_number name 0 (entries_from 0 numbers values))) (entry_number name 0 (entries_from 0 numbers values)) (cond b (Some (0 + length (entries_from 0 numbers values))) None)
      turned name true e =
          let same : name ≡ key.items = (bytes_eq-Decides name key.items).0 e in
          let absent : entry_number name 0 (entries_from 0 numbers values) ≡ None = sym (known.found name) ∙ (ap (λ (x : List ℕ). lookup (λ k. bytes_eq x k.items) numbers) same ∙ none) in
          let size : length values ≡ 0 + length (entries_from 0 numbers values) = omega (arith, length-entries 0 numbers values) in
          ap Some size ∙ ap (λ o. cond (is_some o) o (Some (0 + length (entries_from 0 numbers values)))) (sym absent)
      turned name false e = other (entry_number name 0 (entries_from 0 numbers values))
        where
          other : (o : Option ℕ) → o ≡ cond (is_some o) o None
          other None = refl
          other (Some n) = refl
