-- The parts of a file: what is read is spelled so, and what is spelled so is read.
use Rattle.std.proofs.Common.{◌≡◌, ℕ, zero, suc, ◌*◌, ◌-◌, ◌≤◌, Bool, true, false, cond, eqb, List, [], ◌∷◌, ◌++◌, length, take, drop, map, Option, Some, None, Result, Ok, Err, refl, sym, ap, subst, ◌∙◌, append_assoc, arith}
use Rattle.std.specs.Prelude.{◌&&◌, nat_le}
use Rattle.std.specs.Int.{is_in_range}
use Rattle.std.specs.List.{flat_map, AllByRecursion, list_all}
use Rattle.std.proofs.lemmas.Bool.{eqb-true, and_parts}
use Rattle.std.proofs.lemmas.List.{nil_from_length, take-append-drop, take_at, drop_at, length-append, length-take}
use Rattle.std.proofs.lemmas.List.Folds.{list_all-append}
use Rattle.obs_binary.specs.declared.fault.ReadFault.{ReadFault}
use Rattle.mltl_base.specs.Letters.{is_in_word}
use Rattle.obs_binary.specs.Layout.{FitsName}
use Rattle.obs_binary.specs.Reading.{◌>>=◌, first_other, unless_other, as_spelled, entry_at, each_at, named, is_name_in_front}
use Rattle.obs_binary.proofs.Numbers.{IsBytes, IsBytes-drop, IsBytes-take}
use Rattle.obs_binary.proofs.Entries.{AreEntries}

-- the value of a step that didn't fail
pub bind_ok : {A B : Type 0} (r : Result A ReadFault) (f : A → Result B ReadFault) (y : B) → (r >>= f) ≡ Ok y → (x : A) × (r ≡ Ok x) × (f x ≡ Ok y)
bind_ok (Ok x) f y e = (x, refl, e)
bind_ok (Err d) f y e = absurd cc

abbrev done : {A : Type 0} → A → Result A ReadFault
done x = Ok x

pub ok_is : {A : Type 0} (x y : A) → done x ≡ done y → x ≡ y
ok_is x y e = cc

-- ---- one entry

eqb-refl : (a : ℕ) → eqb a a ≡ true
eqb-refl a = grind arith

pub first_other-none : (offset : ℕ) (musts : List ℕ) → first_other offset musts musts ≡ None
unfolding first_other
first_other-none offset [] = refl
first_other-none offset (m ∷ ms) = rw (eqb-refl m) (first_other-none (suc offset) ms)

first_step : (b : Bool) (rest : Option ℕ) (offset : ℕ) → cond b rest (Some offset) ≡ None → (b ≡ true) × (rest ≡ None)
first_step true rest offset e = (refl, e)
first_step false rest offset e = absurd cc

-- bytes that are nowhere other than they must be are what they must be
pub same-from_none : (offset : ℕ) (musts bytes : List ℕ) → length bytes ≤ length musts → first_other offset musts bytes ≡ None → bytes ≡ musts
unfolding first_other
same-from_none offset [] [] le e = refl
same-from_none offset [] (b ∷ bytes) le e = absurd (omega arith)
same-from_none offset (m ∷ musts) [] le e = absurd cc
same-from_none offset (m ∷ musts) (b ∷ bytes) le e =
    let step = first_step (eqb b m) (first_other (suc offset) musts bytes) offset e in
    let same : b ≡ m = eqb-true b m step.0 in
    let rest : bytes ≡ musts = same-from_none (suc offset) musts bytes (omega arith) step.1 in
    cc

unless_ok : {A : Type 0} (o : Option ℕ) (x y : A) → unless_other o x ≡ Ok y → (o ≡ None) × (x ≡ y)
unless_ok None x y e = (refl, ok_is x y e)
unless_ok (Some offset) x y e = absurd cc

module _ {X : Type 0} (len : ℕ) (spelled : X → List ℕ) (content : List ℕ → Option X) (Holds : X → Type 0) (entries : AreEntries len spelled content Holds) (size : ℕ) where
  as_spelled-takes : (offset : ℕ) (bytes : List ℕ) (held : Option X) (y : X × List ℕ) → as_spelled len spelled offset bytes held ≡ Ok y → (held ≡ Some y.0) × (take len bytes ≡ spelled y.0) × (drop len bytes ≡ y.1)
  as_spelled-takes offset bytes None y e = absurd cc
  as_spelled-takes offset bytes (Some x) y e =
      let u = unless_ok (first_other offset (spelled x) (take len bytes)) (x, drop len bytes) y e in
      let same = same-from_none offset (spelled x) (take len bytes) (omega (arith, length-take len bytes, entries.len_is x)) u.0 in
      let x-is : x ≡ y.0 = ap (λ p. p.0) u.1 in
      (ap (λ z. Some z) x-is, same ∙ ap spelled x-is, ap (λ p. p.1) u.1)

  pub entry-takes : (bytes : List ℕ) (y : X × List ℕ) → IsBytes bytes → entry_at len spelled content size bytes ≡ Ok y → (bytes ≡ spelled y.0 ++ y.1) × Holds y.0 × IsBytes y.1
  unfolding entry_at
  entry-takes bytes y fits e =
      let t = as_spelled-takes (size - length bytes) bytes (content (take len bytes)) y e in
      let front : IsBytes (spelled y.0) = subst (λ bs. IsBytes bs) t.1 (IsBytes-take len bytes fits) in
      let says : content (spelled y.0) ≡ Some y.0 = ap content (sym t.1) ∙ t.0 in
      let parts : bytes ≡ spelled y.0 ++ y.1 = rw (← t.1, ← t.2) (sym (take-append-drop len bytes)) in
      (parts, entries.holds y.0 front says, subst (λ bs. IsBytes bs) t.2 (IsBytes-drop len bytes fits))

  pub entry-again : (x : X) (rest : List ℕ) → Holds x → entry_at len spelled content size (spelled x ++ rest) ≡ Ok (x, rest)
  unfolding entry_at
  entry-again x rest h =
      let n = entries.len_is x in
      let front : take len (spelled x ++ rest) ≡ spelled x = take_at (spelled x) rest len n in
      let after : drop len (spelled x ++ rest) ≡ rest = drop_at (spelled x) rest len n in
      rw (front, entries.again x h, front, first_other-none (size - length (spelled x ++ rest)) (spelled x), after) refl

  -- ---- entries one after the other

  pub each-takes : (n : ℕ) (bytes : List ℕ) (y : List X × List ℕ) → IsBytes bytes → each_at (entry_at len spelled content size) n bytes ≡ Ok y
      → (bytes ≡ flat_map spelled y.0 ++ y.1) × (length y.0 ≡ n) × AllByRecursion Holds y.0 × IsBytes y.1
  unfolding each_at
  each-takes zero bytes y fits e =
      subst (λ z. (bytes ≡ flat_map spelled z.0 ++ z.1) × (length z.0 ≡ 0) × AllByRecursion Holds z.0 × IsBytes z.1) (ok_is ([], bytes) y e) (refl, refl, tt, fits)
  each-takes (suc n) bytes y fits e =
      let read = entry_at len spelled content size in
      let a = bind_ok (read bytes) (λ first. each_at read n first.1 >>= λ others. Ok (first.0 ∷ others.0, others.1)) y e in
      let b = bind_ok (each_at read n a.0.1) (λ others. Ok (a.0.0 ∷ others.0, others.1)) y a.2 in
      let first = entry-takes bytes a.0 fits a.1 in
      let others = each-takes n a.0.1 b.0 first.2 b.1 in
      let parts : bytes ≡ flat_map spelled (a.0.0 ∷ b.0.0) ++ b.0.1 =
      first.0 ∙ ap (λ r. spelled a.0.0 ++ r) others.0 ∙ sym (append_assoc (spelled a.0.0) (flat_map spelled b.0.0) b.0.1) in
      subst (λ z. (bytes ≡ flat_map spelled z.0 ++ z.1) × (length z.0 ≡ suc n) × AllByRecursion Holds z.0 × IsBytes z.1) (ok_is (a.0.0 ∷ b.0.0, b.0.1) y b.2)
      (parts, ap suc others.1, (first.1, others.2), others.3)

  pub each-again : (xs : List X) (rest : List ℕ) → AllByRecursion Holds xs → each_at (entry_at len spelled content size) (length xs) (flat_map spelled xs ++ rest) ≡ Ok (xs, rest)
  unfolding each_at
  each-again [] rest h = refl
  each-again (x ∷ xs) rest h =
      let read = entry_at len spelled content size in
      let regrouped : flat_map spelled (x ∷ xs) ++ rest ≡ spelled x ++ (flat_map spelled xs ++ rest) = append_assoc (spelled x) (flat_map spelled xs) rest in
      ap (each_at read (suc (length xs))) regrouped ∙ rw (entry-again x (flat_map spelled xs ++ rest) h.0, each-again xs rest h.1) refl

  pub length-entries : (xs : List X) → length (flat_map spelled xs) ≡ len * length xs
  length-entries [] = omega arith
  length-entries (x ∷ xs) = omega (arith, length-append (spelled x) (flat_map spelled xs), entries.len_is x, length-entries xs)

-- ---- names

pub record AreNamed {H X : Type 0} (len_of : H → ℕ) (with_name : H → List ℕ → X) (head_of : X → H) (name_of : X → List ℕ) (Holds : H → Type 0) (Fits : X → Type 0) : Type 0 where
  pub head : (h : H) (name : List ℕ) → length name ≡ len_of h → head_of (with_name h name) ≡ h
  pub name : (h : H) (name : List ℕ) → name_of (with_name h name) ≡ name
  pub fits : (h : H) (name : List ℕ) → Holds h → FitsName name → Fits (with_name h name)
  pub again : (x : X) → with_name (head_of x) (name_of x) ≡ x
  pub len_is : (x : X) → len_of (head_of x) ≡ length (name_of x)
  pub named : (x : X) → Fits x → FitsName (name_of x)

le-true : (a b : ℕ) → nat_le a b ≡ true → a ≤ b
le-true a b e = grind arith

true-le : (a b : ℕ) → a ≤ b → nat_le a b ≡ true
true-le a b h = grind arith

pub in_front : (len : ℕ) (bytes : List ℕ) → is_name_in_front len bytes ≡ true → (1 ≤ len) × (len ≤ 64) × (len ≤ length bytes) × (list_all is_in_word (take len bytes) ≡ true)
in_front len bytes e =
    let a = and_parts (is_in_range 1 64 len && nat_le len (length bytes)) (list_all is_in_word (take len bytes)) e in
    let b = and_parts (is_in_range 1 64 len) (nat_le len (length bytes)) a.0 in
    let c = and_parts (nat_le 1 len) (nat_le len 64) b.0 in
    (le-true 1 len c.0, le-true len 64 c.1, le-true len (length bytes) b.1, a.1)

pub in_front-again : (name rest : List ℕ) → FitsName name → list_all is_in_word name ≡ true → is_name_in_front (length name) (name ++ rest) ≡ true
in_front-again name rest fits letters =
    let low = true-le 1 (length name) fits.0 in
    let high = true-le (length name) 64 fits.1 in
    let room : nat_le (length name) (length (name ++ rest)) ≡ true = true-le (length name) (length (name ++ rest)) (omega (arith, length-append name rest)) in
    let front : take (length name) (name ++ rest) ≡ name = take_at name rest (length name) refl in
    rw (low, high, room, front, letters) refl

choose_ok : {A : Type 0} (b : Bool) (r : Result A ReadFault) (fault : ReadFault) (y : A) → cond b r (Err fault) ≡ Ok y → (b ≡ true) × (r ≡ Ok y)
choose_ok true r fault y e = (refl, e)
choose_ok false r fault y e = absurd cc

module _ {H X : Type 0} (len_of : H → ℕ) (with_name : H → List ℕ → X) (head_of : X → H) (name_of : X → List ℕ) (Holds : H → Type 0) (Fits : X → Type 0) (laws : AreNamed len_of with_name head_of name_of Holds Fits) (fault : ℕ → ReadFault) where
  pub named-takes : (k : ℕ) (heads : List H) (bytes : List ℕ) (y : List X) → AllByRecursion Holds heads → named len_of with_name fault k heads bytes ≡ Ok y
      → (bytes ≡ flat_map name_of y) × (map head_of y ≡ heads) × AllByRecursion Fits y × (list_all is_in_word bytes ≡ true)
  unfolding named
  named-takes k [] bytes y holds e =
      let c = choose_ok (eqb (length bytes) 0) (Ok []) (fault k) y e in
      let none : bytes ≡ [] = nil_from_length bytes (eqb-true (length bytes) 0 c.0) in
      subst (λ z. (bytes ≡ flat_map name_of z) × (map head_of z ≡ []) × AllByRecursion Fits z × (list_all is_in_word bytes ≡ true)) (ok_is [] y c.1) (none, refl, tt, rw none refl)
  named-takes k (head ∷ heads) bytes y holds e =
      let n = len_of head in
      let c = choose_ok (is_name_in_front n bytes) (named len_of with_name fault (suc k) heads (drop n bytes) >>= λ others. Ok (with_name head (take n bytes) ∷ others)) (fault k) y e in
      let f = in_front n bytes c.0 in
      let a = bind_ok (named len_of with_name fault (suc k) heads (drop n bytes)) (λ others. Ok (with_name head (take n bytes) ∷ others)) y c.1 in
      let others = named-takes (suc k) heads (drop n bytes) a.0 holds.1 a.1 in
      let len : length (take n bytes) ≡ n = omega (arith, length-take n bytes, f.2) in
      let name = laws.name head (take n bytes) in
      let parts : bytes ≡ flat_map name_of (with_name head (take n bytes) ∷ a.0) =
      sym (take-append-drop n bytes) ∙ ap (λ r. take n bytes ++ r) others.0 ∙ ap (λ r. r ++ flat_map name_of a.0) (sym name) in
      let heads_are : map head_of (with_name head (take n bytes) ∷ a.0) ≡ head ∷ heads = rw (laws.head head (take n bytes) len, others.1) refl in
      let letters : list_all is_in_word bytes ≡ true =
      ap (list_all is_in_word) (sym (take-append-drop n bytes)) ∙ list_all-append is_in_word (take n bytes) (drop n bytes) ∙ rw (f.3, others.3) refl in
      subst (λ z. (bytes ≡ flat_map name_of z) × (map head_of z ≡ head ∷ heads) × AllByRecursion Fits z × (list_all is_in_word bytes ≡ true)) (ok_is (with_name head (take n bytes) ∷ a.0) y a.2)
      (parts, heads_are, (laws.fits head (take n bytes) holds.0 (omega (arith, f.0), omega (arith, f.1)), others.2), letters)

  pub named-again : (k : ℕ) (xs : List X) → AllByRecursion Fits xs → list_all is_in_word (flat_map name_of xs) ≡ true → named len_of with_name fault k (map head_of xs) (flat_map name_of xs) ≡ Ok xs
  unfolding named
  named-again k [] fits letters = refl
  named-again k (x ∷ xs) fits letters =
      let name = name_of x in
      let rest = flat_map name_of xs in
      let both = and_parts (list_all is_in_word name) (list_all is_in_word rest) (sym (list_all-append is_in_word name rest) ∙ letters) in
      let front = in_front-again name rest (laws.named x fits.0) both.0 in
      let taken : take (length name) (name ++ rest) ≡ name = take_at name rest (length name) refl in
      let after : drop (length name) (name ++ rest) ≡ rest = drop_at name rest (length name) refl in
      rw (laws.len_is x, front, taken, after, named-again (suc k) xs fits.1 both.1, laws.again x) refl
