-- Names that get one more.

use mathlib.Core.Path.{fun_ext}
use Rattle.std.proofs.Common.{◌≡◌, ℕ, zero, suc, ◌-◌, ◌<◌, ◌≤◌, min, nat_lt, Bool, true, false, Option, Some, None, is_some, List, [], ◌∷◌, ◌++◌, map, length, get_or, slice_get, if◌then◌else◌, inl, inr, ◌⊎◌, refl, sym, ap, subst, ◌∙◌, arith}
use Rattle.std.specs.Str.{bytes_eq}
use Rattle.std.proofs.lemmas.Bool.{cases_lt}
use Rattle.std.proofs.lemmas.Bool.Decides.{nat_tests}
use Rattle.std.proofs.lemmas.List.{length_push}
use Rattle.std.proofs.lemmas.List.Sums.{fold_push}
use Rattle.std.proofs.lemmas.Option.{get_or_from_slice_get, slice_get-get_or}
use Rattle.std.proofs.lemmas.Slice.Eq.{bytes_eq-Decides}
use Rattle.mltl_base.specs.Tables.{Table, entry_of, is_named}
use Rattle.c2po_ast.specs.declared.nodes.Plain.{Plain}
use Rattle.c2po_ast.proofs.Places.{get_left, get_last}
use Rattle.c2po_ast.specs.Shape.{shape}
use Rattle.c2po_ast.specs.ItemShape.{field_shape}
use Rattle.c2po_types.specs.Environment.{Env, Known, nothing, fields, value, no_names, or_else, declare, value_of}
use Rattle.c2po_types.proofs.Summarizing.{or_entry, entry_push}
use Rattle.set_expand.specs.declared.names.Entry.{Entry}
use Rattle.set_expand.specs.declared.names.Entry.TheVariants as entry
use Rattle.set_expand.specs.declared.names.Declared.{Declared}
use Rattle.set_expand.specs.Nodes.{HaveNodes, IsKept, MadeAs}
use Rattle.set_expand.specs.Names.{AreNumbered, EntryBelow, HasFields, IsEarly, SignalsBelow, env_after, env_at, env_last, env_now, env_of, envs_of, meaning, meaning_before, meaning_in, with_name}

below_is : (a b : ℕ) → a < b → nat_lt a b ≡ true
below_is a b h = grind (arith, nat_tests)

below_not : (a b : ℕ) → b ≤ a → nat_lt a b ≡ false
below_not a b h = grind (arith, nat_tests)

-- lists of environments that get one more
env_kept : (envs : List Env) (more : Env) (k : ℕ) → k < length envs → env_at (envs ++ more ∷ []) k ≡ env_at envs k
env_kept envs more k h =
    let before : min k (length envs - 1) ≡ k = omega arith in
    let after : min k (length (envs ++ more ∷ []) - 1) ≡ k = omega (arith, length_push envs more) in
    let there : slice_get envs k ≡ Some (get_or envs k no_names) = slice_get-get_or envs k no_names h in
    ap (λ i. get_or (envs ++ more ∷ []) i no_names) after
    ∙ (get_or_from_slice_get (envs ++ more ∷ []) k (get_or envs k no_names) no_names (get_left envs (more ∷ []) k (get_or envs k no_names) there)
    ∙ ap (λ i. get_or envs i no_names) (sym before))

last_is : (envs : List Env) (more : Env) → get_or (envs ++ more ∷ []) (length envs) no_names ≡ more
last_is envs more = get_or_from_slice_get (envs ++ more ∷ []) (length envs) more no_names (get_last envs more)

last_push : (envs : List Env) (more : Env) → env_last (envs ++ more ∷ []) ≡ more
last_push envs more =
    let at : length (envs ++ more ∷ []) - 1 ≡ length envs = omega (arith, length_push envs more) in
    ap (λ i. get_or (envs ++ more ∷ []) i no_names) at ∙ last_is envs more

env_past : (envs : List Env) (more : Env) (k : ℕ) → length envs ≤ k → env_at (envs ++ more ∷ []) k ≡ more
env_past envs more k h =
    let at : min k (length (envs ++ more ∷ []) - 1) ≡ length envs = omega (arith, length_push envs more) in
    ap (λ i. get_or (envs ++ more ∷ []) i no_names) at ∙ last_is envs more

last_at : (envs : List Env) (m : ℕ) → length envs ≡ suc m → env_at envs m ≡ env_last envs
last_at envs m h =
    let at : min m (length envs - 1) ≡ length envs - 1 = omega arith in
    ap (λ i. get_or envs i no_names) at

-- an entry that sees names before it means the same later
meaning_kept : (envs : List Env) (more : Env) (k : ℕ) (e : Entry) → IsEarly k e → k < length envs → meaning_in (envs ++ more ∷ []) e ≡ meaning_in envs e
meaning_kept envs more k (entry.Struct fs i) early h = refl
meaning_kept envs more k (entry.Signal b n) early h = refl
meaning_kept envs more k (entry.Defined e n made) early h =
    ap (λ env. value (value_of (shape e.now) env)) (env_kept envs more n (omega arith))

-- what an entry means is known
meaning_stays : (envs : List Env) (e : Entry) (k : Known) → or_else (meaning_in envs e) k ≡ meaning_in envs e
meaning_stays envs (entry.Signal true n) k = refl
meaning_stays envs _ k = refl

or_nothing : (k : Known) → or_else k nothing ≡ k
or_nothing nothing = refl
or_nothing (fields xs) = refl
or_nothing (value v) = refl

-- a name as it is found after one more
found_push : (envs : List Env) (more : Env) (m n : ℕ) (y : List ℕ) (o : Option Declared) (b : Bool) (d : Declared)
    → length envs ≡ suc m → d.number ≡ m → ((k : ℕ) → env_at envs k y ≡ meaning_before envs k o)
    → ((e : Declared) → o ≡ Some e → (e.number < m) × IsEarly m e.entry) → IsEarly m d.entry
    → more y ≡ or_else (env_last envs y) (if b then meaning_in envs d.entry else nothing)
    → env_at (envs ++ more ∷ []) n y ≡ meaning_before (envs ++ more ∷ []) n (or_entry o (if b then Some d else None))
unfolding or_entry
found_push envs more m n y (Some e) b d count number found early own is = elim (cases_lt m n) [
  | inl h ↦
      let known = early e refl in
      let same : meaning_in (envs ++ more ∷ []) e.entry ≡ meaning_in envs e.entry = meaning_kept envs more m e.entry known.1 (omega arith) in
      let before : nat_lt e.number m ≡ true = below_is e.number m known.0 in
      let now : nat_lt e.number n ≡ true = below_is e.number n (omega (arith, known.0)) in
      let last : env_last envs y ≡ meaning_in envs e.entry =
      ap (λ env. env y) (sym (last_at envs m count)) ∙ (found m ∙ ap (λ c. if c then meaning_in envs e.entry else nothing) before) in
      ap (λ env. env y) (env_past envs more n (omega arith)) ∙ (is
      ∙ (ap (λ k. or_else k (if b then meaning_in envs d.entry else nothing)) last
      ∙ (meaning_stays envs e.entry (if b then meaning_in envs d.entry else nothing)
      ∙ (sym same ∙ ap (λ c. if c then meaning_in (envs ++ more ∷ []) e.entry else nothing) (sym now)))))
  | inr h ↦
      let known = early e refl in
      let same : meaning_in (envs ++ more ∷ []) e.entry ≡ meaning_in envs e.entry = meaning_kept envs more m e.entry known.1 (omega arith) in
      ap (λ env. env y) (env_kept envs more n (omega arith)) ∙ (found n
      ∙ ap (λ k. if nat_lt e.number n then k else nothing) (sym same))
]
found_push envs more m n y None true d count number found early own is = elim (cases_lt m n) [
  | inl h ↦
      let same : meaning_in (envs ++ more ∷ []) d.entry ≡ meaning_in envs d.entry = meaning_kept envs more m d.entry own (omega arith) in
      let now : nat_lt d.number n ≡ true = below_is d.number n (omega arith) in
      let last : env_last envs y ≡ nothing = ap (λ env. env y) (sym (last_at envs m count)) ∙ found m in
      ap (λ env. env y) (env_past envs more n (omega arith)) ∙ (is
      ∙ (ap (λ k. or_else k (meaning_in envs d.entry)) last
      ∙ (sym same ∙ ap (λ c. if c then meaning_in (envs ++ more ∷ []) d.entry else nothing) (sym now))))
  | inr h ↦
      let now : nat_lt d.number n ≡ false = below_not d.number n (omega arith) in
      ap (λ env. env y) (env_kept envs more n (omega arith)) ∙ (found n
      ∙ ap (λ c. if c then meaning_in (envs ++ more ∷ []) d.entry else nothing) (sym now))
]
found_push envs more m n y None false d count number found early own is = elim (cases_lt m n) [
  | inl h ↦
      let last : env_last envs y ≡ nothing = ap (λ env. env y) (sym (last_at envs m count)) ∙ found m in
      ap (λ env. env y) (env_past envs more n (omega arith)) ∙ (is ∙ ap (λ k. or_else k nothing) last)
  | inr h ↦ ap (λ env. env y) (env_kept envs more n (omega arith)) ∙ found n
]

envs_push : (names : Table Declared) (x : List ℕ) (d : Declared) → envs_of (names ++ (x, d) ∷ []) ≡ envs_of names ++ env_after (envs_of names) x d.entry ∷ []
unfolding envs_of
envs_push names x d = fold_push (λ (envs : List Env) (e : List ℕ × Declared). envs ++ env_after envs e.0 e.1.entry ∷ []) (no_names ∷ []) names (x, d)

-- what holds of all entries holds of one more
or_case : (o : Option Declared) (b : Bool) (d e : Declared) → or_entry o (if b then Some d else None) ≡ Some e → (o ≡ Some e) ⊎ (d ≡ e)
unfolding or_entry
or_case (Some c) b d e h = inl h
or_case None true d e h = inr (cc)
or_case None false d e h = absurd (cc)

pub entries_push : (P : Declared → Type 0) (names : Table Declared) (x : List ℕ) (d : Declared)
    → ((y : List ℕ) (e : Declared) → entry_of y names ≡ Some e → P e) → P d → (y : List ℕ) (e : Declared) → entry_of y (names ++ (x, d) ∷ []) ≡ Some e → P e
entries_push P names x d all one y e h = elim (or_case (entry_of y names) (bytes_eq y x) d e (sym (entry_push y x d names) ∙ h)) [
  | inl g ↦ all y e g
  | inr g ↦ subst P g one
]

early_more : (m n : ℕ) (e : Entry) → m ≤ n → IsEarly m e → IsEarly n e
early_more m n (entry.Struct fs i) le h = tt
early_more m n (entry.Signal b k) le h = tt
early_more m n (entry.Defined e k made) le h = omega arith

module _ (names : Table Declared) (structs : List (List (List ℕ))) (h : AreNumbered names structs) where
  -- the environment of all names
  pub all_names : env_of names (length names) ≡ env_now names
  all_names = last_at (envs_of names) (length names) h.count

  -- a table of more structs
  pub more_structs : (own : List (List ℕ)) → AreNumbered names (structs ++ own ∷ [])
  more_structs own = record {
    found = h.found;
    count = h.count;
    numbers = h.numbers;
    early = h.early;
    fields = λ x d at. kept d.entry (h.fields x d at);
  }
    where
      kept : (e : Entry) → HasFields structs e → HasFields (structs ++ own ∷ []) e
      kept (entry.Struct fs i) has = get_left structs (own ∷ []) i (map (λ f. f.name) (map field_shape fs.now)) has
      kept (entry.Signal b k) has = tt
      kept (entry.Defined e k made) has = tt

  module _ (x : List ℕ) (e : Entry) (early : IsEarly (length names) e) where
    abbrev own : Declared
    own = record { number = length names; entry = e }

    -- a name that isn't there
    new_now : env_now (names ++ (x, own) ∷ []) ≡ declare x (meaning names e) (env_now names)
    new_now = ap env_last (envs_push names x own) ∙ last_push (envs_of names) (env_after (envs_of names) x e)

    new_numbered : HasFields structs e → AreNumbered (names ++ (x, own) ∷ []) structs
    new_numbered has = record {
      found = λ n y. subst (λ envs. env_at envs n y ≡ meaning_before envs n (entry_of y (names ++ (x, own) ∷ []))) (sym (envs_push names x own))
          (subst (λ o. env_at (envs_of names ++ env_after (envs_of names) x e ∷ []) n y ≡ meaning_before (envs_of names ++ env_after (envs_of names) x e ∷ []) n o)
          (sym (entry_push y x own names))
          (found_push (envs_of names) (env_after (envs_of names) x e) (length names) n y (entry_of y names) (bytes_eq y x) own h.count refl (λ k. h.found k y)
          (λ d at. (h.numbers y d at, h.early y d at)) early refl));
      count = ap length (envs_push names x own) ∙ omega (arith, length_push (envs_of names) (env_after (envs_of names) x e), length_push names (x, own), h.count);
      numbers = entries_push (λ d. d.number < length (names ++ (x, own) ∷ [])) names x own
          (λ y d at. omega (arith, h.numbers y d at, length_push names (x, own))) (omega (arith, length_push names (x, own)));
      early = entries_push (λ d. IsEarly (length (names ++ (x, own) ∷ [])) d.entry) names x own
          (λ y d at. early_more (length names) (length (names ++ (x, own) ∷ [])) d.entry (omega (arith, length_push names (x, own))) (h.early y d at))
          (early_more (length names) (length (names ++ (x, own) ∷ [])) e (omega (arith, length_push names (x, own))) early);
      fields = entries_push (λ d. HasFields structs d.entry) names x own h.fields has;
    }

    -- a name that is there keeps its meaning
    old_now : is_named x names ≡ true → env_now names ≡ declare x (meaning names e) (env_now names)
    old_now there = fun_ext (λ y. by y (bytes_eq y x) refl)
      where
        known : (o : Option Declared) → entry_of x names ≡ o → is_some o ≡ true → (k : Known) → env_now names x ≡ or_else (env_now names x) k
        known (Some d) at some k =
            let is : env_now names x ≡ meaning_in (envs_of names) d.entry =
            ap (λ env. env x) (sym all_names) ∙ (h.found (length names) x
            ∙ (ap (meaning_before (envs_of names) (length names)) at
            ∙ ap (λ c. if c then meaning_in (envs_of names) d.entry else nothing) (below_is d.number (length names) (h.numbers x d at)))) in
            is ∙ (sym (meaning_stays (envs_of names) d.entry k) ∙ ap (λ j. or_else j k) (sym is))
        known None at some k = absurd (cc)

        by : (y : List ℕ) (b : Bool) → bytes_eq y x ≡ b → env_now names y ≡ or_else (env_now names y) (if b then meaning names e else nothing)
        by y true same = subst (λ z. env_now names z ≡ or_else (env_now names z) (meaning names e)) (sym ((bytes_eq-Decides y x).0 same)) (known (entry_of x names) refl there (meaning names e))
        by y false other = sym (or_nothing (env_now names y))

    -- names with one more, or as they were
    pub now_with : env_now (with_name x e names) ≡ declare x (meaning names e) (env_now names)
    now_with = by (is_named x names) refl
      where
        by : (b : Bool) → is_named x names ≡ b → env_now (if b then names else names ++ (x, own) ∷ []) ≡ declare x (meaning names e) (env_now names)
        by true there = old_now there
        by false none = new_now

    pub numbered_with : HasFields structs e → AreNumbered (with_name x e names) structs
    numbered_with has = by (is_named x names)
      where
        by : (b : Bool) → AreNumbered (if b then names else names ++ (x, own) ∷ []) structs
        by true = h
        by false = new_numbered has

-- signals stay below
pub below_with : (n : ℕ) (names : Table Declared) (x : List ℕ) (e : Entry) → SignalsBelow n names → EntryBelow n e → SignalsBelow n (with_name x e names)
below_with n names x e h one = by (is_named x names)
  where
    by : (b : Bool) → SignalsBelow n (if b then names else names ++ (x, record { number = length names; entry = e }) ∷ [])
    by true = h
    by false = record { each = entries_push (λ d. EntryBelow n d.entry) names x (record { number = length names; entry = e }) h.each one }

-- an entry that sees names before it keeps its node
module _ (nodes : List Plain) (names : Table Declared) (structs : List (List (List ℕ))) (h : AreNumbered names structs) (x : List ℕ) (d : Declared) where
  entry_kept : (e : Entry) → IsEarly (length names) e → IsKept nodes names e → IsKept nodes (names ++ (x, d) ∷ []) e
  entry_kept (entry.Struct fs i) early has = tt
  entry_kept (entry.Signal b k) early has = tt
  entry_kept (entry.Defined e n made) early has =
      let same : env_of (names ++ (x, d) ∷ []) n ≡ env_of names n =
      ap (λ envs. env_at envs n) (envs_push names x d) ∙ env_kept (envs_of names) (env_after (envs_of names) x d.entry) n (omega (arith, h.count)) in
      subst (λ env. MadeAs nodes (value_of (shape e.now) env) made) (sym same) has

pub kept_with : (nodes : List Plain) (names : Table Declared) (structs : List (List (List ℕ))) (x : List ℕ) (e : Entry) → AreNumbered names structs
    → IsEarly (length names) e → HaveNodes nodes names → IsKept nodes names e → HaveNodes nodes (with_name x e names)
kept_with nodes names structs x e numbered early h one = by (is_named x names)
  where
    by : (b : Bool) → HaveNodes nodes (if b then names else names ++ (x, record { number = length names; entry = e }) ∷ [])
    by true = h
    by false = record {
      each = entries_push (λ d. IsKept nodes (names ++ (x, record { number = length names; entry = e }) ∷ []) d.entry) names x (record { number = length names; entry = e })
          (λ y d at. entry_kept nodes names structs numbered x (record { number = length names; entry = e }) d.entry (numbered.early y d at) (h.each y d at))
          (entry_kept nodes names structs numbered x (record { number = length names; entry = e }) e early one);
    }

-- no names
one_or : {X : Type 0} (x : X) (k : ℕ) → get_or (x ∷ []) k x ≡ x
one_or x zero = refl
one_or x (suc k) = refl

pub none_numbered : AreNumbered [] []
unfolding envs_of
none_numbered = record {
  found = λ n x. ap (λ (env : Env). env x) (one_or no_names (min n (length (no_names ∷ []) - 1)));
  count = refl;
  numbers = λ x d at. absurd (cc);
  early = λ x d at. absurd (cc);
  fields = λ x d at. absurd (cc);
}
