use Rattle.std.proofs.Common.{◌≡◌, ℕ, zero, suc, ◌+◌, List, [], ◌∷◌, ◌++◌, length, take, drop, refl, ap, sym, ◌∙◌, subst, arith, Option, Some, None, inl, inr, nat_eq, append_assoc}
use Rattle.std.specs.Prelude.{codes, is_some}
use Rattle.std.proofs.lemmas.Option.{same_Some, some_pair_parts}
use Rattle.std.proofs.lemmas.Bool.{and_parts}
use Rattle.std.proofs.lemmas.List.{append-nil}
use Rattle.mltl_base.specs.declared.interval.Engine.{Engine}
use Rattle.c2po_lexer.specs.declared.token.Sign.TheVariants as sign
use Rattle.c2po_lexer.specs.declared.token.Keyword.TheVariants as keyword
use Rattle.c2po_lexer.specs.declared.token.What.{What}
use Rattle.c2po_lexer.specs.declared.token.What.TheVariants as what
use Rattle.c2po_lexer.specs.declared.token.Token.{Token}
use Rattle.c2po_ast.specs.ItemShape.{TypeShape, FieldShape, BodyShape, type_named, set_of, structure, input, define, formula, contract}
use Rattle.c2po_parse.proofs.ItemWalk.{set_done, typed_done, label_done}
use Rattle.c2po_parse.specs.Tokens.{is_sign, depth_after}
use Rattle.c2po_parse.specs.Fronts.{◌>>=◌, past, name_at}
use Rattle.c2po_parse.specs.Splitting.{parsed_tree, at_end}
use Rattle.c2po_parse.specs.Grammar.{IsSign, IsNamed, SpellsType, name_type, bool_type, int_type, set_type, SpellNames, one_name, and_names, SpellTyped, fields_for, SpellFields, one_list, and_lists, SpellsLabel, no_label, is_label, SpellsItem, is_struct, is_input, is_define, is_formula, is_contract}
use Rattle.c2po_parse.specs.Forms.{type_in, type_within, type_at, names_or, names_within, names_at, typed_at, fields_or, fields_within, fields_at, struct_item, input_of, define_of, labelled, label_at, is_promise, promise_at, contract_of, output_at, output_item, body_of}
use Rattle.c2po_parse.specs.declared.section.Section.{Section}
use Rattle.c2po_parse.specs.declared.section.Section.TheVariants.{Struct, Input, Define, Output}
use Rattle.c2po_parse.proofs.Walks.{bind-some, if-cases}
use Rattle.c2po_parse.proofs.Heads.{is_sign-same, past-begins}
use Rattle.c2po_parse.proofs.Operators.{name_at-names}
use Rattle.c2po_parse.proofs.SplitSound.{at_end-is}

-- What is read from tokens, the grammar gives to them.

-- tokens in front of a rest that spell something
record Front (P : List Token → Type 0) (ts rest : List Token) : Type 0 where
  front : List Token
  joined : ts ≡ front ++ rest
  spells : P front

one-type : (t : Token) (j k : TypeShape) (ts rest : List Token) → ◌≡◌ {A = Option (TypeShape × List Token)} (Some (j, ts)) (Some (k, rest)) →
    SpellsType (t ∷ []) j → Front (λ us. SpellsType us k) (t ∷ ts) rest
one-type t j k ts rest h spells =
    let same = some_pair_parts j k ts rest h in
    record { front = t ∷ []; joined = ap (λ us. t ∷ us) same.1; spells = subst (SpellsType (t ∷ [])) same.0 spells }

set-front : (n : ℕ) (t : Token) (ts : List Token) (k : TypeShape) (rest : List Token) →
    ((us : List Token) (j : TypeShape) (vs : List Token) → type_within n us ≡ Some (j, vs) → Front (λ ws. SpellsType ws j) us vs) →
    t.what ≡ what.Reserved keyword.Set →
    (past sign.Less ts >>= λ us. type_within n us >>= λ j. past sign.Greater j.1 >>= λ vs. set_done j.0 vs) ≡ Some (k, rest) →
    Front (λ us. SpellsType us k) (t ∷ ts) rest
set-front n t ts k rest ih is h =
    let less = bind-some (past sign.Less ts) (λ us. type_within n us >>= λ j. past sign.Greater j.1 >>= λ vs. set_done j.0 vs) (k, rest) h in
    let inner = bind-some (type_within n less.0) (λ j. past sign.Greater j.1 >>= λ vs. set_done j.0 vs) (k, rest) less.2 in
    let greater = bind-some (past sign.Greater inner.0.1) (λ vs. set_done inner.0.0 vs) (k, rest) inner.2 in
    let left = past-begins sign.Less ts less.0 less.1 in
    let found = ih less.0 inner.0.0 inner.0.1 inner.1 in
    let right = past-begins sign.Greater inner.0.1 greater.0 greater.1 in
    let same = some_pair_parts (set_of inner.0.0) k greater.0 rest greater.2 in
    let tail : inner.0.1 ≡ right.at ∷ rest = right.joined ∙ ap (λ us. right.at ∷ us) same.1 in
    let all : less.0 ≡ (found.front ++ right.at ∷ []) ++ rest =
    found.joined ∙ ap (λ us. found.front ++ us) tail ∙ sym (append_assoc found.front (right.at ∷ []) rest) in
    record {
      front = t ∷ left.at ∷ (found.front ++ right.at ∷ []);
      joined = ap (λ us. t ∷ us) (left.joined ∙ ap (λ us. left.at ∷ us) all);
      spells = subst (SpellsType (t ∷ left.at ∷ (found.front ++ right.at ∷ []))) same.0
          (set_type t left.at found.front right.at inner.0.0 is left.is found.spells right.is);
    }

type_in-front : (n : ℕ) (t : Token) (w : What) (ts : List Token) (k : TypeShape) (rest : List Token) →
    ((us : List Token) (j : TypeShape) (vs : List Token) → type_within n us ≡ Some (j, vs) → Front (λ ws. SpellsType ws j) us vs) →
    t.what ≡ w → type_in (type_within n) w ts ≡ Some (k, rest) → Front (λ us. SpellsType us k) (t ∷ ts) rest
type_in-front n t (what.Word x) ts k rest ih is h = one-type t (type_named x) k ts rest h (name_type t x is)
type_in-front n t (what.Reserved keyword.Bool) ts k rest ih is h = one-type t (type_named (codes "bool")) k ts rest h (bool_type t is)
type_in-front n t (what.Reserved keyword.Int) ts k rest ih is h = one-type t (type_named (codes "int")) k ts rest h (int_type t is)
type_in-front n t (what.Reserved keyword.Set) ts k rest ih is h = set-front n t ts k rest ih is h
type_in-front n t _ ts k rest ih is h = absurd (cc)

type-front : (n : ℕ) (ts : List Token) (k : TypeShape) (rest : List Token) → type_within n ts ≡ Some (k, rest) → Front (λ us. SpellsType us k) ts rest
unfolding type_within
type-front (suc n) (t ∷ ts) k rest h = type_in-front n t t.what ts k rest (λ us j vs is. type-front n us j vs is) refl h
type-front _ _ k rest h = absurd (cc)

more-front : (n : ℕ) (t : Token) (x : List ℕ) (ts : List Token) (v : Option (List Token)) (xs : List (List ℕ)) (rest : List Token) →
    ((us : List Token) (ys : List (List ℕ)) (vs : List Token) → names_within n us ≡ Some (ys, vs) → Front (λ ws. SpellNames ws ys) us vs) →
    IsNamed x t → past sign.Comma ts ≡ v → names_or (names_within n) x ts v ≡ Some (xs, rest) → Front (λ us. SpellNames us xs) (t ∷ ts) rest
more-front n t x ts None xs rest ih is comma h =
    let same = some_pair_parts (x ∷ []) xs ts rest h in
    record { front = t ∷ []; joined = ap (λ us. t ∷ us) same.1; spells = subst (SpellNames (t ∷ [])) same.0 (one_name t x is) }
more-front n t x ts (Some us) xs rest ih is comma h =
    let begins = past-begins sign.Comma ts us comma in
    let tail = bind-some (names_within n us) (λ ys. Some (x ∷ ys.0, ys.1)) (xs, rest) h in
    let found = ih us tail.0.0 tail.0.1 tail.1 in
    let same = some_pair_parts (x ∷ tail.0.0) xs tail.0.1 rest tail.2 in
    record {
      front = t ∷ begins.at ∷ found.front;
      joined = ap (λ vs. t ∷ vs) (begins.joined ∙ ap (λ vs. begins.at ∷ vs) (found.joined ∙ ap (λ vs. found.front ++ vs) same.1));
      spells = subst (SpellNames (t ∷ begins.at ∷ found.front)) same.0 (and_names t begins.at found.front x tail.0.0 is begins.is found.spells);
    }

names-front : (n : ℕ) (ts : List Token) (xs : List (List ℕ)) (rest : List Token) → names_within n ts ≡ Some (xs, rest) → Front (λ us. SpellNames us xs) ts rest
unfolding names_within
names-front zero ts xs rest h = absurd (cc)
names-front (suc n) ts xs rest h =
    let x = bind-some (name_at ts) (λ x. names_or (names_within n) x.0 x.1 (past sign.Comma x.1)) (xs, rest) h in
    let named = name_at-names ts x.0.0 x.0.1 x.1 in
    let found = more-front n named.at x.0.0 x.0.1 (past sign.Comma x.0.1) xs rest (λ us ys vs is. names-front n us ys vs is) named.is refl x.2 in
    record { front = found.front; joined = named.joined ∙ found.joined; spells = found.spells }

typed-parts : (ys xs : List (List ℕ)) (j k : TypeShape) (ts rest : List Token) →
    ◌≡◌ {A = Option (List (List ℕ) × TypeShape × List Token)} (Some (ys, j, ts)) (Some (xs, k, rest)) → (ys ≡ xs) × (j ≡ k) × (ts ≡ rest)
typed-parts ys xs j k ts rest h =
    let same : ◌≡◌ {A = List (List ℕ) × TypeShape × List Token} (ys, j, ts) (xs, k, rest) = same_Some (ys, j, ts) (xs, k, rest) h in (
      ap (λ (t : List (List ℕ) × TypeShape × List Token). t.0) same,
      ap (λ (t : List (List ℕ) × TypeShape × List Token). t.1) same,
      ap (λ (t : List (List ℕ) × TypeShape × List Token). t.2) same,
    )

typed-front : (ts : List Token) (xs : List (List ℕ)) (k : TypeShape) (rest : List Token) → typed_at ts ≡ Some (xs, k, rest) → Front (λ us. SpellTyped us xs k) ts rest
typed-front ts xs k rest h =
    let ys = bind-some (names_at ts) (λ ys. past sign.Colon ys.1 >>= λ us. type_at us >>= λ j. typed_done ys.0 j.0 j.1) (xs, k, rest) h in
    let colon = bind-some (past sign.Colon ys.0.1) (λ us. type_at us >>= λ j. typed_done ys.0.0 j.0 j.1) (xs, k, rest) ys.2 in
    let j = bind-some (type_at colon.0) (λ j. typed_done ys.0.0 j.0 j.1) (xs, k, rest) colon.2 in
    let same = typed-parts ys.0.0 xs j.0.0 k j.0.1 rest j.2 in
    let names = names-front (length ts) ts ys.0.0 ys.0.1 ys.1 in
    let begins = past-begins sign.Colon ys.0.1 colon.0 colon.1 in
    let kind = type-front (length colon.0) colon.0 j.0.0 j.0.1 j.1 in
    let tail : ys.0.1 ≡ begins.at ∷ (kind.front ++ rest) = begins.joined ∙ ap (λ us. begins.at ∷ us) (kind.joined ∙ ap (λ us. kind.front ++ us) same.2) in
    record {
      front = names.front ++ begins.at ∷ kind.front;
      joined = names.joined ∙ ap (λ us. names.front ++ us) tail ∙ sym (append_assoc names.front (begins.at ∷ kind.front) rest);
      spells = record {
        names = names.front;
        colon = begins.at;
        kind = kind.front;
        all = refl;
        are_names = subst (SpellNames names.front) same.0 names.spells;
        is_colon = begins.is;
        is_type = subst (SpellsType kind.front) same.1 kind.spells;
      };
    }

-- fields in front of the brace that closes them
record FieldsFront (fs : List FieldShape) (ts rest : List Token) : Type 0 where
  front : List Token
  right : Token
  joined : ts ≡ front ++ right ∷ rest
  spells : SpellFields front fs
  is_right : IsSign sign.RightCurly right

more-fields : (n : ℕ) (ds ts : List Token) (semicolon : Token) (xs : List (List ℕ)) (k : TypeShape) (v : Option (List Token)) (fs : List FieldShape) (rest : List Token) →
    ((us : List Token) (gs : List FieldShape) (vs : List Token) → fields_within n us ≡ Some (gs, vs) → FieldsFront gs us vs) →
    SpellTyped ds xs k → IsSign sign.Semicolon semicolon → past sign.RightCurly ts ≡ v → fields_or (fields_within n) (fields_for xs k) ts v ≡ Some (fs, rest) →
    FieldsFront fs (ds ++ semicolon ∷ ts) rest
more-fields n ds ts semicolon xs k (Some us) fs rest ih typed is close h =
    let begins = past-begins sign.RightCurly ts us close in
    let same = some_pair_parts (fields_for xs k) fs us rest h in
    let tail : ts ≡ begins.at ∷ rest = begins.joined ∙ ap (λ vs. begins.at ∷ vs) same.1 in
    record {
      front = ds ++ semicolon ∷ [];
      right = begins.at;
      joined = ap (λ vs. ds ++ semicolon ∷ vs) tail ∙ sym (append_assoc ds (semicolon ∷ []) (begins.at ∷ rest));
      spells = subst (SpellFields (ds ++ semicolon ∷ [])) same.0 (one_list ds semicolon xs k typed is);
      is_right = begins.is;
    }
more-fields n ds ts semicolon xs k None fs rest ih typed is close h =
    let tail = bind-some (fields_within n ts) (λ gs. Some (fields_for xs k ++ gs.0, gs.1)) (fs, rest) h in
    let found = ih ts tail.0.0 tail.0.1 tail.1 in
    let same = some_pair_parts (fields_for xs k ++ tail.0.0) fs tail.0.1 rest tail.2 in
    let all : ts ≡ found.front ++ found.right ∷ rest = found.joined ∙ ap (λ vs. found.front ++ found.right ∷ vs) same.1 in
    record {
      front = ds ++ semicolon ∷ found.front;
      right = found.right;
      joined = ap (λ vs. ds ++ semicolon ∷ vs) all ∙ sym (append_assoc ds (semicolon ∷ found.front) (found.right ∷ rest));
      spells = subst (SpellFields (ds ++ semicolon ∷ found.front)) same.0 (and_lists ds semicolon found.front xs k tail.0.0 typed is found.spells);
      is_right = found.is_right;
    }

fields-front : (n : ℕ) (ts : List Token) (fs : List FieldShape) (rest : List Token) → fields_within n ts ≡ Some (fs, rest) → FieldsFront fs ts rest
unfolding fields_within
fields-front zero ts fs rest h = absurd (cc)
fields-front (suc n) ts fs rest h =
    let d = bind-some (typed_at ts) (λ d. past sign.Semicolon d.2 >>= λ us. fields_or (fields_within n) (fields_for d.0 d.1) us (past sign.RightCurly us)) (fs, rest) h in
    let semicolon = bind-some (past sign.Semicolon d.0.2) (λ us. fields_or (fields_within n) (fields_for d.0.0 d.0.1) us (past sign.RightCurly us)) (fs, rest) d.2 in
    let typed = typed-front ts d.0.0 d.0.1 d.0.2 d.1 in
    let begins = past-begins sign.Semicolon d.0.2 semicolon.0 semicolon.1 in
    let found = more-fields n typed.front semicolon.0 begins.at d.0.0 d.0.1 (past sign.RightCurly semicolon.0) fs rest (λ us gs vs is. fields-front n us gs vs is)
    typed.spells begins.is refl semicolon.2 in
    let all : ts ≡ typed.front ++ begins.at ∷ semicolon.0 = typed.joined ∙ ap (λ us. typed.front ++ us) begins.joined in
    record { front = found.front; right = found.right; joined = all ∙ found.joined; spells = found.spells; is_right = found.is_right }

struct-found : (ts : List Token) (b : BodyShape) → struct_item ts ≡ Some b → SpellsItem Struct ts b
unfolding struct_item
struct-found ts b h =
    let x = bind-some (name_at ts) (λ x. past sign.Colon x.1 >>= λ us. past sign.LeftCurly us >>= λ vs. fields_at vs >>= λ fs. at_end (structure x.0 fs.0) fs.1) b h in
    let colon = bind-some (past sign.Colon x.0.1) (λ us. past sign.LeftCurly us >>= λ vs. fields_at vs >>= λ fs. at_end (structure x.0.0 fs.0) fs.1) b x.2 in
    let curly = bind-some (past sign.LeftCurly colon.0) (λ vs. fields_at vs >>= λ fs. at_end (structure x.0.0 fs.0) fs.1) b colon.2 in
    let fs = bind-some (fields_at curly.0) (λ fs. at_end (structure x.0.0 fs.0) fs.1) b curly.2 in
    let end = at_end-is (structure x.0.0 fs.0.0) b fs.0.1 fs.2 in
    let named = name_at-names ts x.0.0 x.0.1 x.1 in
    let is_colon = past-begins sign.Colon x.0.1 colon.0 colon.1 in
    let is_left = past-begins sign.LeftCurly colon.0 curly.0 curly.1 in
    let found = fields-front (length curly.0) curly.0 fs.0.0 fs.0.1 fs.1 in
    let inner : curly.0 ≡ found.front ++ found.right ∷ [] = found.joined ∙ ap (λ us. found.front ++ found.right ∷ us) end.1 in
    let all : ts ≡ named.at ∷ is_colon.at ∷ is_left.at ∷ (found.front ++ found.right ∷ []) =
    named.joined ∙ ap (λ us. named.at ∷ us) (is_colon.joined ∙ ap (λ us. is_colon.at ∷ us) (is_left.joined ∙ ap (λ us. is_left.at ∷ us) inner)) in
    subst (λ us. SpellsItem Struct us b) (sym all)
    (subst (SpellsItem Struct (named.at ∷ is_colon.at ∷ is_left.at ∷ (found.front ++ found.right ∷ []))) end.0
    (is_struct named.at is_colon.at is_left.at found.front found.right x.0.0 fs.0.0 named.is is_colon.is is_left.is found.spells found.is_right))

input-found : (ts : List Token) (b : BodyShape) → input_of ts ≡ Some b → SpellsItem Input ts b
unfolding input_of
input-found ts b h =
    let d = bind-some (typed_at ts) (λ d. at_end (input d.0 d.1) d.2) b h in
    let end = at_end-is (input d.0.0 d.0.1) b d.0.2 d.2 in
    let typed = typed-front ts d.0.0 d.0.1 d.0.2 d.1 in
    let all : ts ≡ typed.front = typed.joined ∙ ap (λ us. typed.front ++ us) end.1 ∙ append-nil typed.front in
    subst (λ us. SpellsItem Input us b) (sym all) (subst (SpellsItem Input typed.front) end.0 (is_input typed.front d.0.0 d.0.1 typed.spells))

define-found : (ts : List Token) (b : BodyShape) → define_of ts ≡ Some b → SpellsItem Define ts b
unfolding define_of
define-found ts b h =
    let x = bind-some (name_at ts) (λ x. past sign.Becomes x.1 >>= λ us. parsed_tree us >>= λ e. Some (define x.0 e)) b h in
    let becomes = bind-some (past sign.Becomes x.0.1) (λ us. parsed_tree us >>= λ e. Some (define x.0.0 e)) b x.2 in
    let e = bind-some (parsed_tree becomes.0) (λ e. Some (define x.0.0 e)) b becomes.2 in
    let named = name_at-names ts x.0.0 x.0.1 x.1 in
    let begins = past-begins sign.Becomes x.0.1 becomes.0 becomes.1 in
    let all : ts ≡ named.at ∷ begins.at ∷ becomes.0 = named.joined ∙ ap (λ us. named.at ∷ us) begins.joined in
    subst (λ us. SpellsItem Define us b) (sym all)
    (subst (SpellsItem Define (named.at ∷ begins.at ∷ becomes.0)) (same_Some (define x.0.0 e.0) b e.2)
    (is_define named.at begins.at becomes.0 x.0.0 e.0 named.is begins.is e.1))

labelled-front : (ts : List Token) (v : Option (List ℕ × List Token)) → (name_at ts >>= λ x. past sign.Colon x.1 >>= λ us. label_done x.0 us) ≡ v →
    Front (λ us. SpellsLabel us (labelled ts v).0) ts (labelled ts v).1
labelled-front ts None is = record { front = []; joined = refl; spells = no_label }
labelled-front ts (Some r) is =
    let x = bind-some (name_at ts) (λ x. past sign.Colon x.1 >>= λ us. label_done x.0 us) r is in
    let colon = bind-some (past sign.Colon x.0.1) (λ us. label_done x.0.0 us) r x.2 in
    let named = name_at-names ts x.0.0 x.0.1 x.1 in
    let begins = past-begins sign.Colon x.0.1 colon.0 colon.1 in
    let same : ◌≡◌ {A = List ℕ × List Token} (x.0.0, colon.0) r = same_Some (x.0.0, colon.0) r colon.2 in
    subst (λ (q : List ℕ × List Token). Front (λ us. SpellsLabel us (Some q.0)) ts q.1) same
    (record {
      front = named.at ∷ begins.at ∷ [];
      joined = named.joined ∙ ap (λ us. named.at ∷ us) begins.joined;
      spells = is_label named.at begins.at x.0.0 named.is begins.is;
    })

-- a `=>` that was found, and its two sides
record PromiseFound (place m : ℕ) (ts : List Token) : Type 0 where
  count : ℕ
  at : Token
  is : IsSign sign.Promises at
  place_is : m ≡ place + count
  joined : ts ≡ take count ts ++ at ∷ drop (suc count) ts

promise-splits : (place d : ℕ) (ts : List Token) (m : ℕ) → promise_at place d ts ≡ Some m → PromiseFound place m ts
unfolding promise_at
promise-splits place d [] m h = absurd (cc)
promise-splits place d (t ∷ ts) m h =
    elim (if-cases (is_promise d t.what) (Some place) (promise_at (place + 1) (depth_after t.what d) ts) (Some m) h) [
      | inl p ↦
          let same : place ≡ m = same_Some place m p.1 in
          record {
            count = 0;
            at = t;
            is = is_sign-same sign.Promises t.what (and_parts (nat_eq d 0) (is_sign sign.Promises t.what) p.0).1;
            place_is = omega (arith, same);
            joined = refl;
          }
      | inr p ↦
          let found = promise-splits (place + 1) (depth_after t.what d) ts m p.1 in
          record { count = suc found.count; at = found.at; is = found.is; place_is = omega (arith, found.place_is); joined = ap (λ us. t ∷ us) found.joined }
    ]

contract-found : (engine : Engine) (ls : List Token) (name : Option (List ℕ)) (left : List Token) (t : Token) (right : List Token) (b : BodyShape) →
    contract_of engine name left right ≡ Some b → SpellsLabel ls name → IsSign sign.Promises t → SpellsItem (Output engine) (ls ++ (left ++ t ∷ right)) b
contract-found engine ls name left t right b h label is =
    elim (if-cases (is_some (promise_at 0 0 right)) None (parsed_tree left >>= λ e. parsed_tree right >>= λ f. Some (contract engine name e f)) (Some b) h) [
      | inl p ↦ absurd (let none = p.1 in cc)
      | inr p ↦
          let e = bind-some (parsed_tree left) (λ e. parsed_tree right >>= λ f. Some (contract engine name e f)) b p.1 in
          let f = bind-some (parsed_tree right) (λ f. Some (contract engine name e.0 f)) b e.2 in
          subst (SpellsItem (Output engine) (ls ++ (left ++ t ∷ right))) (same_Some (contract engine name e.0 f.0) b f.2)
          (is_contract engine ls left t right name e.0 f.0 label e.1 is f.1)
    ]

output_at-found : (engine : Engine) (ls : List Token) (name : Option (List ℕ)) (ts : List Token) (v : Option ℕ) (b : BodyShape) → promise_at 0 0 ts ≡ v →
    output_at engine name ts v ≡ Some b → SpellsLabel ls name → SpellsItem (Output engine) (ls ++ ts) b
output_at-found engine ls name ts None b place h label =
    let e = bind-some (parsed_tree ts) (λ e. Some (formula engine name e)) b h in
    subst (SpellsItem (Output engine) (ls ++ ts)) (same_Some (formula engine name e.0) b e.2) (is_formula engine ls ts name e.0 label e.1)
output_at-found engine ls name ts (Some n) b place h label =
    let found = promise-splits 0 0 ts n place in
    let here : n ≡ found.count = omega (arith, found.place_is) in
    let next : n + 1 ≡ suc found.count = omega (arith, found.place_is) in
    let all : ts ≡ take n ts ++ found.at ∷ drop (n + 1) ts =
    found.joined ∙ ap (λ m. take m ts ++ found.at ∷ drop (suc found.count) ts) (sym here) ∙ ap (λ m. take n ts ++ found.at ∷ drop m ts) (sym next) in
    subst (λ us. SpellsItem (Output engine) (ls ++ us) b) (sym all)
    (contract-found engine ls name (take n ts) found.at (drop (n + 1) ts) b h label found.is)

output-found : (engine : Engine) (ts : List Token) (b : BodyShape) → output_item engine ts ≡ Some b → SpellsItem (Output engine) ts b
unfolding output_item label_at
output-found engine ts b h =
    let label = labelled-front ts (name_at ts >>= λ x. past sign.Colon x.1 >>= λ us. label_done x.0 us) refl in
    subst (λ us. SpellsItem (Output engine) us b) (sym label.joined)
    (output_at-found engine label.front (label_at ts).0 (label_at ts).1 (promise_at 0 0 (label_at ts).1) b refl h label.spells)

pub item-found : (section : Section) (ts : List Token) (body : BodyShape) → body_of section ts ≡ Some body → SpellsItem section ts body
item-found Struct ts b h = struct-found ts b h
item-found Input ts b h = input-found ts b h
item-found Define ts b h = define-found ts b h
item-found (Output engine) ts b h = output-found engine ts b h
