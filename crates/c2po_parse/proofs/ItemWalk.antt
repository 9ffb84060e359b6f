use Rattle.std.proofs.Common.{◌≡◌, ℕ, zero, suc, ◌+◌, Bool, true, false, List, [], ◌∷◌, ◌++◌, length, take, drop, refl, subst, Option, Some, None, Result, Ok, Err, nat_lt, inl, inr}
use Rattle.std.specs.Prelude.{codes, is_some, ⊤}
use Rattle.std.proofs.lemmas.Option.{same_Some, some_pair_parts}
use Rattle.mltl_base.specs.declared.interval.Engine.{Engine}
use Rattle.c2po_lexer.specs.declared.token.Sign.{Sign}
use Rattle.c2po_lexer.specs.declared.token.Sign.TheVariants as sign
use Rattle.c2po_lexer.specs.declared.token.Keyword.TheVariants as keyword
use Rattle.c2po_lexer.specs.declared.token.What.{What}
use Rattle.c2po_lexer.specs.declared.token.What.TheVariants as what
use Rattle.c2po_lexer.specs.declared.token.Token.{Token}
use Rattle.c2po_ast.specs.Shape.{Shape}
use Rattle.c2po_ast.specs.ItemShape.{TypeShape, FieldShape, BodyShape, ItemShape, type_named, set_of, structure, input, define, formula, contract}
use Rattle.c2po_parse.specs.Fronts.{◌>>=◌, past, name_at}
use Rattle.c2po_parse.specs.Splitting.{parsed_tree, at_end}
use Rattle.c2po_parse.proofs.Walks.{bind-some, if-cases}
use Rattle.c2po_parse.proofs.Heads.{past-begins}
use Rattle.c2po_parse.proofs.Operators.{name_at-names}
use Rattle.c2po_parse.proofs.SplitSound.{at_end-is}
use Rattle.c2po_parse.specs.declared.fault.ParseFault.{ParseFault}
use Rattle.c2po_parse.specs.declared.fault.ParseFault.TheVariants.{TooManyTokens}
use Rattle.c2po_parse.specs.declared.section.Section.{Section}
use Rattle.c2po_parse.specs.declared.section.Section.TheVariants.{Struct, Input, Define, Output}
use Rattle.c2po_parse.specs.Sections.{section_of, braces_after, Statement, item_of, unended_piece, is_end, chosen, pieces}
use Rattle.c2po_parse.specs.Grammar.{fields_for}
use Rattle.c2po_parse.specs.Forms.{type_in, type_within, type_at, names_or, names_within, names_at, typed_at, fields_or, fields_within, fields_at, struct_item, input_of, define_of, labelled, label_at, promise_at, contract_of, output_at, output_item, body_of}
use Rattle.c2po_parse.specs.Specification.{piece_body, with_line, piece_tree, first_or, piece_trees, spec_of}
use Rattle.c2po_parse.proofs.Words.{AllHave, words-head, words-tail, words-cons, words-append, words-nil}

-- What the tokens of a text have, its items have.

-- what is said of each name of a list
abbrev pub NamesHave : (List ℕ → Type 0) → List (List ℕ) → Type 0
NamesHave IsName [] = ⊤
NamesHave IsName (x ∷ xs) = IsName x × NamesHave IsName xs

-- of the names and types of fields
abbrev pub FieldsHave : (List ℕ → Type 0) → (TypeShape → Type 0) → List FieldShape → Type 0
FieldsHave IsName IsType [] = ⊤
FieldsHave IsName IsType (f ∷ fs) = (IsName f.name × IsType f.kind) × FieldsHave IsName IsType fs

-- of the names, types, labels and trees of what an item says
abbrev pub BodyHas : (List ℕ → Type 0) → (TypeShape → Type 0) → (Option (List ℕ) → Type 0) → (Shape → Type 0) → BodyShape → Type 0
BodyHas IsName IsType IsLabel HasTree (structure x fs) = IsName x × FieldsHave IsName IsType fs
BodyHas IsName IsType IsLabel HasTree (input xs k) = NamesHave IsName xs × IsType k
BodyHas IsName IsType IsLabel HasTree (define x e) = IsName x × HasTree e
BodyHas IsName IsType IsLabel HasTree (formula engine label e) = IsLabel label × HasTree e
BodyHas IsName IsType IsLabel HasTree (contract engine label e f) = IsLabel label × (HasTree e × HasTree f)

-- of all items
abbrev pub ItemsHave : (List ℕ → Type 0) → (TypeShape → Type 0) → (Option (List ℕ) → Type 0) → (Shape → Type 0) → List ItemShape → Type 0
ItemsHave IsName IsType IsLabel HasTree [] = ⊤
ItemsHave IsName IsType IsLabel HasTree (i ∷ is) = BodyHas IsName IsType IsLabel HasTree i.body × ItemsHave IsName IsType IsLabel HasTree is

-- what was read has something, and so have the tokens after it
record Read (Has : What → Type 0) (P : Type 0) (rest : List Token) : Type 0 where
  has : P
  words : AllHave Has rest

-- names and their type
record TypedRead (IsName : List ℕ → Type 0) (IsType : TypeShape → Type 0) (Has : What → Type 0) (xs : List (List ℕ)) (k : TypeShape) (rest : List Token) : Type 0 where
  names : NamesHave IsName xs
  kind : IsType k
  words : AllHave Has rest

-- what is read of a type, of names and their type, and of a label
abbrev pub set_done : TypeShape → List Token → Option (TypeShape × List Token)
set_done k ts = Some (set_of k, ts)

abbrev pub typed_done : List (List ℕ) → TypeShape → List Token → Option (List (List ℕ) × TypeShape × List Token)
typed_done xs k ts = Some (xs, k, ts)

abbrev pub label_done : List ℕ → List Token → Option (List ℕ × List Token)
label_done x ts = Some (x, ts)

-- A token that is a word has a name, types are made of names, and a tree of tokens has what they have.
module _ (Has : What → Type 0) (IsName : List ℕ → Type 0) (IsType : TypeShape → Type 0) (IsLabel : Option (List ℕ) → Type 0) (HasTree : Shape → Type 0)
    (word_named : (w : What) (x : List ℕ) → w ≡ what.Word x → Has w → IsName x)
    (type_is : (x : List ℕ) → IsName x → IsType (type_named x)) (bool_is : IsType (type_named (codes "bool"))) (int_is : IsType (type_named (codes "int")))
    (set_is : (k : TypeShape) → IsType k → IsType (set_of k)) (no_label : IsLabel None) (label_is : (x : List ℕ) → IsName x → IsLabel (Some x))
    (tree-has : (ts : List Token) (e : Shape) → parsed_tree ts ≡ Some e → AllHave Has ts → HasTree e) where
  abbrev Words : List Token → Type 0
  Words ts = AllHave Has ts

  abbrev Names : List (List ℕ) → Type 0
  Names xs = NamesHave IsName xs

  abbrev Fields : List FieldShape → Type 0
  Fields fs = FieldsHave IsName IsType fs

  abbrev Body : BodyShape → Type 0
  Body b = BodyHas IsName IsType IsLabel HasTree b

  abbrev Items : List ItemShape → Type 0
  Items is = ItemsHave IsName IsType IsLabel HasTree is

  past-words : (s : Sign) (ts rest : List Token) → past s ts ≡ Some rest → Words ts → Words rest
  past-words s ts rest h words = let begins = past-begins s ts rest h in words-tail Has begins.at rest (subst Words begins.joined words)

  name-words : (ts : List Token) (x : List ℕ) (rest : List Token) → name_at ts ≡ Some (x, rest) → Words ts → Read Has (IsName x) rest
  name-words ts x rest h words =
      let named = name_at-names ts x rest h in
      let all : Words (named.at ∷ rest) = subst Words named.joined words in
      record { has = word_named named.at.what x named.is (words-head Has named.at rest all); words = words-tail Has named.at rest all }

  type-done : (j k : TypeShape) (ts rest : List Token) → ◌≡◌ {A = Option (TypeShape × List Token)} (Some (j, ts)) (Some (k, rest)) → IsType j →
      Words ts → Read Has (IsType k) rest
  type-done j k ts rest h has words =
      let same = some_pair_parts j k ts rest h in record { has = subst IsType same.0 has; words = subst Words same.1 words }

  set-names : (n : ℕ) (ts : List Token) (k : TypeShape) (rest : List Token) →
      ((us : List Token) (j : TypeShape) (vs : List Token) → type_within n us ≡ Some (j, vs) → Words us → Read Has (IsType j) vs) →
      (past sign.Less ts >>= λ us. type_within n us >>= λ j. past sign.Greater j.1 >>= λ vs. set_done j.0 vs) ≡ Some (k, rest) → Words ts → Read Has (IsType k) rest
  set-names n ts k rest ih h words =
      let less = bind-some (past sign.Less ts) (λ us. type_within n us >>= λ j. past sign.Greater j.1 >>= λ vs. set_done j.0 vs) (k, rest) h in
      let inner = bind-some (type_within n less.0) (λ j. past sign.Greater j.1 >>= λ vs. set_done j.0 vs) (k, rest) less.2 in
      let greater = bind-some (past sign.Greater inner.0.1) (λ vs. set_done inner.0.0 vs) (k, rest) inner.2 in
      let read = ih less.0 inner.0.0 inner.0.1 inner.1 (past-words sign.Less ts less.0 less.1 words) in
      type-done (set_of inner.0.0) k greater.0 rest greater.2 (set_is inner.0.0 read.has) (past-words sign.Greater inner.0.1 greater.0 greater.1 read.words)

  type_in-names : (n : ℕ) (w : What) (ts : List Token) (k : TypeShape) (rest : List Token) →
      ((us : List Token) (j : TypeShape) (vs : List Token) → type_within n us ≡ Some (j, vs) → Words us → Read Has (IsType j) vs) →
      Has w → type_in (type_within n) w ts ≡ Some (k, rest) → Words ts → Read Has (IsType k) rest
  type_in-names n (what.Word x) ts k rest ih has h words = type-done (type_named x) k ts rest h (type_is x (word_named (what.Word x) x refl has)) words
  type_in-names n (what.Reserved keyword.Bool) ts k rest ih has h words = type-done (type_named (codes "bool")) k ts rest h bool_is words
  type_in-names n (what.Reserved keyword.Int) ts k rest ih has h words = type-done (type_named (codes "int")) k ts rest h int_is words
  type_in-names n (what.Reserved keyword.Set) ts k rest ih has h words = set-names n ts k rest ih h words
  type_in-names n _ ts k rest ih has h words = absurd (cc)

  type-names : (n : ℕ) (ts : List Token) (k : TypeShape) (rest : List Token) → type_within n ts ≡ Some (k, rest) → Words ts → Read Has (IsType k) rest
  unfolding type_within
  type-names (suc n) (t ∷ ts) k rest h words =
      type_in-names n t.what ts k rest (λ us j vs is has. type-names n us j vs is has) (words-head Has t ts words) h (words-tail Has t ts words)
  type-names _ _ k rest h words = absurd (cc)

  names-done : (xs ys : List (List ℕ)) (ts rest : List Token) → ◌≡◌ {A = Option (List (List ℕ) × List Token)} (Some (xs, ts)) (Some (ys, rest)) → Names xs →
      Words ts → Read Has (Names ys) rest
  names-done xs ys ts rest h has words =
      let same = some_pair_parts xs ys ts rest h in record { has = subst Names same.0 has; words = subst Words same.1 words }

  more-names : (n : ℕ) (x : List ℕ) (ts : List Token) (v : Option (List Token)) (ys : List (List ℕ)) (rest : List Token) →
      ((us : List Token) (zs : List (List ℕ)) (vs : List Token) → names_within n us ≡ Some (zs, vs) → Words us → Read Has (Names zs) vs) →
      past sign.Comma ts ≡ v → IsName x → names_or (names_within n) x ts v ≡ Some (ys, rest) → Words ts → Read Has (Names ys) rest
  more-names n x ts None ys rest ih is has h words = names-done (x ∷ []) ys ts rest h (has, tt) words
  more-names n x ts (Some us) ys rest ih is has h words =
      let tail = bind-some (names_within n us) (λ xs. Some (x ∷ xs.0, xs.1)) (ys, rest) h in
      let read = ih us tail.0.0 tail.0.1 tail.1 (past-words sign.Comma ts us is words) in
      names-done (x ∷ tail.0.0) ys tail.0.1 rest tail.2 (has, read.has) read.words

  names-names : (n : ℕ) (ts : List Token) (ys : List (List ℕ)) (rest : List Token) → names_within n ts ≡ Some (ys, rest) → Words ts → Read Has (Names ys) rest
  unfolding names_within
  names-names zero ts ys rest h words = absurd (cc)
  names-names (suc n) ts ys rest h words =
      let x = bind-some (name_at ts) (λ x. names_or (names_within n) x.0 x.1 (past sign.Comma x.1)) (ys, rest) h in
      let first = name-words ts x.0.0 x.0.1 x.1 words in
      more-names n x.0.0 x.0.1 (past sign.Comma x.0.1) ys rest (λ us zs vs is has. names-names n us zs vs is has) refl first.has x.2 first.words

  typed-names : (ts : List Token) (d : List (List ℕ) × TypeShape × List Token) → typed_at ts ≡ Some d → Words ts → TypedRead IsName IsType Has d.0 d.1 d.2
  typed-names ts d h words =
      let xs = bind-some (names_at ts) (λ xs. past sign.Colon xs.1 >>= λ us. type_at us >>= λ k. typed_done xs.0 k.0 k.1) d h in
      let colon = bind-some (past sign.Colon xs.0.1) (λ us. type_at us >>= λ k. typed_done xs.0.0 k.0 k.1) d xs.2 in
      let k = bind-some (type_at colon.0) (λ k. typed_done xs.0.0 k.0 k.1) d colon.2 in
      let names = names-names (length ts) ts xs.0.0 xs.0.1 xs.1 words in
      let kind = type-names (length colon.0) colon.0 k.0.0 k.0.1 k.1 (past-words sign.Colon xs.0.1 colon.0 colon.1 names.words) in
      let same : ◌≡◌ {A = List (List ℕ) × TypeShape × List Token} (xs.0.0, k.0.0, k.0.1) d = same_Some (xs.0.0, k.0.0, k.0.1) d k.2 in
      subst (λ (e : List (List ℕ) × TypeShape × List Token). TypedRead IsName IsType Has e.0 e.1 e.2) same
      (record { names = names.has; kind = kind.has; words = kind.words })

  fields-has : (xs : List (List ℕ)) (k : TypeShape) → Names xs → IsType k → Fields (fields_for xs k)
  fields-has [] k hs h = tt
  fields-has (x ∷ xs) k hs h = ((hs.0, h), fields-has xs k hs.1 h)

  fields-append : (fs gs : List FieldShape) → Fields fs → Fields gs → Fields (fs ++ gs)
  fields-append [] gs hf hg = hg
  fields-append (f ∷ fs) gs hf hg = (hf.0, fields-append fs gs hf.1 hg)

  fields-done : (fs gs : List FieldShape) (ts rest : List Token) → ◌≡◌ {A = Option (List FieldShape × List Token)} (Some (fs, ts)) (Some (gs, rest)) →
      Fields fs → Words ts → Read Has (Fields gs) rest
  fields-done fs gs ts rest h has words =
      let same = some_pair_parts fs gs ts rest h in record { has = subst Fields same.0 has; words = subst Words same.1 words }

  more-fields : (n : ℕ) (fs : List FieldShape) (ts : List Token) (v : Option (List Token)) (gs : List FieldShape) (rest : List Token) →
      ((us : List Token) (es : List FieldShape) (vs : List Token) → fields_within n us ≡ Some (es, vs) → Words us → Read Has (Fields es) vs) →
      past sign.RightCurly ts ≡ v → Fields fs → fields_or (fields_within n) fs ts v ≡ Some (gs, rest) → Words ts → Read Has (Fields gs) rest
  more-fields n fs ts (Some us) gs rest ih is has h words = fields-done fs gs us rest h has (past-words sign.RightCurly ts us is words)
  more-fields n fs ts None gs rest ih is has h words =
      let tail = bind-some (fields_within n ts) (λ es. Some (fs ++ es.0, es.1)) (gs, rest) h in
      let read = ih ts tail.0.0 tail.0.1 tail.1 words in
      fields-done (fs ++ tail.0.0) gs tail.0.1 rest tail.2 (fields-append fs tail.0.0 has read.has) read.words

  fields-names : (n : ℕ) (ts : List Token) (gs : List FieldShape) (rest : List Token) → fields_within n ts ≡ Some (gs, rest) → Words ts →
      Read Has (Fields gs) rest
  unfolding fields_within
  fields-names zero ts gs rest h words = absurd (cc)
  fields-names (suc n) ts gs rest h words =
      let d = bind-some (typed_at ts) (λ d. past sign.Semicolon d.2 >>= λ us. fields_or (fields_within n) (fields_for d.0 d.1) us (past sign.RightCurly us)) (gs, rest) h in
      let semi = bind-some (past sign.Semicolon d.0.2) (λ us. fields_or (fields_within n) (fields_for d.0.0 d.0.1) us (past sign.RightCurly us)) (gs, rest) d.2 in
      let typed = typed-names ts d.0 d.1 words in
      more-fields n (fields_for d.0.0 d.0.1) semi.0 (past sign.RightCurly semi.0) gs rest (λ us es vs is has. fields-names n us es vs is has) refl
      (fields-has d.0.0 d.0.1 typed.names typed.kind) semi.2 (past-words sign.Semicolon d.0.2 semi.0 semi.1 typed.words)

  struct-names : (ts : List Token) (b : BodyShape) → struct_item ts ≡ Some b → Words ts → Body b
  unfolding struct_item
  struct-names ts b h words =
      let x = bind-some (name_at ts) (λ x. past sign.Colon x.1 >>= λ us. past sign.LeftCurly us >>= λ vs. fields_at vs >>= λ fs. at_end (structure x.0 fs.0) fs.1) b h in
      let colon = bind-some (past sign.Colon x.0.1) (λ us. past sign.LeftCurly us >>= λ vs. fields_at vs >>= λ fs. at_end (structure x.0.0 fs.0) fs.1) b x.2 in
      let curly = bind-some (past sign.LeftCurly colon.0) (λ vs. fields_at vs >>= λ fs. at_end (structure x.0.0 fs.0) fs.1) b colon.2 in
      let fs = bind-some (fields_at curly.0) (λ fs. at_end (structure x.0.0 fs.0) fs.1) b curly.2 in
      let end = at_end-is (structure x.0.0 fs.0.0) b fs.0.1 fs.2 in
      let name = name-words ts x.0.0 x.0.1 x.1 words in
      let fields = fields-names (length curly.0) curly.0 fs.0.0 fs.0.1 fs.1
      (past-words sign.LeftCurly colon.0 curly.0 curly.1 (past-words sign.Colon x.0.1 colon.0 colon.1 name.words)) in
      subst Body end.0 (name.has, fields.has)

  input-names : (ts : List Token) (b : BodyShape) → input_of ts ≡ Some b → Words ts → Body b
  unfolding input_of
  input-names ts b h words =
      let d = bind-some (typed_at ts) (λ d. at_end (input d.0 d.1) d.2) b h in
      let end = at_end-is (input d.0.0 d.0.1) b d.0.2 d.2 in
      let typed = typed-names ts d.0 d.1 words in
      subst Body end.0 (typed.names, typed.kind)

  define-names : (ts : List Token) (b : BodyShape) → define_of ts ≡ Some b → Words ts → Body b
  unfolding define_of
  define-names ts b h words =
      let x = bind-some (name_at ts) (λ x. past sign.Becomes x.1 >>= λ us. parsed_tree us >>= λ e. Some (define x.0 e)) b h in
      let becomes = bind-some (past sign.Becomes x.0.1) (λ us. parsed_tree us >>= λ e. Some (define x.0.0 e)) b x.2 in
      let e = bind-some (parsed_tree becomes.0) (λ e. Some (define x.0.0 e)) b becomes.2 in
      let name = name-words ts x.0.0 x.0.1 x.1 words in
      subst Body (same_Some (define x.0.0 e.0) b e.2)
      (name.has, tree-has becomes.0 e.0 e.1 (past-words sign.Becomes x.0.1 becomes.0 becomes.1 name.words))

  labelled-names : (ts : List Token) (v : Option (List ℕ × List Token)) → (name_at ts >>= λ x. past sign.Colon x.1 >>= λ us. label_done x.0 us) ≡ v → Words ts →
      Read Has (IsLabel (labelled ts v).0) (labelled ts v).1
  labelled-names ts None is words = record { has = no_label; words = words }
  labelled-names ts (Some r) is words =
      let x = bind-some (name_at ts) (λ x. past sign.Colon x.1 >>= λ us. label_done x.0 us) r is in
      let colon = bind-some (past sign.Colon x.0.1) (λ us. label_done x.0.0 us) r x.2 in
      let name = name-words ts x.0.0 x.0.1 x.1 words in
      let same : ◌≡◌ {A = List ℕ × List Token} (x.0.0, colon.0) r = same_Some (x.0.0, colon.0) r colon.2 in
      subst (λ (q : List ℕ × List Token). Read Has (IsLabel (Some q.0)) q.1) same
      (record { has = label_is x.0.0 name.has; words = past-words sign.Colon x.0.1 colon.0 colon.1 name.words })

  take-words : (n : ℕ) (ts : List Token) → Words ts → Words (take n ts)
  take-words (suc n) (t ∷ ts) words = words-cons Has t (take n ts) (words-head Has t ts words) (take-words n ts (words-tail Has t ts words))
  take-words _ _ words = words-nil Has

  drop-words : (n : ℕ) (ts : List Token) → Words ts → Words (drop n ts)
  drop-words zero ts words = words
  drop-words (suc n) [] words = words-nil Has
  drop-words (suc n) (t ∷ ts) words = drop-words n ts (words-tail Has t ts words)

  contract-names : (engine : Engine) (label : Option (List ℕ)) (left right : List Token) (b : BodyShape) → contract_of engine label left right ≡ Some b →
      IsLabel label → Words left → Words right → Body b
  contract-names engine label left right b h has left_words right_words =
      elim (if-cases (is_some (promise_at 0 0 right)) None (parsed_tree left >>= λ e. parsed_tree right >>= λ f. Some (contract engine label e f)) (Some b) h) [
        | inl p ↦ absurd (let none = p.1 in cc)
        | inr p ↦
            let e = bind-some (parsed_tree left) (λ e. parsed_tree right >>= λ f. Some (contract engine label e f)) b p.1 in
            let f = bind-some (parsed_tree right) (λ f. Some (contract engine label e.0 f)) b e.2 in
            subst Body (same_Some (contract engine label e.0 f.0) b f.2)
            (has, (tree-has left e.0 e.1 left_words, tree-has right f.0 f.1 right_words))
      ]

  output_at-names : (engine : Engine) (label : Option (List ℕ)) (ts : List Token) (v : Option ℕ) (b : BodyShape) → output_at engine label ts v ≡ Some b →
      IsLabel label → Words ts → Body b
  output_at-names engine label ts None b h has words =
      let e = bind-some (parsed_tree ts) (λ e. Some (formula engine label e)) b h in
      subst Body (same_Some (formula engine label e.0) b e.2) (has, tree-has ts e.0 e.1 words)
  output_at-names engine label ts (Some n) b h has words =
      contract-names engine label (take n ts) (drop (n + 1) ts) b h has (take-words n ts words) (drop-words (n + 1) ts words)

  output-names : (engine : Engine) (ts : List Token) (b : BodyShape) → output_item engine ts ≡ Some b → Words ts → Body b
  unfolding output_item label_at
  output-names engine ts b h words =
      let label = labelled-names ts (name_at ts >>= λ x. past sign.Colon x.1 >>= λ us. label_done x.0 us) refl words in
      output_at-names engine (label_at ts).0 (label_at ts).1 (promise_at 0 0 (label_at ts).1) b h label.has label.words

  body-names : (section : Section) (ts : List Token) (b : BodyShape) → body_of section ts ≡ Some b → Words ts → Body b
  body-names Struct ts b h words = struct-names ts b h words
  body-names Input ts b h words = input-names ts b h words
  body-names Define ts b h words = define-names ts b h words
  body-names (Output engine) ts b h words = output-names engine ts b h words

  -- pieces of such tokens
  Pieces : List Statement → Type 0
  Pieces [] = ⊤
  Pieces (p ∷ ps) = Words p.tokens × Pieces ps

  left_over-has : (s : Option Section) (before : List Token) (ps : List Statement) → Words before → Pieces ps → Pieces (unended_piece s before ++ ps)
  unfolding Pieces
  left_over-has s [] ps words rest = rest
  left_over-has s (t ∷ before) ps words rest = (words, rest)

  left_over-alone : (s : Option Section) (before : List Token) → Words before → Pieces (unended_piece s before)
  unfolding Pieces
  left_over-alone s [] words = tt
  left_over-alone s (t ∷ before) words = (words, tt)

  chosen-has : (v : Option Section) (b : Bool) (f : Section → List Statement) (x y : List Statement) → ((next : Section) → Pieces (f next)) →
      Pieces x → Pieces y → Pieces (chosen v b f x y)
  chosen-has (Some next) b f x y hf hx hy = hf next
  chosen-has None true f x y hf hx hy = hx
  chosen-has None false f x y hf hx hy = hy

  pieces-has : (s : Option Section) (d : ℕ) (before ts : List Token) → Words before → Words ts → Pieces (pieces s d before ts)
  unfolding pieces Pieces
  pieces-has s d before [] words rest = left_over-alone s before words
  pieces-has s d before (t ∷ ts) words rest =
      let tail = words-tail Has t ts rest in
      chosen-has (section_of t.what) (is_end s d t.what) (λ next. unended_piece s before ++ pieces (Some next) 0 [] ts)
      (item_of s t.line before ∷ pieces s 0 [] ts) (pieces s (braces_after t.what d) (before ++ t ∷ []) ts)
      (λ next. left_over-has s before (pieces (Some next) 0 [] ts) words (pieces-has (Some next) 0 [] ts (words-nil Has) tail))
      (words, pieces-has s 0 [] ts (words-nil Has) tail)
      (pieces-has s (braces_after t.what d) (before ++ t ∷ []) ts
      (words-append Has before (t ∷ []) words (words-cons Has t [] (words-head Has t ts rest) (words-nil Has))) tail)

  piece_body-names : (s : Option Section) (ended : Bool) (ts : List Token) (b : BodyShape) → piece_body s ended ts ≡ Some b → Words ts → Body b
  piece_body-names (Some section) true ts b h words = body-names section ts b h words
  piece_body-names _ _ ts b h words = absurd (cc)

  with_line-names : (line : ℕ) (v : Option BodyShape) (item : ItemShape) → ((b : BodyShape) → v ≡ Some b → Body b) → with_line line v ≡ Ok item →
      Body item.body
  with_line-names line None item ih h = absurd (cc)
  with_line-names line (Some b) item ih h =
      let made : ItemShape = record { line = line; body = b } in
      let same : made ≡ item = cc in
      subst (λ i. Body i.body) same (ih b refl)

  piece_tree-has : (p : Statement) (item : ItemShape) → piece_tree p ≡ Ok item → Words p.tokens → Body item.body
  piece_tree-has p item h words =
      elim (if-cases (nat_lt 1024 (length p.tokens)) (Err (TooManyTokens p.line)) (with_line p.line (piece_body p.section p.ended p.tokens)) (Ok item) h) [
        | inl c ↦ absurd (let many = c.1 in cc)
        | inr c ↦ with_line-names p.line (piece_body p.section p.ended p.tokens) item (λ b is. piece_body-names p.section p.ended p.tokens b is words) c.1
      ]

  first-names : (r : Result ItemShape ParseFault) (others : Result (List ItemShape) ParseFault) (items : List ItemShape) →
      ((item : ItemShape) → r ≡ Ok item → Body item.body) → ((is : List ItemShape) → others ≡ Ok is → Items is) →
      first_or r others ≡ Ok items → Items items
  first-names (Ok item) (Ok is) items hr ho h = let same : item ∷ is ≡ items = cc in subst Items same (hr item refl, ho is refl)
  first-names _ _ items hr ho h = absurd (cc)

  trees-names : (ps : List Statement) (items : List ItemShape) → Pieces ps → piece_trees ps ≡ Ok items → Items items
  unfolding piece_trees Pieces
  trees-names [] items has h = let same : [] ≡ items = cc in subst Items same tt
  trees-names (p ∷ ps) items has h =
      first-names (piece_tree p) (piece_trees ps) items (λ item is. piece_tree-has p item is has.0) (λ is same. trees-names ps is has.1 same) h

  pub spec-have : (ts : List Token) (items : List ItemShape) → spec_of ts ≡ Ok items → Words ts → Items items
  unfolding spec_of
  spec-have ts items h words = trees-names (pieces None 0 [] ts) items (pieces-has None 0 [] ts (words-nil Has) words) h
