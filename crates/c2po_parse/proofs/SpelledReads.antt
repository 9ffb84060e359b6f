use Rattle.std.proofs.Common.{◌≡◌, ℕ, zero, suc, ◌+◌, ◌≤◌, Bool, true, false, List, [], ◌∷◌, ◌++◌, length, length-append, take, drop, refl, ap, sym, ◌∙◌, subst, arith, Option, Some, None, append_assoc}
use Rattle.std.proofs.lemmas.Bool.Decides.{nat_tests}
use Rattle.std.proofs.lemmas.List.{append-nil}
use Rattle.mltl_base.specs.declared.interval.Engine.{Engine}
use Rattle.c2po_lexer.specs.declared.token.Sign.{Sign}
use Rattle.c2po_lexer.specs.declared.token.Sign.TheVariants as sign
use Rattle.c2po_lexer.specs.declared.token.Keyword.TheVariants as keyword
use Rattle.c2po_lexer.specs.declared.token.What.{What}
use Rattle.c2po_lexer.specs.declared.token.What.TheVariants as what
use Rattle.c2po_lexer.specs.declared.token.Token.{Token}
use Rattle.c2po_ast.specs.Shape.{Shape}
use Rattle.c2po_ast.specs.ItemShape.{TypeShape, FieldShape, BodyShape, set_of, structure, input, define, formula, contract}
use Rattle.c2po_parse.proofs.ItemWalk.{label_done}
use Rattle.c2po_parse.specs.Tokens.{is_sign, ends_operand, depth_after, is_separator}
use Rattle.c2po_parse.specs.Fronts.{◌>>=◌, past, word_in, name_at}
use Rattle.c2po_parse.specs.Splitting.{parsed_tree}
use Rattle.c2po_parse.specs.Grammar.{IsSign, IsNamed, SpellsType, name_type, bool_type, int_type, set_type, SpellNames, one_name, and_names, SpellTyped, fields_for, SpellFields, one_list, and_lists, SpellsLabel, no_label, is_label, SpellsItem, is_struct, is_input, is_define, is_formula, is_contract}
use Rattle.c2po_parse.specs.Forms.{type_within, type_at, names_within, names_at, typed_at, fields_or, fields_within, fields_at, struct_item, input_of, define_of, labelled, label_at, is_promise, promise_at, contract_of, output_at, output_item, body_of}
use Rattle.c2po_parse.specs.declared.section.Section.{Section}
use Rattle.c2po_parse.proofs.Walks.{IsQuiet, Quiet, ends_of, depth_of}
use Rattle.c2po_parse.proofs.Heads.{past-at}
use Rattle.c2po_parse.proofs.Rules.{QuietTo, Derives}
use Rattle.c2po_parse.proofs.Rules as rules
use Rattle.c2po_parse.proofs.Agree.{tree-derives}

-- What the grammar gives to tokens is read from them.

type-some : (ts : List Token) (k : TypeShape) → SpellsType ts k → 1 ≤ length ts
type-some _ _ (name_type t x is) = omega arith
type-some _ _ _ = omega arith

set-reads : (n : ℕ) (t less greater : Token) (vs us rest : List Token) (k : TypeShape) → t.what ≡ what.Reserved keyword.Set → IsSign sign.Less less →
    type_within n us ≡ Some (k, greater ∷ rest) → IsSign sign.Greater greater → vs ≡ us → type_within (suc n) (t ∷ less ∷ vs) ≡ Some (set_of k, rest)
unfolding type_within
set-reads n t less greater vs us rest k is is_less inner is_greater same =
    rw (is, past-at sign.Less less vs is_less, same, inner, past-at sign.Greater greater rest is_greater) refl

type-reads : (n : ℕ) (ts rest : List Token) (k : TypeShape) → SpellsType ts k → length ts ≤ n → type_within n (ts ++ rest) ≡ Some (k, rest)
unfolding type_within
type-reads zero ts rest k s le = absurd (omega (arith, type-some ts k s))
type-reads (suc n) _ rest _ (name_type t x is) le = rw is refl
type-reads (suc n) _ rest _ (bool_type t is) le = rw is refl
type-reads (suc n) _ rest _ (int_type t is) le = rw is refl
type-reads (suc n) _ rest _ (set_type t less ts greater k is is_less inner is_greater) le =
    let size = length-append ts (greater ∷ []) in
    set-reads n t less greater ((ts ++ greater ∷ []) ++ rest) (ts ++ greater ∷ rest) rest k is is_less (type-reads n ts (greater ∷ rest) k inner (omega arith)) is_greater
    (append_assoc ts (greater ∷ []) rest)

names-some : (ts : List Token) (xs : List (List ℕ)) → SpellNames ts xs → 1 ≤ length ts
names-some _ _ (one_name t x is) = omega arith
names-some _ _ (and_names t comma ts x xs is is_comma inner) = omega arith

names-read : (n : ℕ) (ts rest : List Token) (xs : List (List ℕ)) → SpellNames ts xs → length ts ≤ n → past sign.Comma rest ≡ None →
    names_within n (ts ++ rest) ≡ Some (xs, rest)
unfolding names_within
names-read zero ts rest xs s le none = absurd (omega (arith, names-some ts xs s))
names-read (suc n) _ rest _ (one_name t x is) le none = rw (is, none) refl
names-read (suc n) _ rest _ (and_names t comma ts x xs is is_comma inner) le none =
    rw (is, past-at sign.Comma comma (ts ++ rest) is_comma, names-read n ts rest xs inner (omega arith) none) refl

-- a name is no sign
names-begin : (s : Sign) (ts rest : List Token) (xs : List (List ℕ)) → SpellNames ts xs → past s (ts ++ rest) ≡ None
names-begin s _ rest _ (one_name t x is) = rw is refl
names-begin s _ rest _ (and_names t comma ts x xs is is_comma inner) = rw is refl

typed-all : (ts rest : List Token) (xs : List (List ℕ)) (k : TypeShape) (s : SpellTyped ts xs k) → ts ++ rest ≡ s.names ++ s.colon ∷ (s.kind ++ rest)
typed-all ts rest xs k s = ap (λ us. us ++ rest) s.all ∙ append_assoc s.names (s.colon ∷ s.kind) rest

colon-no-comma : (t : Token) (ts : List Token) → IsSign sign.Colon t → past sign.Comma (t ∷ ts) ≡ None
colon-no-comma t ts is = rw is refl

typed-by : (us vs ws rest : List Token) (xs : List (List ℕ)) (k : TypeShape) → names_at us ≡ Some (xs, vs) → past sign.Colon vs ≡ Some ws →
    type_at ws ≡ Some (k, rest) → typed_at us ≡ Some (xs, k, rest)
typed-by us vs ws rest xs k a b c = rw (a, b, c) refl

typed-reads : (ts rest : List Token) (xs : List (List ℕ)) (k : TypeShape) → SpellTyped ts xs k → typed_at (ts ++ rest) ≡ Some (xs, k, rest)
typed-reads ts rest xs k s =
    let us : List Token = s.kind ++ rest in
    let size = length-append s.names (s.colon ∷ us) in
    let kind_size : length us ≡ length s.kind + length rest = length-append s.kind rest in
    let names : names_at (s.names ++ s.colon ∷ us) ≡ Some (xs, s.colon ∷ us) =
    names-read (length (s.names ++ s.colon ∷ us)) s.names (s.colon ∷ us) xs s.are_names (omega arith) (colon-no-comma s.colon us s.is_colon) in
    let kind : type_at us ≡ Some (k, rest) = type-reads (length us) s.kind rest k s.is_type (omega arith) in
    ap typed_at (typed-all ts rest xs k s)
    ∙ typed-by (s.names ++ s.colon ∷ us) (s.colon ∷ us) us rest xs k names (past-at sign.Colon s.colon us s.is_colon) kind

typed-alone : (ts : List Token) (xs : List (List ℕ)) (k : TypeShape) → SpellTyped ts xs k → typed_at ts ≡ Some (xs, k, [])
typed-alone ts xs k s = ap typed_at (sym (append-nil ts)) ∙ typed-reads ts [] xs k s

typed-begin : (s : Sign) (ts rest : List Token) (xs : List (List ℕ)) (k : TypeShape) → SpellTyped ts xs k → past s (ts ++ rest) ≡ None
typed-begin s ts rest xs k typed = ap (past s) (typed-all ts rest xs k typed) ∙ names-begin s typed.names (typed.colon ∷ (typed.kind ++ rest)) xs typed.are_names

fields-begin : (s : Sign) (ts rest : List Token) (fs : List FieldShape) → SpellFields ts fs → past s (ts ++ rest) ≡ None
fields-begin s _ rest _ (one_list ts semicolon xs k typed is) =
    ap (past s) (append_assoc ts (semicolon ∷ []) rest) ∙ typed-begin s ts (semicolon ∷ rest) xs k typed
fields-begin s _ rest _ (and_lists ts semicolon us xs k fs typed is inner) =
    ap (past s) (append_assoc ts (semicolon ∷ us) rest) ∙ typed-begin s ts (semicolon ∷ (us ++ rest)) xs k typed

fields-some : (ts : List Token) (fs : List FieldShape) → SpellFields ts fs → 1 ≤ length ts
fields-some _ _ (one_list ts semicolon xs k typed is) = let size = length-append ts (semicolon ∷ []) in omega arith
fields-some _ _ (and_lists ts semicolon us xs k fs typed is inner) = let size = length-append ts (semicolon ∷ us) in omega arith

fields-by : (n : ℕ) (us vs ws : List Token) (xs : List (List ℕ)) (k : TypeShape) (v : Option (List Token)) (r : Option (List FieldShape × List Token)) →
    typed_at us ≡ Some (xs, k, vs) → past sign.Semicolon vs ≡ Some ws → past sign.RightCurly ws ≡ v →
    fields_or (fields_within n) (fields_for xs k) ws v ≡ r → fields_within (suc n) us ≡ r
unfolding fields_within
fields-by n us vs ws xs k v r a b c h = rw (a, b, c) h

fields-read : (n : ℕ) (ts : List Token) (right : Token) (rest : List Token) (fs : List FieldShape) → SpellFields ts fs → IsSign sign.RightCurly right →
    length ts ≤ n → fields_within n (ts ++ right ∷ rest) ≡ Some (fs, rest)
fields-read zero ts right rest fs s close le = absurd (omega (arith, fields-some ts fs s))
fields-read (suc n) _ right rest _ (one_list ts semicolon xs k typed is) close le =
    ap (fields_within (suc n)) (append_assoc ts (semicolon ∷ []) (right ∷ rest))
    ∙ fields-by n (ts ++ semicolon ∷ right ∷ rest) (semicolon ∷ right ∷ rest) (right ∷ rest) xs k (Some rest) (Some (fields_for xs k, rest))
    (typed-reads ts (semicolon ∷ right ∷ rest) xs k typed) (past-at sign.Semicolon semicolon (right ∷ rest) is) (past-at sign.RightCurly right rest close) refl
fields-read (suc n) _ right rest _ (and_lists ts semicolon us xs k fs typed is inner) close le =
    let size = length-append ts (semicolon ∷ us) in
    let tail = fields-read n us right rest fs inner close (omega arith) in
    ap (fields_within (suc n)) (append_assoc ts (semicolon ∷ us) (right ∷ rest))
    ∙ fields-by n (ts ++ semicolon ∷ (us ++ right ∷ rest)) (semicolon ∷ (us ++ right ∷ rest)) (us ++ right ∷ rest) xs k None (Some (fields_for xs k ++ fs, rest))
    (typed-reads ts (semicolon ∷ (us ++ right ∷ rest)) xs k typed) (past-at sign.Semicolon semicolon (us ++ right ∷ rest) is)
    (fields-begin sign.RightCurly us (right ∷ rest) fs inner) (rw tail refl)

struct-by : (us vs ws zs : List Token) (x : List ℕ) (fs : List FieldShape) → name_at us ≡ Some (x, vs) → past sign.Colon vs ≡ Some ws →
    past sign.LeftCurly ws ≡ Some zs → fields_at zs ≡ Some (fs, []) → struct_item us ≡ Some (structure x fs)
unfolding struct_item
struct-by us vs ws zs x fs a b c d = rw (a, b, c, d) refl

-- names and colons, and whether a label is there
label-none : (us : List Token) → (name_at us >>= λ x. past sign.Colon x.1 >>= λ vs. label_done x.0 vs) ≡ None → label_at us ≡ (None, us)
unfolding label_at
label-none us h = ap (labelled us) h

first-none : (w : What) (vs : List Token) → ((x : List ℕ) → w ≡ what.Word x → past sign.Colon vs ≡ None) →
    (word_in w vs >>= λ x. past sign.Colon x.1 >>= λ us. label_done x.0 us) ≡ None
first-none (what.Word x) vs h = rw (h x refl) refl
first-none _ vs h = refl

separator-colon : (w : What) → is_separator w ≡ false → is_sign sign.Colon w ≡ false
separator-colon (what.Sign sign.Colon) h = absurd (cc)
separator-colon _ h = refl

separator-promise : (w : What) → is_separator w ≡ false → is_sign sign.Promises w ≡ false
separator-promise (what.Sign sign.Promises) h = absurd (cc)
separator-promise _ h = refl

no-colon : (t : Token) (ts : List Token) → is_separator t.what ≡ false → past sign.Colon (t ∷ ts) ≡ None
no-colon t ts h = rw (separator-colon t.what h) refl

second-plain : (k : ℕ) (t u : Token) (ts : List Token) (x : List ℕ) → t.what ≡ what.Word x → Quiet k false 0 (t ∷ u ∷ ts) → is_separator u.what ≡ false
unfolding Quiet
second-plain k t u ts x is quiet =
    let flat : depth_after t.what 0 ≡ 0 = rw is refl in
    let plain : IsQuiet k (ends_operand t.what) 0 u = subst (λ d. IsQuiet k (ends_operand t.what) d u) flat quiet.1.0 in
    plain.apart

unlabelled : (k : ℕ) (ts rest : List Token) → Quiet k false 0 ts → 1 ≤ length ts → past sign.Colon rest ≡ None → label_at (ts ++ rest) ≡ (None, ts ++ rest)
unlabelled k [] rest quiet some none = absurd (omega arith)
unlabelled k (t ∷ []) rest quiet some none = label-none (t ∷ rest) (first-none t.what rest (λ x is. none))
unlabelled k (t ∷ u ∷ ts) rest quiet some none =
    label-none (t ∷ u ∷ (ts ++ rest)) (first-none t.what (u ∷ (ts ++ rest)) (λ x is. no-colon u (ts ++ rest) (second-plain k t u ts x is quiet)))

-- where `=>` is outside brackets
not-promise : (k : ℕ) (a : Bool) (d : ℕ) (t : Token) → IsQuiet k a d t → is_promise d t.what ≡ false
not-promise k a zero t quiet = separator-promise t.what quiet.apart
not-promise k a (suc d) t quiet = grind (arith, nat_tests)

promise-none : (k : ℕ) (a : Bool) (d place : ℕ) (ts : List Token) → Quiet k a d ts → promise_at place d ts ≡ None
unfolding Quiet promise_at
promise-none k a d place [] quiet = refl
promise-none k a d place (t ∷ ts) quiet =
    rw (not-promise k a d t quiet.0) (promise-none k (ends_operand t.what) (depth_after t.what d) (place + 1) ts quiet.1)

promise-found : (k : ℕ) (a : Bool) (d place : ℕ) (ts : List Token) (t : Token) (us : List Token) → Quiet k a d ts → depth_of d ts ≡ 0 → IsSign sign.Promises t →
    promise_at place d (ts ++ t ∷ us) ≡ Some (place + length ts)
unfolding Quiet promise_at depth_of
promise-found k a d place [] t us quiet deep is = let same : place ≡ place + 0 = omega arith in rw (deep, is) (ap Some same)
promise-found k a d place (u ∷ ts) t us quiet deep is =
    let same : place + 1 + length ts ≡ place + length (u ∷ ts) = omega arith in
    rw (not-promise k a d u quiet.0)
    (promise-found k (ends_operand u.what) (depth_after u.what d) (place + 1) ts t us quiet.1 deep is ∙ ap Some same)

take-left : (ts us : List Token) → take (length ts) (ts ++ us) ≡ ts
take-left [] us = refl
take-left (t ∷ ts) us = ap (λ vs. t ∷ vs) (take-left ts us)

drop-left : (ts us : List Token) → drop (length ts) (ts ++ us) ≡ us
drop-left [] us = refl
drop-left (t ∷ ts) us = drop-left ts us

drop-past : (ts : List Token) (t : Token) (us : List Token) → drop (length ts + 1) (ts ++ t ∷ us) ≡ us
drop-past ts t us =
    let size = length-append ts (t ∷ []) in
    let one : length (ts ++ t ∷ []) ≡ length ts + 1 = omega arith in
    subst (λ n. drop n (ts ++ t ∷ us) ≡ us) one (ap (drop (length (ts ++ t ∷ []))) (sym (append_assoc ts (t ∷ []) us)) ∙ drop-left (ts ++ t ∷ []) us)

-- what an expression is not
tree-quiet : (ts : List Token) (e : Shape) → parsed_tree ts ≡ Some e → QuietTo 1 false 0 true 0 ts
tree-quiet ts e h = rules.whole 1 ts e (tree-derives ts e h)

some-tokens : (ts : List Token) → QuietTo 1 false 0 true 0 ts → 1 ≤ length ts
unfolding ends_of
some-tokens [] q = let none : false ≡ true = q.ends in absurd (cc)
some-tokens (t ∷ ts) q = omega arith

label-reads : (ls us : List Token) (name : Option (List ℕ)) → SpellsLabel ls name → label_at us ≡ (None, us) → label_at (ls ++ us) ≡ (name, us)
unfolding label_at
label-reads _ us _ no_label none = none
label-reads _ us _ (is_label t colon x is is_colon) none = rw (is, past-at sign.Colon colon us is_colon) refl

output-by : (engine : Engine) (ts us : List Token) (name : Option (List ℕ)) (v : Option ℕ) (r : Option BodyShape) → label_at ts ≡ (name, us) →
    promise_at 0 0 us ≡ v → output_at engine name us v ≡ r → output_item engine ts ≡ r
unfolding output_item
output-by engine ts us name v r label place h =
    ap (λ (x : Option (List ℕ) × List Token). output_at engine x.0 x.1 (promise_at 0 0 x.1)) label ∙ rw place h

contract-by : (engine : Engine) (name : Option (List ℕ)) (left right : List Token) (e f : Shape) → promise_at 0 0 right ≡ None → parsed_tree left ≡ Some e →
    parsed_tree right ≡ Some f → contract_of engine name left right ≡ Some (contract engine name e f)
contract-by engine name left right e f none a b = rw (none, a, b) refl

formula-reads : (engine : Engine) (ls ts : List Token) (name : Option (List ℕ)) (e : Shape) → SpellsLabel ls name → parsed_tree ts ≡ Some e →
    output_item engine (ls ++ ts) ≡ Some (formula engine name e)
formula-reads engine ls ts name e label tree =
    let q = tree-quiet ts e tree in
    let alone : label_at ts ≡ (None, ts) =
    subst (λ us. label_at us ≡ (None, us)) (append-nil ts) (unlabelled 1 ts [] q.quiet (some-tokens ts q) refl) in
    output-by engine (ls ++ ts) ts name None (Some (formula engine name e)) (label-reads ls ts name label alone) (promise-none 1 false 0 0 ts q.quiet) (rw tree refl)

promise-no-colon : (t : Token) (ts : List Token) → IsSign sign.Promises t → past sign.Colon (t ∷ ts) ≡ None
promise-no-colon t ts is = rw is refl

contract-reads : (engine : Engine) (ls ts : List Token) (t : Token) (us : List Token) (name : Option (List ℕ)) (e f : Shape) → SpellsLabel ls name →
    parsed_tree ts ≡ Some e → IsSign sign.Promises t → parsed_tree us ≡ Some f → output_item engine (ls ++ (ts ++ t ∷ us)) ≡ Some (contract engine name e f)
contract-reads engine ls ts t us name e f label left is right =
    let q = tree-quiet ts e left in
    let r = tree-quiet us f right in
    let alone = unlabelled 1 ts (t ∷ us) q.quiet (some-tokens ts q) (promise-no-colon t us is) in
    let place : promise_at 0 0 (ts ++ t ∷ us) ≡ Some (length ts) =
    let same : 0 + length ts ≡ length ts = omega arith in promise-found 1 false 0 0 ts t us q.quiet q.depth is ∙ ap Some same in
    output-by engine (ls ++ (ts ++ t ∷ us)) (ts ++ t ∷ us) name (Some (length ts)) (Some (contract engine name e f)) (label-reads ls (ts ++ t ∷ us) name label alone) place
    (rw (take-left ts (t ∷ us), drop-past ts t us) (contract-by engine name ts us e f (promise-none 1 false 0 0 us r.quiet) left right))

define-reads : (t becomes : Token) (ts : List Token) (x : List ℕ) (e : Shape) → IsNamed x t → IsSign sign.Becomes becomes → parsed_tree ts ≡ Some e →
    define_of (t ∷ becomes ∷ ts) ≡ Some (define x e)
unfolding define_of
define-reads t becomes ts x e is is_becomes tree = rw (is, past-at sign.Becomes becomes ts is_becomes, tree) refl

input-reads : (ts : List Token) (xs : List (List ℕ)) (k : TypeShape) → SpellTyped ts xs k → input_of ts ≡ Some (input xs k)
unfolding input_of
input-reads ts xs k typed = rw (typed-alone ts xs k typed) refl

name-reads : (t : Token) (x : List ℕ) (ts : List Token) → IsNamed x t → name_at (t ∷ ts) ≡ Some (x, ts)
name-reads t x ts is = rw is refl

struct-reads : (t colon left : Token) (ts : List Token) (right : Token) (x : List ℕ) (fs : List FieldShape) → IsNamed x t → IsSign sign.Colon colon →
    IsSign sign.LeftCurly left → SpellFields ts fs → IsSign sign.RightCurly right → struct_item (t ∷ colon ∷ left ∷ (ts ++ right ∷ [])) ≡ Some (structure x fs)
struct-reads t colon left ts right x fs is is_colon is_left fields is_right =
    let rest : List Token = ts ++ right ∷ [] in
    let size : length rest ≡ length ts + 1 = length-append ts (right ∷ []) in
    struct-by (t ∷ colon ∷ left ∷ rest) (colon ∷ left ∷ rest) (left ∷ rest) rest x fs (name-reads t x (colon ∷ left ∷ rest) is)
    (past-at sign.Colon colon (left ∷ rest) is_colon) (past-at sign.LeftCurly left rest is_left)
    (fields-read (length rest) ts right [] fs fields is_right (omega arith))

pub item-reads : (section : Section) (ts : List Token) (body : BodyShape) → SpellsItem section ts body → body_of section ts ≡ Some body
item-reads _ _ _ (is_struct t colon left ts right x fs is is_colon is_left fields is_right) = struct-reads t colon left ts right x fs is is_colon is_left fields is_right
item-reads _ _ _ (is_input ts xs k typed) = input-reads ts xs k typed
item-reads _ _ _ (is_define t becomes ts x e is is_becomes tree) = define-reads t becomes ts x e is is_becomes tree
item-reads _ _ _ (is_formula engine ls ts name e label tree) = formula-reads engine ls ts name e label tree
item-reads _ _ _ (is_contract engine ls ts t us name e f label left is right) = contract-reads engine ls ts t us name e f label left is right
