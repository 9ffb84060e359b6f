use Rattle.std.proofs.Common.{◌≡◌, ℕ, ◌<◌, ◌≤◌, Bool, true, false, ◌&&◌, List, [], ◌∷◌, ◌++◌, length, refl, ap, sym, ◌∙◌, subst, arith, Option, Some, None, Result, Ok, Err, nat_lt, nat_eq, if◌then◌else◌, append_assoc}
use Rattle.std.specs.Prelude.{⊤, is_some}
use Rattle.std.proofs.lemmas.Bool.Decides.{nat_tests}
use Rattle.std.proofs.lemmas.Bool.{and_parts, eqb-true}
use Rattle.std.proofs.lemmas.List.{append-nil}
use Rattle.c2po_lexer.specs.declared.token.Sign.TheVariants as sign
use Rattle.c2po_lexer.specs.declared.token.What.{What}
use Rattle.c2po_lexer.specs.declared.token.What.TheVariants as what
use Rattle.c2po_lexer.specs.declared.token.Token.{Token}
use Rattle.c2po_ast.specs.ItemShape.{BodyShape, ItemShape}
use Rattle.c2po_parse.specs.declared.fault.ParseFault.{ParseFault}
use Rattle.c2po_parse.specs.declared.fault.ParseFault.TheVariants.{TooManyTokens}
use Rattle.c2po_parse.specs.declared.section.Section.{Section}
use Rattle.c2po_parse.specs.Tokens.{is_sign}
use Rattle.c2po_parse.specs.Grammar.{IsSign, SpellsItem}
use Rattle.c2po_parse.specs.Sections.{section_of, braces_after, Statement, item_of, unended_piece, is_end, chosen, pieces}
use Rattle.c2po_parse.specs.Items.{braces_open, EndsItem, IsWithinItem, IsItem, AreItems, no_items, and_item, AreSections, no_sections, and_section, IsSpecification, EndsSection, at_end_of_text, at_section, NextItem, at_semicolon, unended, HasForm, HasFault, too_many, no_form, HasFirstFault}
use Rattle.c2po_parse.specs.Specification.{piece_body, with_line, piece_tree, with_first, first_or, piece_trees, reads_on, spec_of}
use Rattle.c2po_parse.proofs.Heads.{is_sign-same}
use Rattle.c2po_parse.proofs.Spans.{reads-section, reads-item, reads-fault, reads_end, reads_all}
use Rattle.c2po_parse.proofs.SpelledReads.{item-reads}
use Rattle.c2po_parse.proofs.SpelledFound.{item-found}

-- A specification and its first fault, told by the grammar, are those that the pieces of its tokens give.

-- a token within an item, with this many braces open before it
record IsInner (s : Option Section) (d : ℕ) (t : Token) : Type 0 where
  plain : section_of t.what ≡ None
  goes_on : is_end s d t.what ≡ false

-- tokens within an item, with this many braces open before them
unfoldable Inside : Option Section → ℕ → List Token → Type 0
Inside s d [] = ⊤
Inside s d (t ∷ ts) = IsInner s d t × Inside s (braces_after t.what d) ts

-- a `;` outside braces
abbrev Closes : ℕ → Token → Type 0
Closes d t = IsSign sign.Semicolon t × (d ≡ 0)

-- what is said of each token within an item
abbrev Passes : Option Section → ℕ → Token → Type 0
Passes s d t = (section_of t.what ≡ None) × (is_some s ≡ true → ¬ (Closes d t))

closes : (s : Option Section) (d : ℕ) (t : Token) → is_end s d t.what ≡ true → (is_some s ≡ true) × Closes d t
closes s d t h =
    let both = and_parts (is_some s) (nat_eq d 0 && is_sign sign.Semicolon t.what) h in
    let inner = and_parts (nat_eq d 0) (is_sign sign.Semicolon t.what) both.1 in
    (both.0, (is_sign-same sign.Semicolon t.what inner.1, eqb-true d 0 inner.0))

closes-not : (s : Option Section) (d : ℕ) (t : Token) (b : Bool) → is_end s d t.what ≡ b → (is_some s ≡ true → ¬ (Closes d t)) → b ≡ false
closes-not s d t false is h = refl
closes-not s d t true is h = let c = closes s d t is in absurd (h c.0 c.1)

some-end : (v : Option Section) (d : ℕ) (w : What) → is_some v ≡ true → d ≡ 0 → w ≡ what.Sign sign.Semicolon → is_end v d w ≡ true
some-end v d w is deep semicolon = rw (is, deep, semicolon) refl

passes-inner : (s : Option Section) (d : ℕ) (t : Token) → Passes s d t → IsInner s d t
passes-inner s d t p = record { plain = p.0; goes_on = closes-not s d t (is_end s d t.what) refl p.1 }

inner-passes : (s : Option Section) (d : ℕ) (t : Token) → IsInner s d t → Passes s d t
inner-passes s d t i = (i.plain, λ is c. let ends : is_end s d t.what ≡ true = some-end s d t.what is c.1 c.0 in let goes = i.goes_on in absurd (cc))

-- each token passes, with the braces that those before it leave open
AllPass : Option Section → ℕ → List Token → Type 0
AllPass s d ts = (before : List Token) (t : Token) (after : List Token) → ts ≡ before ++ t ∷ after → Passes s (braces_open d before) t

pass-inside : (s : Option Section) (d : ℕ) (ts : List Token) → AllPass s d ts → Inside s d ts
unfolding Inside braces_open AllPass
pass-inside s d [] h = tt
pass-inside s d (t ∷ ts) h =
    (passes-inner s d t (h [] t ts refl), pass-inside s (braces_after t.what d) ts (λ before u after same. h (t ∷ before) u after (ap (λ us. t ∷ us) same)))

inside-pass : (s : Option Section) (d : ℕ) (ts before : List Token) (t : Token) (after : List Token) → Inside s d ts → ts ≡ before ++ t ∷ after →
    Passes s (braces_open d before) t
unfolding Inside braces_open
inside-pass s d [] [] t after h same = absurd (cc)
inside-pass s d [] (u ∷ before) t after h same = absurd (cc)
inside-pass s d (v ∷ ts) [] t after h same = let head : v ≡ t = cc in subst (Passes s d) head (inner-passes s d v h.0)
inside-pass s d (v ∷ ts) (u ∷ before) t after h same =
    let head : v ≡ u = cc in
    let tail : ts ≡ before ++ t ∷ after = cc in
    let deep : braces_after v.what d ≡ braces_after u.what d = ap (λ (w : Token). braces_after w.what d) head in
    subst (λ n. Passes s (braces_open n before) t) deep (inside-pass s (braces_after v.what d) ts before t after h.1 tail)

within-inside : (s : Option Section) (ts : List Token) → IsWithinItem s ts → Inside s 0 ts
unfolding AllPass
within-inside s ts h =
    pass-inside s 0 ts (λ before t after same. let p = h before t after same in (p.0, λ is c. p.1 is (record { is_semicolon = c.0; outside = c.1 })))

inside-within : (s : Option Section) (ts : List Token) → Inside s 0 ts → IsWithinItem s ts
inside-within s ts h = λ before t after same. let p = inside-pass s 0 ts before t after h same in (p.0, λ is e. p.1 is (e.is_semicolon, e.outside))

inside-more : (s : Option Section) (d : ℕ) (ts : List Token) (t : Token) → Inside s d ts → IsInner s (braces_open d ts) t → Inside s d (ts ++ t ∷ [])
unfolding Inside braces_open
inside-more s d [] t h inner = (inner, tt)
inside-more s d (u ∷ ts) t h inner = (h.0, inside-more s (braces_after u.what d) ts t h.1 inner)

open-more : (d : ℕ) (ts : List Token) (t : Token) → braces_open d (ts ++ t ∷ []) ≡ braces_after t.what (braces_open d ts)
unfolding braces_open
open-more d [] t = refl
open-more d (u ∷ ts) t = open-more (braces_after u.what d) ts t

-- tokens within an item are gathered
goes-on : (s : Option Section) (d : ℕ) (before : List Token) (t : Token) (ts : List Token) → IsInner s d t →
    pieces s d before (t ∷ ts) ≡ pieces s (braces_after t.what d) (before ++ t ∷ []) ts
unfolding pieces
goes-on s d before t ts inner = rw (inner.plain, inner.goes_on) refl

gathered : (s : Option Section) (d : ℕ) (before us rest : List Token) → Inside s d us → pieces s d before (us ++ rest) ≡ pieces s (braces_open d us) (before ++ us) rest
unfolding Inside braces_open
gathered s d before [] rest h = ap (λ vs. pieces s d vs rest) (sym (append-nil before))
gathered s d before (u ∷ us) rest h =
    goes-on s d before u (us ++ rest) h.0
    ∙ gathered s (braces_after u.what d) (before ++ u ∷ []) us rest h.1
    ∙ ap (λ vs. pieces s (braces_open (braces_after u.what d) us) vs rest) (append_assoc before (u ∷ []) us)

at-semicolon : (s : Section) (d : ℕ) (before : List Token) (t : Token) (ts : List Token) → d ≡ 0 → t.what ≡ what.Sign sign.Semicolon →
    pieces (Some s) d before (t ∷ ts) ≡ item_of (Some s) t.line before ∷ pieces (Some s) 0 [] ts
unfolding pieces
at-semicolon s d before t ts deep is = rw (deep, is) refl

ended-pieces : (s : Section) (us : List Token) (t : Token) (rest : List Token) → IsWithinItem (Some s) us → EndsItem us t →
    pieces (Some s) 0 [] (us ++ t ∷ rest) ≡ item_of (Some s) t.line us ∷ pieces (Some s) 0 [] rest
ended-pieces s us t rest within ends =
    gathered (Some s) 0 [] us (t ∷ rest) (within-inside (Some s) us within) ∙ at-semicolon s (braces_open 0 us) us t rest ends.outside ends.is_semicolon

-- the tokens that are left over where a section ends
abbrev open_piece : Option Section → Token → List Token → Statement
open_piece s t ts = record { section = s; line = t.line; tokens = t ∷ ts; ended = false }

-- the pieces after the first
record Others (s : Option Section) (ts : List Token) (p : Statement) : Type 0 where
  others : List Statement
  are : pieces s 0 [] ts ≡ p ∷ others

ends-here : (s : Option Section) (d : ℕ) (t : Token) (ts rest : List Token) → EndsSection rest →
    (others : List Statement) × (pieces s d (t ∷ ts) rest ≡ open_piece s t ts ∷ others)
unfolding pieces
ends-here s d t ts _ at_end_of_text = ([], refl)
ends-here s d t ts _ (at_section word rest next is) = (pieces (Some next) 0 [] rest, rw is refl)

next-pieces : (s : Option Section) (ts : List Token) (p : Statement) → NextItem s ts p → Others s ts p
next-pieces _ _ _ (at_semicolon s ts end rest within ends) = record { others = pieces (Some s) 0 [] rest; are = ended-pieces s ts end rest within ends }
next-pieces _ _ _ (unended s t ts rest within ends) =
    let here = ends-here s (braces_open 0 (t ∷ ts)) t ts rest ends in
    record { others = here.0; are = gathered s 0 [] (t ∷ ts) rest (within-inside s (t ∷ ts) within) ∙ here.1 }

-- what a piece says, and its fault
many-test : (n : ℕ) → 1024 < n → nat_lt 1024 n ≡ true
many-test n h = grind (arith, nat_tests)

few-test : (n : ℕ) → n ≤ 1024 → nat_lt 1024 n ≡ false
few-test n h = grind (arith, nat_tests)

is-many : (n : ℕ) → nat_lt 1024 n ≡ true → 1024 < n
is-many n h = grind (arith, nat_tests)

is-few : (n : ℕ) → nat_lt 1024 n ≡ false → n ≤ 1024
is-few n h = grind (arith, nat_tests)

body-form : (s : Option Section) (line : ℕ) (ended : Bool) (ts : List Token) (b : BodyShape) → piece_body s ended ts ≡ Some b →
    HasForm (record { section = s; line = line; tokens = ts; ended = ended }) b
body-form (Some s) line true ts b h = record { section = s; is_in = refl; is_ended = refl; says = item-found s ts b h }
body-form _ line _ ts b h = absurd (cc)

form-body : (p : Statement) (b : BodyShape) → HasForm p b → piece_body p.section p.ended p.tokens ≡ Some b
form-body p b form = rw (form.is_in, form.is_ended) (item-reads form.section p.tokens b form.says)

no-body : (p : Statement) (v : Option BodyShape) → piece_body p.section p.ended p.tokens ≡ v → ((b : BodyShape) → ¬ HasForm p b) → v ≡ None
no-body p None is h = refl
no-body p (Some b) is h = absurd (h b (body-form p.section p.line p.ended p.tokens b is))

fault-tree : (p : Statement) (fault : ParseFault) → HasFault p fault → piece_tree p ≡ Err fault
fault-tree _ _ (too_many p many) = rw (many-test (length p.tokens) many) refl
fault-tree _ _ (no_form p few none) =
    rw (few-test (length p.tokens) few, no-body p (piece_body p.section p.ended p.tokens) refl none) refl

-- an item that a piece is
record GoodPiece (p : Statement) (item : ItemShape) : Type 0 where
  few : length p.tokens ≤ 1024
  form : HasForm p item.body
  line : item.line ≡ p.line

Judged : Statement → Result ItemShape ParseFault → Type 0
Judged p (Ok item) = GoodPiece p item
Judged p (Err fault) = HasFault p fault

judged : (p : Statement) (many : Bool) (v : Option BodyShape) → nat_lt 1024 (length p.tokens) ≡ many → piece_body p.section p.ended p.tokens ≡ v →
    Judged p (if many then Err (TooManyTokens p.line) else with_line p.line v)
unfolding Judged
judged p true v many is = too_many p (is-many (length p.tokens) many)
judged p false None many is =
    no_form p (is-few (length p.tokens) many) (λ b form. let found = form-body p b form in absurd (cc))
judged p false (Some b) many is =
    record { few = is-few (length p.tokens) many; form = body-form p.section p.line p.ended p.tokens b is; line = refl }

judge : (p : Statement) → Judged p (piece_tree p)
judge p = judged p (nat_lt 1024 (length p.tokens)) (piece_body p.section p.ended p.tokens) refl refl

-- the items of a section, and then those of what is left of it
item-tree : (s : Section) (us : List Token) (t : Token) (item : ItemShape) → IsItem s us t item → piece_tree (item_of (Some s) t.line us) ≡ Ok item
item-tree s us t item is =
    rw (few-test (length us) is.few, item-reads s us item.body is.says)
    (ap (λ n. with_line n (Some item.body)) (sym is.line))

trees-first : (p : Statement) (ps : List Statement) (item : ItemShape) → piece_tree p ≡ Ok item → piece_trees (p ∷ ps) ≡ with_first item (piece_trees ps)
unfolding piece_trees
trees-first p ps item h = rw h refl

one-item : (items : List ItemShape) (s : Section) (us : List Token) (t : Token) (rest : List Token) (item : ItemShape) → IsItem s us t item →
    reads_on items (Some s) (us ++ t ∷ rest) ≡ reads_on (items ++ item ∷ []) (Some s) rest
one-item items s us t rest item is =
    reads-item items (Some s) (us ++ t ∷ rest) rest item
    (ap piece_trees (ended-pieces s us t rest is.within is.ends) ∙ trees-first (item_of (Some s) t.line us) (pieces (Some s) 0 [] rest) item (item-tree s us t item is))

read-items : (s : Section) (ts : List Token) (more : List ItemShape) → AreItems s ts more → (items : List ItemShape) (rest : List Token) →
    reads_on items (Some s) (ts ++ rest) ≡ reads_on (items ++ more) (Some s) rest
read-items _ _ _ (no_items s) items rest = ap (λ is. reads_on is (Some s) rest) (sym (append-nil items))
read-items _ _ _ (and_item s ts us end before item are is) items rest =
    ap (reads_on items (Some s)) (append_assoc ts (us ++ end ∷ []) rest ∙ ap (λ vs. ts ++ vs) (append_assoc us (end ∷ []) rest))
    ∙ read-items s ts before are items (us ++ end ∷ rest)
    ∙ one-item (items ++ before) s us end rest item is
    ∙ ap (λ is. reads_on is (Some s) rest) (append_assoc items before (item ∷ []))

read-sections : (ts : List Token) (s : Option Section) (items : List ItemShape) → AreSections ts s items → (rest : List Token) →
    reads_on [] None (ts ++ rest) ≡ reads_on items s rest
read-sections _ _ _ no_sections rest = refl
read-sections _ _ _ (and_section ts word us before s items more are begins inner) rest =
    ap (reads_on [] None) (append_assoc ts (word ∷ us) rest)
    ∙ read-sections ts before items are (word ∷ (us ++ rest))
    ∙ reads-section items before word (us ++ rest) s begins
    ∙ read-items s us more inner items rest

-- a specification has its trees, and one with a fault has its first fault
pub trees_complete : (ts : List Token) (items : List ItemShape) → IsSpecification ts items → spec_of ts ≡ Ok items
trees_complete ts items is =
    sym (reads_all ts) ∙ ap (reads_on [] None) (sym (append-nil ts)) ∙ read-sections ts is.last items is.sections [] ∙ reads_end items is.last [] refl

fault-first : (p : Statement) (ps : List Statement) (fault : ParseFault) → piece_tree p ≡ Err fault → piece_trees (p ∷ ps) ≡ Err fault
unfolding piece_trees
fault-first p ps fault h = rw h refl

pub fault_complete : (ts : List Token) (fault : ParseFault) → HasFirstFault ts fault → spec_of ts ≡ Err fault
fault_complete ts fault h =
    let next = next-pieces h.last h.rest h.piece h.next in
    let none : piece_trees (pieces h.last 0 [] h.rest) ≡ Err fault =
    ap piece_trees next.are ∙ fault-first h.piece next.others fault (fault-tree h.piece fault h.has_fault) in
    sym (reads_all ts) ∙ ap (reads_on [] None) h.all ∙ read-sections h.before h.last h.items h.sections h.rest ∙ reads-fault h.items h.last h.rest fault none

-- what the pieces give after sections that were read
Found : List Token → List ItemShape → Result (List ItemShape) ParseFault → Type 0
Found ts items (Ok more) = IsSpecification ts (items ++ more)
Found ts items (Err fault) = HasFirstFault ts fault

found-first : (ts : List Token) (items : List ItemShape) (item : ItemShape) (r : Result (List ItemShape) ParseFault) → Found ts (items ++ item ∷ []) r →
    Found ts items (with_first item r)
unfolding Found
found-first ts items item (Ok more) h = subst (IsSpecification ts) (append_assoc items (item ∷ []) more) h
found-first ts items item (Err fault) h = h

found-tokens : (ts us : List Token) (items : List ItemShape) (r : Result (List ItemShape) ParseFault) → ts ≡ us → Found ts items r → Found us items r
found-tokens ts us items r same h = subst (λ vs. Found vs items r) same h

-- one item more in the last section
add-item : (ts : List Token) (v : Option Section) (s : Section) (items : List ItemShape) (us : List Token) (t : Token) (item : ItemShape) → v ≡ Some s →
    AreSections ts v items → IsItem s us t item → AreSections (ts ++ (us ++ t ∷ [])) v (items ++ item ∷ [])
add-item _ _ s _ us t item same no_sections is = absurd (cc)
add-item _ _ s _ us t item same (and_section ts word vs before r items more are begins inner) is =
    let section : r ≡ s = cc in
    subst (λ ws. AreSections ws (Some r) ((items ++ more) ++ item ∷ [])) (sym (append_assoc ts (word ∷ vs) (us ++ t ∷ [])))
    (subst (λ all. AreSections (ts ++ word ∷ (vs ++ (us ++ t ∷ []))) (Some r) all) (sym (append_assoc items more (item ∷ [])))
    (and_section ts word (vs ++ (us ++ t ∷ [])) before r items (more ++ item ∷ []) are begins
    (and_item r vs us t more item inner (subst (λ q. IsItem q us t item) (sym section) is))))

-- a section's word after sections
add-section : (ts : List Token) (s : Option Section) (items : List ItemShape) (word : Token) (next : Section) → AreSections ts s items →
    section_of word.what ≡ Some next → AreSections (ts ++ word ∷ []) (Some next) items
add-section ts s items word next are begins =
    subst (AreSections (ts ++ word ∷ []) (Some next)) (append-nil items) (and_section ts word [] s next items [] are begins (no_items next))

first-fault : (done rest : List Token) (s : Option Section) (items : List ItemShape) (p : Statement) (fault : ParseFault) → AreSections done s items →
    NextItem s rest p → HasFault p fault → HasFirstFault (done ++ rest) fault
first-fault done rest s items p fault are next has =
    record { before = done; last = s; items = items; sections = are; rest = rest; all = refl; piece = p; next = next; has_fault = has }

-- a piece that no `;` ends has a fault
refused : (done rest : List Token) (s : Option Section) (items : List ItemShape) (p : Statement) (r : Result ItemShape ParseFault)
    (others : Result (List ItemShape) ParseFault) → AreSections done s items → NextItem s rest p → p.ended ≡ false → Judged p r → Found (done ++ rest) items (first_or r others)
unfolding Found Judged
refused done rest s items p (Ok item) others are next not_ended good = let ended = good.form.is_ended in absurd (cc)
refused done rest s items p (Err fault) others are next not_ended has = first-fault done rest s items p fault are next has

found-fault : (ts : List Token) (items : List ItemShape) (fault : ParseFault) → HasFirstFault ts fault → Found ts items (Err fault)
unfolding Found
found-fault ts items fault h = h

-- a piece that a `;` ends is an item, or has a fault
taken : (done rest : List Token) (s : Option Section) (items : List ItemShape) (p : Statement) (r : Result ItemShape ParseFault)
    (others : Result (List ItemShape) ParseFault) → AreSections done s items → NextItem s rest p → Judged p r →
    ((item : ItemShape) → GoodPiece p item → Found (done ++ rest) (items ++ item ∷ []) others) → Found (done ++ rest) items (first_or r others)
unfolding Judged
taken done rest s items p (Ok item) others are next good h = found-first (done ++ rest) items item others (h item good)
taken done rest s items p (Err fault) others are next has h =
    found-fault (done ++ rest) items fault (first-fault done rest s items p fault are next has)

left-over : (done : List Token) (s : Option Section) (items : List ItemShape) (t : Token) (ts rest : List Token) (ps : List Statement) →
    AreSections done s items → Inside s 0 (t ∷ ts) → EndsSection rest → Found (done ++ (t ∷ ts ++ rest)) items (piece_trees (open_piece s t ts ∷ ps))
unfolding piece_trees
left-over done s items t ts rest ps are inside ends =
    refused done (t ∷ ts ++ rest) s items (open_piece s t ts) (piece_tree (open_piece s t ts)) (piece_trees ps) are
    (unended s t ts rest (inside-within s (t ∷ ts) inside) ends) refl (judge (open_piece s t ts))

-- what is found of tokens, whatever stands before them
record Follows (ts : List Token) : Type 0 where
  finds : (done cur : List Token) (s : Option Section) (items : List ItemShape) (d : ℕ) → AreSections done s items → Inside s 0 cur → braces_open 0 cur ≡ d →
      Found (done ++ (cur ++ ts)) items (piece_trees (pieces s d cur ts))

new-section : (done : List Token) (s : Option Section) (items : List ItemShape) (t : Token) (ts : List Token) (next : Section) → section_of t.what ≡ Some next →
    AreSections done s items → Follows ts → Found (done ++ t ∷ ts) items (piece_trees (pieces (Some next) 0 [] ts))
unfolding Inside braces_open
new-section done s items t ts next begins are follows =
    found-tokens ((done ++ t ∷ []) ++ ts) (done ++ t ∷ ts) items (piece_trees (pieces (Some next) 0 [] ts)) (append_assoc done (t ∷ []) ts)
    (follows.finds (done ++ t ∷ []) [] (Some next) items 0 (add-section done s items t next are begins) tt refl)

at-word : (done cur : List Token) (s : Option Section) (items : List ItemShape) (t : Token) (ts : List Token) (next : Section) → section_of t.what ≡ Some next →
    AreSections done s items → Inside s 0 cur → Follows ts →
    Found (done ++ (cur ++ t ∷ ts)) items (piece_trees (unended_piece s cur ++ pieces (Some next) 0 [] ts))
at-word done [] s items t ts next begins are inside follows = new-section done s items t ts next begins are follows
at-word done (c ∷ cur) s items t ts next begins are inside follows =
    left-over done s items c cur (t ∷ ts) (pieces (Some next) 0 [] ts) are inside (at_section t ts next begins)

-- an item and what follows its `;`
good-item : (done cur : List Token) (s : Section) (items : List ItemShape) (t : Token) (ts : List Token) (item : ItemShape) → AreSections done (Some s) items →
    Inside (Some s) 0 cur → EndsItem cur t → GoodPiece (item_of (Some s) t.line cur) item → Follows ts →
    Found (done ++ (cur ++ t ∷ ts)) (items ++ item ∷ []) (piece_trees (pieces (Some s) 0 [] ts))
unfolding Inside braces_open
good-item done cur s items t ts item are inside ends good follows =
    let section : good.form.section ≡ s = let is = good.form.is_in in cc in
    let is : IsItem s cur t item =
    record { within = inside-within (Some s) cur inside; ends = ends; few = good.few; says = subst (λ q. SpellsItem q cur item.body) section good.form.says; line = good.line } in
    let all : (done ++ (cur ++ t ∷ [])) ++ ts ≡ done ++ (cur ++ t ∷ ts) =
    append_assoc done (cur ++ t ∷ []) ts ∙ ap (λ us. done ++ us) (append_assoc cur (t ∷ []) ts) in
    found-tokens ((done ++ (cur ++ t ∷ [])) ++ ts) (done ++ (cur ++ t ∷ ts)) (items ++ item ∷ []) (piece_trees (pieces (Some s) 0 [] ts)) all
    (follows.finds (done ++ (cur ++ t ∷ [])) [] (Some s) (items ++ item ∷ []) 0 (add-item done (Some s) s items cur t item refl are is) tt refl)

at-end : (done cur : List Token) (s : Section) (items : List ItemShape) (t : Token) (ts : List Token) → AreSections done (Some s) items →
    Inside (Some s) 0 cur → EndsItem cur t → Follows ts →
    Found (done ++ (cur ++ t ∷ ts)) items (piece_trees (item_of (Some s) t.line cur ∷ pieces (Some s) 0 [] ts))
unfolding piece_trees
at-end done cur s items t ts are inside ends follows =
    taken done (cur ++ t ∷ ts) (Some s) items (item_of (Some s) t.line cur) (piece_tree (item_of (Some s) t.line cur)) (piece_trees (pieces (Some s) 0 [] ts)) are
    (at_semicolon s cur t ts (inside-within (Some s) cur inside) ends) (judge (item_of (Some s) t.line cur))
    (λ item good. good-item done cur s items t ts item are inside ends good follows)

at-any-end : (done cur : List Token) (s : Option Section) (items : List ItemShape) (t : Token) (ts : List Token) → is_some s ≡ true → AreSections done s items →
    Inside s 0 cur → EndsItem cur t → Follows ts → Found (done ++ (cur ++ t ∷ ts)) items (piece_trees (item_of s t.line cur ∷ pieces s 0 [] ts))
at-any-end done cur None items t ts some are inside ends follows = absurd (cc)
at-any-end done cur (Some s) items t ts some are inside ends follows = at-end done cur s items t ts are inside ends follows

at-inner : (done cur : List Token) (s : Option Section) (items : List ItemShape) (t : Token) (ts : List Token) (d : ℕ) → IsInner s d t → AreSections done s items →
    Inside s 0 cur → braces_open 0 cur ≡ d → Follows ts → Found (done ++ (cur ++ t ∷ ts)) items (piece_trees (pieces s (braces_after t.what d) (cur ++ t ∷ []) ts))
at-inner done cur s items t ts d inner are inside deep follows =
    let more : IsInner s (braces_open 0 cur) t = subst (λ n. IsInner s n t) (sym deep) inner in
    found-tokens (done ++ ((cur ++ t ∷ []) ++ ts)) (done ++ (cur ++ t ∷ ts)) items (piece_trees (pieces s (braces_after t.what d) (cur ++ t ∷ []) ts))
    (ap (λ us. done ++ us) (append_assoc cur (t ∷ []) ts))
    (follows.finds done (cur ++ t ∷ []) s items (braces_after t.what d) are (inside-more s 0 cur t inside more)
    (open-more 0 cur t ∙ ap (braces_after t.what) deep))

at-token : (done cur : List Token) (s : Option Section) (items : List ItemShape) (t : Token) (ts : List Token) (d : ℕ) (v : Option Section) (b : Bool) →
    section_of t.what ≡ v → is_end s d t.what ≡ b → AreSections done s items → Inside s 0 cur → braces_open 0 cur ≡ d → Follows ts →
    Found (done ++ (cur ++ t ∷ ts)) items (piece_trees (chosen v b (λ next. unended_piece s cur ++ pieces (Some next) 0 [] ts) (item_of s t.line cur ∷ pieces s 0 [] ts)
    (pieces s (braces_after t.what d) (cur ++ t ∷ []) ts)))
at-token done cur s items t ts d (Some next) b begins ends are inside deep follows = at-word done cur s items t ts next begins are inside follows
at-token done cur s items t ts d None true begins ends are inside deep follows =
    let c = closes s d t ends in
    at-any-end done cur s items t ts c.0 are inside (record { is_semicolon = c.1.0; outside = deep ∙ c.1.1 }) follows
at-token done cur s items t ts d None false begins ends are inside deep follows =
    at-inner done cur s items t ts d (record { plain = begins; goes_on = ends }) are inside deep follows

at-text-end : (done cur : List Token) (s : Option Section) (items : List ItemShape) → AreSections done s items → Inside s 0 cur →
    Found (done ++ (cur ++ [])) items (piece_trees (unended_piece s cur))
unfolding Found piece_trees
at-text-end done [] s items are inside =
    record { last = s; sections = subst (λ us. AreSections us s (items ++ [])) (sym (append-nil done)) (subst (AreSections done s) (sym (append-nil items)) are) }
at-text-end done (c ∷ cur) s items are inside = left-over done s items c cur [] [] are inside at_end_of_text

finds-all : (done cur ts : List Token) (s : Option Section) (items : List ItemShape) (d : ℕ) → AreSections done s items → Inside s 0 cur → braces_open 0 cur ≡ d →
    Found (done ++ (cur ++ ts)) items (piece_trees (pieces s d cur ts))
unfolding pieces
finds-all done cur [] s items d are inside deep = at-text-end done cur s items are inside
finds-all done cur (t ∷ ts) s items d are inside deep =
    at-token done cur s items t ts d (section_of t.what) (is_end s d t.what) refl refl are inside deep
    (record { finds = λ done cur s items d are inside deep. finds-all done cur ts s items d are inside deep })

found-spec : (ts : List Token) → Found ts [] (spec_of ts)
unfolding spec_of Inside braces_open
found-spec ts = finds-all [] [] ts None [] 0 no_sections tt refl

found-trees : (ts : List Token) (r : Result (List ItemShape) ParseFault) (items : List ItemShape) → Found ts [] r → r ≡ Ok items → IsSpecification ts items
unfolding Found
found-trees ts (Ok more) items h is = let same : more ≡ items = cc in subst (IsSpecification ts) same h
found-trees ts (Err fault) items h is = absurd (cc)

found-first-fault : (ts : List Token) (r : Result (List ItemShape) ParseFault) (fault : ParseFault) → Found ts [] r → r ≡ Err fault → HasFirstFault ts fault
unfolding Found
found-first-fault ts (Ok more) fault h is = absurd (cc)
found-first-fault ts (Err other) fault h is = let same : other ≡ fault = cc in subst (HasFirstFault ts) same h

pub trees_sound : (ts : List Token) (items : List ItemShape) → spec_of ts ≡ Ok items → IsSpecification ts items
trees_sound ts items h = found-trees ts (spec_of ts) items (found-spec ts) h

pub fault_sound : (ts : List Token) (fault : ParseFault) → spec_of ts ≡ Err fault → HasFirstFault ts fault
fault_sound ts fault h = found-first-fault ts (spec_of ts) fault (found-spec ts) h

-- a specification has one list of trees, and none where it has a fault
pub one_tree : (ts : List Token) (items others : List ItemShape) → IsSpecification ts items → IsSpecification ts others → items ≡ others
one_tree ts items others h g = let a = trees_complete ts items h in let b = trees_complete ts others g in cc

pub no_tree : (ts : List Token) (items : List ItemShape) (fault : ParseFault) → HasFirstFault ts fault → ¬ IsSpecification ts items
no_tree ts items fault h g = let a = trees_complete ts items g in let b = fault_complete ts fault h in absurd (cc)

pub one_fault : (ts : List Token) (fault other : ParseFault) → HasFirstFault ts fault → HasFirstFault ts other → fault ≡ other
one_fault ts fault other h g = let a = fault_complete ts fault h in let b = fault_complete ts other g in cc
