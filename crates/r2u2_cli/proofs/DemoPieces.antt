-- The pieces of a token list, item by item.

use Rattle.std.proofs.Common.{◌≡◌, ℕ, List, [], ◌∷◌, ◌++◌, refl, ap, sym, ◌∙◌, Bool, true, false, Option, Some, None, append_assoc}
use Rattle.std.specs.Prelude.{Result, Ok, Err, length, nat_lt, option_and_then, if◌then◌else◌}
use Rattle.std.proofs.lemmas.List.{append-nil}
use Rattle.c2po_lexer.specs.declared.token.Token.{Token}
use Rattle.c2po_ast.specs.ItemShape.{BodyShape, ItemShape}
use Rattle.c2po_parse.specs.declared.fault.ParseFault.{ParseFault}
use Rattle.c2po_parse.specs.declared.fault.ParseFault.TheVariants.{TooManyTokens}
use Rattle.c2po_parse.specs.declared.section.Section.{Section}
use Rattle.c2po_parse.specs.Sections.{Statement, section_of, braces_after, item_of, unended_piece, is_end, chosen, pieces, depth_within}
use Rattle.c2po_parse.specs.Specification.{piece_body, with_line, first_or, piece_trees}
use Rattle.c2po_parse.proofs.Walks.{bind-some}

-- how many braces are open after tokens that end no piece
unfoldable pub span : Option Section → ℕ → List Token → Option ℕ
span section depth [] = Some depth
span section depth (t ∷ ts) = option_and_then (λ next. span section next ts) (depth_within section depth t.what)

chosen_on : {A : Type 0} (o : Option Section) (ends : Bool) (x d : ℕ) (begins : Section → A) (a : A) (goes : ℕ → A)
    → chosen o ends (λ next. None) None (Some x) ≡ Some d → chosen o ends begins a (goes x) ≡ goes d
chosen_on (Some s) ends x d begins a goes h = absurd (cc)
chosen_on None true x d begins a goes h = absurd (cc)
chosen_on None false x d begins a goes h = let e : x ≡ d = cc in ap goes e

goes_on : (section : Option Section) (depth d : ℕ) (before : List Token) (t : Token) (ts : List Token)
    → depth_within section depth t.what ≡ Some d → pieces section depth before (t ∷ ts) ≡ pieces section d (before ++ t ∷ []) ts
unfolding pieces
goes_on section depth d before t ts h = chosen_on (section_of t.what) (is_end section depth t.what) (braces_after t.what depth) d
    (λ next. unended_piece section before ++ pieces (Some next) 0 [] ts) (item_of section t.line before ∷ pieces section 0 [] ts)
    (λ n. pieces section n (before ++ t ∷ []) ts) h

span_on : (section : Option Section) (depth d : ℕ) (before xs rest : List Token) → span section depth xs ≡ Some d
    → pieces section depth before (xs ++ rest) ≡ pieces section d (before ++ xs) rest
unfolding span
span_on section depth d before [] rest h =
    let e : depth ≡ d = cc in
    ap (λ n. pieces section n before rest) e ∙ ap (λ ts. pieces section d ts rest) (sym (append-nil before))
span_on section depth d before (x ∷ xs) rest h =
    let next = bind-some (depth_within section depth x.what) (λ n. span section n xs) d h in
    goes_on section depth next.0 before x (xs ++ rest) next.1 ∙ span_on section next.0 d (before ++ x ∷ []) xs rest next.2
    ∙ ap (λ ts. pieces section d ts rest) (append_assoc before (x ∷ []) xs)

ends_here : (section : Option Section) (before : List Token) (t : Token) (ts : List Token) → section_of t.what ≡ None → is_end section 0 t.what ≡ true
    → pieces section 0 before (t ∷ ts) ≡ item_of section t.line before ∷ pieces section 0 [] ts
unfolding pieces
ends_here section before t ts none ends = rw (none, ends) refl

-- an item in front
pub item_in_front : (section : Option Section) (xs : List Token) (t : Token) (ts : List Token) → span section 0 xs ≡ Some 0
    → section_of t.what ≡ None → is_end section 0 t.what ≡ true → pieces section 0 [] (xs ++ t ∷ ts) ≡ item_of section t.line xs ∷ pieces section 0 [] ts
item_in_front section xs t ts h none ends = span_on section 0 0 [] xs (t ∷ ts) h ∙ ends_here section xs t ts none ends

-- the word of a section in front
pub section_in_front : (section : Option Section) (next : Section) (t : Token) (ts : List Token) → section_of t.what ≡ Some next
    → pieces section 0 [] (t ∷ ts) ≡ pieces (Some next) 0 [] ts
unfolding pieces
section_in_front section next t ts h = rw h refl

joined_tree : (long : Bool) (line : ℕ) (o : Option BodyShape) (r : Result (List ItemShape) ParseFault) (body : BodyShape) (items : List ItemShape)
    → long ≡ false → o ≡ Some body → r ≡ Ok items
    → first_or (if long then Err (TooManyTokens line) else with_line line o) r ≡ Ok (record { line = line; body = body } ∷ items)
joined_tree long line o r body items short is all = rw (short, is, all) refl

-- the tree of the first piece, and those of the others
pub tree_in_front : (p : Statement) (ps : List Statement) (body : BodyShape) (items : List ItemShape) → nat_lt 1024 (length p.tokens) ≡ false
    → piece_body p.section p.ended p.tokens ≡ Some body → piece_trees ps ≡ Ok items → piece_trees (p ∷ ps) ≡ Ok (record { line = p.line; body = body } ∷ items)
unfolding piece_trees
tree_in_front p ps body items short is all =
    joined_tree (nat_lt 1024 (length p.tokens)) p.line (piece_body p.section p.ended p.tokens) (piece_trees ps) body items short is all
