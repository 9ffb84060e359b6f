-- The tokens of lines are cut into one item a line.

use Rattle.std.specs.Prelude.{⊤}
use Rattle.std.proofs.Common.{◌≡◌, ◌∙◌, ℕ, ◌+◌, Bool, true, false, List, [], ◌∷◌, ◌++◌, length, Option, Some, None, Ok, refl, ap, sym, arith, append_assoc, append-nil}
use Rattle.std.proofs.lemmas.List.{length-append}
use Rattle.c2po_lexer.specs.declared.token.Sign.TheVariants as sign
use Rattle.c2po_lexer.specs.declared.token.Token.{Token}
use Rattle.c2po_lexer.specs.declared.token.What.{What}
use Rattle.c2po_lexer.specs.declared.token.What.TheVariants as what
use Rattle.c2po_lexer.specs.Tokens.{tokens_of}
use Rattle.c2po_parse.specs.Tokens.{is_sign}
use Rattle.c2po_parse.specs.declared.section.Section.{Section}
use Rattle.c2po_parse.specs.Sections.{section_of, braces_after, item_of, chosen, pieces}
use Rattle.c2po_parse.specs.Specification.{first_or, with_first, piece_trees, spec_of}
use Rattle.obs_show.specs.Lines.{Reference, always, named, number, Form, minus, arith as computes, compare, negation, logic, between, Line, input, define, formula, contract}
use Rattle.obs_show.specs.Text.{lines_text}
use Rattle.mltl_base.specs.declared.operators.ArithOp as arith_op
use Rattle.mltl_base.specs.declared.operators.BetweenOp as between_op
use Rattle.mltl_base.specs.declared.operators.CompareOp as compare_op
use Rattle.mltl_base.specs.declared.operators.LogicOp as logic_op
use Rattle.show_roundtrip.specs.Written.{Mark, token, space, newline, token_text, tokens_by, marks_text}
use Rattle.show_roundtrip.specs.Said.{reference_token, arith_sign, compare_sign, logic_sign, between_word, form_marks, kind_word, section_word, label_marks, body_marks, line_marks, lines_marks, line_item, line_items, HaveWords}
use Rattle.show_roundtrip.proofs.Reading.{written_tokens}
use Rattle.show_roundtrip.proofs.Lines.{lines_readable, lines_written}
use Rattle.show_roundtrip.proofs.Trees.{at_place, section_in, section_begins, line_tree}

-- parts of one line that end no item: no section's word, no `;`, no braces
abbrev IsQuietToken : What → Type 0
IsQuietToken w = (section_of w ≡ None) × (is_sign sign.Semicolon w ≡ false) × (braces_after w 0 ≡ 0)

abbrev AreQuiet : List Mark → Type 0
AreQuiet [] = ⊤
AreQuiet (token w ∷ ms) = IsQuietToken w × AreQuiet ms
AreQuiet (space ∷ ms) = AreQuiet ms
AreQuiet (newline ∷ ms) = ⊥

quiet_append : (ms ns : List Mark) → AreQuiet ms → AreQuiet ns → AreQuiet (ms ++ ns)
quiet_append [] ns h g = g
quiet_append (token w ∷ ms) ns h g = (h.0, quiet_append ms ns h.1 g)
quiet_append (space ∷ ms) ns h g = quiet_append ms ns h g
quiet_append (newline ∷ ms) ns h g = absurd h

reference_quiet : (x : Reference) → IsQuietToken (reference_token x)
reference_quiet always = (refl, refl, refl)
reference_quiet _ = (refl, refl, refl)

arith_quiet : (op : arith_op.ArithOp) → IsQuietToken (what.Sign (arith_sign op))
arith_quiet arith_op.TheVariants.Add = (refl, refl, refl)
arith_quiet _ = (refl, refl, refl)

compare_quiet : (op : compare_op.CompareOp) → IsQuietToken (what.Sign (compare_sign op))
compare_quiet compare_op.TheVariants.Eq = (refl, refl, refl)
compare_quiet _ = (refl, refl, refl)

logic_quiet : (op : logic_op.LogicOp) → IsQuietToken (what.Sign (logic_sign op))
logic_quiet logic_op.TheVariants.And = (refl, refl, refl)
logic_quiet _ = (refl, refl, refl)

between_quiet : (op : between_op.BetweenOp) → IsQuietToken (what.Reserved (between_word op))
between_quiet between_op.TheVariants.U = (refl, refl, refl)
between_quiet _ = (refl, refl, refl)

form_quiet : (f : Form) → AreQuiet (form_marks f)
form_quiet (computes op x y) = (reference_quiet x, (arith_quiet op, (reference_quiet y, tt)))
form_quiet (compare op x y) = (reference_quiet x, (compare_quiet op, (reference_quiet y, tt)))
form_quiet (logic op x y) = (reference_quiet x, (logic_quiet op, (reference_quiet y, tt)))
form_quiet (between op window x y) =
    (reference_quiet x, (between_quiet op, ((refl, refl, refl), ((refl, refl, refl), ((refl, refl, refl), ((refl, refl, refl), ((refl, refl, refl), (reference_quiet y, tt))))))))
form_quiet _ = ((refl, refl, refl), (reference_quiet _, tt))

label_quiet : (label : Option (List ℕ)) → AreQuiet (label_marks label)
label_quiet None = tt
label_quiet (Some x) = ((refl, refl, refl), ((refl, refl, refl), tt))

kind_quiet : (truth : Bool) → IsQuietToken (what.Reserved (kind_word truth))
kind_quiet true = (refl, refl, refl)
kind_quiet false = (refl, refl, refl)

body_quiet : (l : Line) → AreQuiet (body_marks l)
body_quiet (input x truth) = ((refl, refl, refl), ((refl, refl, refl), (kind_quiet truth, tt)))
body_quiet (define x f) = ((refl, refl, refl), ((refl, refl, refl), form_quiet f))
body_quiet (formula engine label x) = quiet_append (label_marks label) (token (reference_token x) ∷ []) (label_quiet label) (reference_quiet x, tt)
body_quiet (contract engine label x y) =
    quiet_append (label_marks label) (token (reference_token x) ∷ space ∷ token (what.Sign sign.Promises) ∷ space ∷ token (reference_token y) ∷ []) (label_quiet label)
    (reference_quiet x, ((refl, refl, refl), (reference_quiet y, tt)))

goes_on : {A : Type 0} (k : Option Section) (b : Bool) (f : Section → A) (x y : A) → k ≡ None → b ≡ false → chosen k b f x y ≡ y
goes_on k b f x y e g = rw e (rw g refl)

begins : {A : Type 0} (k : Option Section) (s : Section) (b : Bool) (f : Section → A) (x y : A) → k ≡ Some s → chosen k b f x y ≡ f s
begins k s b f x y e = rw e refl

-- quiet tokens are taken into the item, up to its `;`
run : (s : Section) (before : List Token) (line start : ℕ) (ms : List Mark) (rest : List Mark) → AreQuiet ms
    → pieces (Some s) 0 before (tokens_by line start (ms ++ token (what.Sign sign.Semicolon) ∷ newline ∷ rest))
    ≡ item_of (Some s) line (before ++ tokens_by line start ms) ∷ pieces (Some s) 0 [] (tokens_by (line + 1) (start + length (marks_text ms) + 2) rest)
unfolding pieces tokens_by
run s before line start [] rest h =
    let same : start + 1 + 1 ≡ start + 0 + 2 = omega arith in
    ap (λ n. item_of (Some s) line before ∷ pieces (Some s) 0 [] (tokens_by (line + 1) n rest)) same
    ∙ ap (λ b. item_of (Some s) line b ∷ pieces (Some s) 0 [] (tokens_by (line + 1) (start + 0 + 2) rest)) (sym (append-nil before))
run s before line start (token w ∷ ms) rest h =
    let next = start + length (token_text w) in
    let t = at_place line start next w in
    let tail = tokens_by line next (ms ++ token (what.Sign sign.Semicolon) ∷ newline ∷ rest) in
    let same : next + length (marks_text ms) + 2 ≡ start + length (marks_text (token w ∷ ms)) + 2 = omega (arith, length-append (token_text w) (marks_text ms)) in
    goes_on (section_of w) (is_sign sign.Semicolon w) _ _ _ h.0.0 h.0.1
    ∙ ap (λ d. pieces (Some s) d (before ++ t ∷ []) tail) h.0.2
    ∙ run s (before ++ t ∷ []) line next ms rest h.1
    ∙ ap (λ b. item_of (Some s) line b ∷ pieces (Some s) 0 [] (tokens_by (line + 1) (next + length (marks_text ms) + 2) rest)) (append_assoc before (t ∷ []) (tokens_by line next ms))
    ∙ ap (λ n. item_of (Some s) line (before ++ t ∷ tokens_by line next ms) ∷ pieces (Some s) 0 [] (tokens_by (line + 1) n rest)) same
run s before line start (space ∷ ms) rest h =
    let same : start + 1 + length (marks_text ms) + 2 ≡ start + length (marks_text (space ∷ ms)) + 2 = omega arith in
    run s before line (start + 1) ms rest h
    ∙ ap (λ n. item_of (Some s) line (before ++ tokens_by line (start + 1) ms) ∷ pieces (Some s) 0 [] (tokens_by (line + 1) n rest)) same
run s before line start (newline ∷ ms) rest h = absurd h

-- where the body of a line begins, and where the next line does
abbrev body_start : ℕ → Line → ℕ
body_start start l = start + length (token_text (what.Reserved (section_word l))) + 1

abbrev next_start : ℕ → Line → ℕ
next_start start l = body_start start l + length (marks_text (body_marks l)) + 2

line_pieces : (sec : Option Section) (line start : ℕ) (l : Line) (rest : List Mark)
    → pieces sec 0 [] (tokens_by line start (line_marks l ++ rest))
    ≡ item_of (Some (section_in l)) line (tokens_by line (body_start start l) (body_marks l)) ∷ pieces (Some (section_in l)) 0 [] (tokens_by (line + 1) (next_start start l) rest)
unfolding pieces tokens_by
line_pieces sec line start l rest =
    begins (section_of (what.Reserved (section_word l))) (section_in l) _ _ _ _ (section_begins l)
    ∙ ap (λ ms. pieces (Some (section_in l)) 0 [] (tokens_by line (body_start start l) ms)) (append_assoc (body_marks l) (token (what.Sign sign.Semicolon) ∷ newline ∷ []) rest)
    ∙ run (section_in l) [] line (body_start start l) (body_marks l) rest (body_quiet l)

no_lines : (sec : Option Section) (line start : ℕ) → piece_trees (pieces sec 0 [] (tokens_by line start [])) ≡ Ok []
unfolding piece_trees pieces tokens_by
no_lines sec line start = refl

lines_trees : (sec : Option Section) (line start : ℕ) (ls : List Line) → piece_trees (pieces sec 0 [] (tokens_by line start (lines_marks ls))) ≡ Ok (line_items line ls)
unfolding piece_trees line_items
lines_trees sec line start [] = no_lines sec line start
lines_trees sec line start (l ∷ ls) =
    ap piece_trees (line_pieces sec line start l (lines_marks ls))
    ∙ ap (λ r. first_or r (piece_trees (pieces (Some (section_in l)) 0 [] (tokens_by (line + 1) (next_start start l) (lines_marks ls))))) (line_tree l line (body_start start l))
    ∙ ap (λ r. with_first (line_item line l) r) (lines_trees (Some (section_in l)) (line + 1) (next_start start l) ls)

-- the items of lines are read
pub lines_items : (ls : List Line) → spec_of (tokens_by 1 0 (lines_marks ls)) ≡ Ok (line_items 1 ls)
unfolding spec_of
lines_items ls = lines_trees None 1 0 ls

pub lines_tokens : (ls : List Line) → HaveWords ls → tokens_of (lines_text ls) ≡ Ok (tokens_by 1 0 (lines_marks ls))
lines_tokens ls h = ap tokens_of (sym (lines_written ls h)) ∙ written_tokens (lines_marks ls) (lines_readable ls h)
