-- The tokens of lines are read as the items that they say.

use Rattle.std.proofs.Common.{◌≡◌, ◌∙◌, ℕ, ◌+◌, ◌-◌, ◌≤◌, zero, suc, Bool, true, false, List, [], ◌∷◌, ◌++◌, length, Option, Some, None, Ok, Err, refl, ap, sym, subst, arith, append-nil, nat_lt}
use Rattle.std.specs.Prelude.{if◌then◌else◌, is_some, option_and_then}
use Rattle.mltl_base.specs.declared.interval.Engine.{Engine}
use Rattle.mltl_base.specs.declared.interval.Engine.TheVariants.{Ft, Pt}
use Rattle.mltl_base.specs.declared.interval.Interval.{Interval}
use Rattle.mltl_base.specs.declared.operators.ArithOp as arith_op
use Rattle.mltl_base.specs.declared.operators.BetweenOp as between_op
use Rattle.mltl_base.specs.declared.operators.CompareOp as compare_op
use Rattle.mltl_base.specs.declared.operators.LogicOp as logic_op
use Rattle.c2po_lexer.specs.declared.token.Sign.{Sign}
use Rattle.c2po_lexer.specs.declared.token.Sign.TheVariants as sign
use Rattle.c2po_lexer.specs.declared.token.Keyword.TheVariants as keyword
use Rattle.c2po_lexer.specs.declared.token.Token.{Token}
use Rattle.c2po_lexer.specs.declared.token.What.{What}
use Rattle.c2po_lexer.specs.declared.token.What.TheVariants as what
use Rattle.c2po_ast.specs.declared.operator.Infix.{Infix}
use Rattle.c2po_ast.specs.declared.operator.Infix.TheVariants.{Logic, Between, Compare, Arith}
use Rattle.c2po_parse.specs.declared.operator.Operator.TheVariants.{Binary}
use Rattle.c2po_ast.specs.declared.operator.Prefix.{Prefix}
use Rattle.c2po_ast.specs.declared.operator.Prefix.TheVariants.{Not, Minus}
use Rattle.c2po_ast.specs.declared.operator.Atom.{Atom}
use Rattle.c2po_ast.specs.declared.operator.Atom.TheVariants.{Number, Truth, Ref}
use Rattle.c2po_parse.specs.declared.operator.Start.TheVariants.{Leaf, Before}
use Rattle.c2po_ast.specs.Shape.{Shape}
use Rattle.c2po_ast.specs.ItemShape as item
use Rattle.c2po_ast.specs.ItemShape.{BodyShape, ItemShape}
use Rattle.c2po_parse.specs.Tokens.{is_sign, depth_after, left_level, right_level}
use Rattle.c2po_ast.specs.Parts.{joined, prefixed, leaf}
use Rattle.c2po_parse.specs.Fronts.{infix_level, prefix_level, start_at, operator_at, interval_at}
use Rattle.c2po_parse.specs.Splitting.{parsed_tree}
use Rattle.c2po_parse.proofs.Rules.{Derives, down, joins, behind, alone}
use Rattle.c2po_parse.proofs.Starts.{StartFront, start_at-front}
use Rattle.c2po_parse.proofs.Operators.{OperatorFront, operator_at-front}
use Rattle.c2po_parse.proofs.Agree.{derived-tree}
use Rattle.c2po_parse.specs.declared.section.Section.{Section}
use Rattle.c2po_parse.specs.declared.section.Section.TheVariants.{Input, Define, Output}
use Rattle.c2po_parse.specs.Sections.{section_of, line_or, item_of}
use Rattle.c2po_parse.specs.Forms.{body_of, define_of, input_of, names_within, type_within, output_item, output_at, label_at, promise_at}
use Rattle.c2po_parse.specs.Specification.{with_line, piece_tree}
use Rattle.c2po_parse.specs.declared.fault.ParseFault.TheVariants.{TooManyTokens}
use Rattle.obs_show.specs.Lines.{Reference, always, named, number, Form, minus, arith as computes, compare, negation, logic, between, Line, input, define, formula, contract}
use Rattle.c2po_parse.proofs.ClimbSound.{lower}
use Rattle.show_roundtrip.specs.Written.{token, token_text, tokens_by}
use Rattle.show_roundtrip.specs.Said.{reference_token, arith_sign, compare_sign, logic_sign, between_word, interval_marks, form_marks, section_word, body_marks, reference_shape, form_shape, line_body, line_item}

-- a token at a place
abbrev pub at_place : (line start end : ℕ) → What → Token
at_place line start end w = record { what = w; line = line; start = start; end = end }

lowered : (j k : ℕ) (c : List Token) (e : Shape) → k ≤ j → j ≤ 12 → Derives j c e → Derives k c e
lowered j k c e below top h =
    let same : j ≡ k + (j - k) = omega arith in
    lower (j - k) k c e (omega arith) (subst (λ n. Derives n c e) same h)

leaf_derives : (t : Token) (line : ℕ) (a : Atom) → start_at (t ∷ []) ≡ Some (Leaf line a, []) → Derives 12 (t ∷ []) (leaf line a)
leaf_derives t line a h =
    let f : StartFront (Leaf line a) (t ∷ []) [] = start_at-front (t ∷ []) (Leaf line a) [] h in
    subst (λ us. Derives 12 us (leaf line a)) (sym (f.joined ∙ append-nil f.front)) (alone line a f.front f.is)

reference_derives : (line s n : ℕ) (x : Reference) → Derives 12 (at_place line s n (reference_token x) ∷ []) (reference_shape line x)
unfolding start_at
reference_derives line s n always = leaf_derives (at_place line s n (what.Reserved keyword.True)) line (Truth true) refl
reference_derives line s n (named x) = leaf_derives (at_place line s n (what.Word x)) line (Ref x) refl
reference_derives line s n (number z) = leaf_derives (at_place line s n (what.Number z)) line (Number z) refl

prefix_derives : (p : Prefix) (t r : Token) (e : Shape) → prefix_level p ≤ 12 → start_at (t ∷ r ∷ []) ≡ Some (Before p, r ∷ []) → Derives 12 (r ∷ []) e → Derives (prefix_level p) (t ∷ r ∷ []) (prefixed p e)
prefix_derives p t r e top h d =
    let f : StartFront (Before p) (t ∷ r ∷ []) (r ∷ []) = start_at-front (t ∷ r ∷ []) (Before p) (r ∷ []) h in
    subst (λ us. Derives (prefix_level p) us (prefixed p e)) (sym f.joined) (behind p f.front (r ∷ []) e f.is (lowered 12 (prefix_level p) (r ∷ []) e top (omega arith) d))

-- levels of operators are within the levels of operands
pub record AreLevels (op : Infix) : Type 0 where
  pub left : left_level (infix_level op) ≤ 12
  pub right : right_level (infix_level op) ≤ 12
  pub low : 1 ≤ infix_level op
  pub high : infix_level op ≤ 12

levels : (op : Infix) → AreLevels op
levels (Logic logic_op.TheVariants.Iff) = record { left = omega arith; right = omega arith; low = omega arith; high = omega arith }
levels (Arith arith_op.TheVariants.Add) = record { left = omega arith; right = omega arith; low = omega arith; high = omega arith }
levels _ = record { left = omega arith; right = omega arith; low = omega arith; high = omega arith }

two_derive : (line : ℕ) (op : Infix) (x r : Token) (ops : List Token) (e f : Shape) → operator_at (ops ++ r ∷ []) ≡ Some (Binary line op, r ∷ []) → Derives 12 (x ∷ []) e → Derives 12 (r ∷ []) f
    → Derives 1 (x ∷ (ops ++ r ∷ [])) (joined line op e f)
two_derive line op x r ops e f h left right =
    let o : OperatorFront (Binary line op) (ops ++ r ∷ []) (r ∷ []) = operator_at-front (ops ++ r ∷ []) (Binary line op) (r ∷ []) h in
    let l : AreLevels op = levels op in
    lowered (infix_level op) 1 (x ∷ (ops ++ r ∷ [])) (joined line op e f) l.low l.high
    (subst (λ ts. Derives (infix_level op) (x ∷ ts) (joined line op e f)) (sym o.joined)
    (joins line op (x ∷ []) o.at o.front (r ∷ []) e f (lowered 12 (left_level (infix_level op)) (x ∷ []) e l.left (omega arith) left) o.is
    (lowered 12 (right_level (infix_level op)) (r ∷ []) f l.right (omega arith) right)))

arith_reads : (op : arith_op.ArithOp) (line s n : ℕ) (r : Token) → operator_at (at_place line s n (what.Sign (arith_sign op)) ∷ r ∷ []) ≡ Some (Binary line (Arith op), r ∷ [])
unfolding operator_at
arith_reads arith_op.TheVariants.Add line s n r = refl
arith_reads _ line s n r = refl

compare_reads : (op : compare_op.CompareOp) (line s n : ℕ) (r : Token) → operator_at (at_place line s n (what.Sign (compare_sign op)) ∷ r ∷ []) ≡ Some (Binary line (Compare op), r ∷ [])
unfolding operator_at
compare_reads compare_op.TheVariants.Eq line s n r = refl
compare_reads _ line s n r = refl

logic_reads : (op : logic_op.LogicOp) (line s n : ℕ) (r : Token) → operator_at (at_place line s n (what.Sign (logic_sign op)) ∷ r ∷ []) ≡ Some (Binary line (Logic op), r ∷ [])
unfolding operator_at
logic_reads logic_op.TheVariants.And line s n r = refl
logic_reads _ line s n r = refl

-- the tokens of an operator with its interval
abbrev between_tokens : between_op.BetweenOp → Interval → (line s : ℕ) → List Token
between_tokens op window line s = tokens_by line s (token (what.Reserved (between_word op)) ∷ interval_marks window)

between_reads : (op : between_op.BetweenOp) (window : Interval) (line s : ℕ) (r : Token) → operator_at (between_tokens op window line s ++ r ∷ []) ≡ Some (Binary line (Between op window.lo window.hi), r ∷ [])
unfolding operator_at interval_at tokens_by
between_reads between_op.TheVariants.U window line s r = refl
between_reads _ window line s r = refl

-- the tokens of a form derive its tree
form_derives : (f : Form) (line s : ℕ) → Derives 1 (tokens_by line s (form_marks f)) (form_shape line f)
unfolding tokens_by start_at
form_derives (minus x) line s =
    lowered 10 1 _ _ (omega arith) (omega arith)
    (prefix_derives (Minus line) (at_place line s _ (what.Sign sign.Minus)) (at_place line _ _ (reference_token x)) (reference_shape line x) (omega arith) refl (reference_derives line _ _ x))
form_derives (negation x) line s =
    lowered 6 1 _ _ (omega arith) (omega arith)
    (prefix_derives (Not line) (at_place line s _ (what.Sign sign.Bang)) (at_place line _ _ (reference_token x)) (reference_shape line x) (omega arith) refl (reference_derives line _ _ x))
form_derives (computes op x y) line s =
    two_derive line (Arith op) (at_place line s _ (reference_token x)) (at_place line _ _ (reference_token y)) (at_place line _ _ (what.Sign (arith_sign op)) ∷ []) (reference_shape line x) (reference_shape line y)
    (arith_reads op line _ _ _) (reference_derives line _ _ x) (reference_derives line _ _ y)
form_derives (compare op x y) line s =
    two_derive line (Compare op) (at_place line s _ (reference_token x)) (at_place line _ _ (reference_token y)) (at_place line _ _ (what.Sign (compare_sign op)) ∷ []) (reference_shape line x) (reference_shape line y)
    (compare_reads op line _ _ _) (reference_derives line _ _ x) (reference_derives line _ _ y)
form_derives (logic op x y) line s =
    two_derive line (Logic op) (at_place line s _ (reference_token x)) (at_place line _ _ (reference_token y)) (at_place line _ _ (what.Sign (logic_sign op)) ∷ []) (reference_shape line x) (reference_shape line y)
    (logic_reads op line _ _ _) (reference_derives line _ _ x) (reference_derives line _ _ y)
form_derives (between op window x y) line s =
    two_derive line (Between op window.lo window.hi) (at_place line s _ (reference_token x)) (at_place line _ _ (reference_token y)) (between_tokens op window line (s + length (token_text (reference_token x)) + 1)) (reference_shape line x) (reference_shape line y)
    (between_reads op window line (s + length (token_text (reference_token x)) + 1) _) (reference_derives line _ _ x) (reference_derives line _ _ y)

form_tree : (f : Form) (line s : ℕ) → parsed_tree (tokens_by line s (form_marks f)) ≡ Some (form_shape line f)
form_tree f line s = derived-tree (tokens_by line s (form_marks f)) (form_shape line f) (form_derives f line s)

reference_tree : (x : Reference) (line s n : ℕ) → parsed_tree (at_place line s n (reference_token x) ∷ []) ≡ Some (reference_shape line x)
reference_tree x line s n = derived-tree (at_place line s n (reference_token x) ∷ []) (reference_shape line x) (lowered 12 1 _ _ (omega arith) (omega arith) (reference_derives line s n x))

-- the section of a line
abbrev pub section_in : Line → Section
section_in (input x truth) = Input
section_in (define x form) = Define
section_in (formula engine label x) = Output engine
section_in (contract engine label x y) = Output engine

pub section_begins : (l : Line) → section_of (what.Reserved (section_word l)) ≡ Some (section_in l)
section_begins (input x truth) = refl
section_begins (formula Ft label x) = refl
section_begins (contract Ft label x y) = refl
section_begins _ = refl

input_reads : (x : List ℕ) (truth : Bool) (line s : ℕ) → body_of Input (tokens_by line s (body_marks (input x truth))) ≡ Some (line_body line (input x truth))
unfolding tokens_by input_of names_within type_within
input_reads x true line s = refl
input_reads x false line s = refl

abbrev defined_as : List ℕ → Option Shape → Option BodyShape
defined_as x o = option_and_then (λ e. Some (item.define x e)) o

define_reads : (x : List ℕ) (f : Form) (line s : ℕ) → body_of Define (tokens_by line s (body_marks (define x f))) ≡ Some (line_body line (define x f))
unfolding tokens_by define_of
define_reads x f line s = ap (defined_as x) (form_tree f line (s + length x + 1 + 2 + 1))

abbrev said_as : Engine → Option (List ℕ) → Option Shape → Option BodyShape
said_as engine label o = option_and_then (λ e. Some (item.formula engine label e)) o

formula_reads : (engine : Engine) (label : Option (List ℕ)) (x : Reference) (line s : ℕ) → body_of (Output engine) (tokens_by line s (body_marks (formula engine label x))) ≡ Some (line_body line (formula engine label x))
unfolding tokens_by output_item label_at promise_at
formula_reads engine None always line s = ap (said_as engine None) (reference_tree always line _ _)
formula_reads engine (Some x) always line s = ap (said_as engine (Some x)) (reference_tree always line _ _)
formula_reads engine y y' line s = ap (said_as engine y) (reference_tree y' line _ _)

-- the tokens of a contract after its label
abbrev contract_tokens : (line a b c d e f : ℕ) → Reference → Reference → List Token
contract_tokens line a b c d e f x y = at_place line a b (reference_token x) ∷ at_place line c d (what.Sign sign.Promises) ∷ at_place line e f (reference_token y) ∷ []

abbrev promise : Engine → Option (List ℕ) → Option Shape → Option Shape → Option BodyShape
promise engine label o u = option_and_then (λ e. option_and_then (λ f. Some (item.contract engine label e f)) u) o

no_promise : (y : Reference) (line e f : ℕ) → promise_at 0 0 (at_place line e f (reference_token y) ∷ []) ≡ None
unfolding promise_at
no_promise always line e f = refl
no_promise _ line e f = refl

promise_here : (x y : Reference) (line a b c d e f : ℕ) → promise_at 0 0 (contract_tokens line a b c d e f x y) ≡ Some 1
unfolding promise_at
promise_here always y line a b c d e f = refl
promise_here _ y line a b c d e f = refl

after_label : (engine : Engine) (label : Option (List ℕ)) (x y : Reference) (line a b c d e f : ℕ)
    → output_at engine label (contract_tokens line a b c d e f x y) (promise_at 0 0 (contract_tokens line a b c d e f x y)) ≡ Some (line_body line (contract engine label x y))
after_label engine label x y line a b c d e f =
    ap (output_at engine label (contract_tokens line a b c d e f x y)) (promise_here x y line a b c d e f)
    ∙ ap (λ (o : Option ℕ). if is_some o then None else promise engine label (parsed_tree (at_place line a b (reference_token x) ∷ [])) (parsed_tree (at_place line e f (reference_token y) ∷ []))) (no_promise y line e f)
    ∙ ap (λ o. promise engine label o (parsed_tree (at_place line e f (reference_token y) ∷ []))) (reference_tree x line a b)
    ∙ ap (λ o. promise engine label (Some (reference_shape line x)) o) (reference_tree y line e f)

contract_reads : (engine : Engine) (label : Option (List ℕ)) (x y : Reference) (line s : ℕ) → body_of (Output engine) (tokens_by line s (body_marks (contract engine label x y))) ≡ Some (line_body line (contract engine label x y))
unfolding tokens_by output_item label_at
contract_reads engine (Some z) x y line s = after_label engine (Some z) x y line _ _ _ _ _ _
contract_reads engine None always y line s = after_label engine None always y line _ _ _ _ _ _
contract_reads engine x x' y line s = after_label engine x x' y line _ _ _ _ _ _

body_reads : (l : Line) (line s : ℕ) → body_of (section_in l) (tokens_by line s (body_marks l)) ≡ Some (line_body line l)
body_reads (input x truth) line s = input_reads x truth line s
body_reads (define x f) line s = define_reads x f line s
body_reads (formula engine label x) line s = formula_reads engine label x line s
body_reads (contract engine label x y) line s = contract_reads engine label x y line s

-- a line has few tokens, the first of them on it
few_tokens : (l : Line) (line s : ℕ) → nat_lt 1024 (length (tokens_by line s (body_marks l))) ≡ false
unfolding tokens_by
few_tokens (input x truth) line s = refl
few_tokens (define x (minus a)) line s = refl
few_tokens (formula engine None x) line s = refl
few_tokens (contract engine None x y) line s = refl
few_tokens _ line s = refl

first_line : (l : Line) (line s : ℕ) → line_or line (tokens_by line s (body_marks l)) ≡ line
unfolding tokens_by
first_line (input x truth) line s = refl
first_line (formula engine None x) line s = refl
first_line (contract engine None x y) line s = refl
first_line _ line s = refl

pub line_tree : (l : Line) (line s : ℕ) → piece_tree (item_of (Some (section_in l)) line (tokens_by line s (body_marks l))) ≡ Ok (line_item line l)
line_tree l line s =
    ap (λ b. if b then Err (TooManyTokens (line_or line (tokens_by line s (body_marks l)))) else with_line (line_or line (tokens_by line s (body_marks l))) (body_of (section_in l) (tokens_by line s (body_marks l)))) (few_tokens l line s)
    ∙ ap (λ n. with_line n (body_of (section_in l) (tokens_by line s (body_marks l)))) (first_line l line s)
    ∙ ap (λ b. with_line line b) (body_reads l line s)
