-- Lines are written by their tokens, and these are read.

use Rattle.std.proofs.Common.{◌≡◌, ◌∙◌, ℕ, pos, negsuc, ◌<◌, ◌≤◌, ◌^◌, Bool, true, false, not, List, [], ◌∷◌, ◌++◌, length, Option, Some, None, refl, ap, sym, subst, arith, append_assoc, append-nil}
use Rattle.std.specs.Prelude.{decimal, slice_index, codes, ◌==◌, ◌||◌}
use Rattle.std.specs.Char.{is_ascii_digit}
use Rattle.std.specs.Str.{all_ascii_digits}
use Rattle.std.proofs.lemmas.Bool.{and_parts}
use Rattle.std.proofs.lemmas.Bool.Decides.{nat_tests}
use Rattle.std.proofs.lemmas.Fmt.{decimal_nonempty, digits_decimal}
use Rattle.mltl_base.specs.declared.interval.Engine.{Engine}
use Rattle.mltl_base.specs.declared.interval.Engine.TheVariants.{Ft, Pt}
use Rattle.mltl_base.specs.declared.operators.ArithOp as arith_op
use Rattle.mltl_base.specs.declared.operators.BetweenOp as between_op
use Rattle.mltl_base.specs.declared.operators.CompareOp as compare_op
use Rattle.mltl_base.specs.declared.operators.LogicOp as logic_op
use Rattle.c2po_lexer.specs.Cut.{begins_word}
use Rattle.c2po_lexer.specs.Spelling.{keyword_text, sign_text}
use Rattle.c2po_lexer.specs.declared.token.Sign.{Sign}
use Rattle.c2po_lexer.specs.declared.token.Sign.TheVariants as sign
use Rattle.c2po_lexer.specs.declared.token.What.TheVariants as what
use Rattle.obs_show.specs.Lines.{Reference, always, named, number, Form, minus, arith as computes, compare, negation, logic, between, Line, input, define, formula, contract}
use Rattle.obs_show.specs.Text.{reference_text, arith_text, compare_text, logic_text, between_text, interval_text, spaced, form_text, kind_text, section_text, label_text, shown_line, lines_text}
use Rattle.show_roundtrip.proofs.Reading.{decimals}
use Rattle.show_roundtrip.specs.Written.{Mark, token, space, newline, IsNumeral, Ends, token_text, mark_text, ends_before, MarksAreReadable, marks_text}
use Rattle.show_roundtrip.specs.Said.{reference_token, arith_sign, compare_sign, logic_sign, between_word, interval_marks, spaced_marks, form_marks, kind_word, section_word, label_marks, body_marks, line_marks, lines_marks, HasToken, HasTokens, HasName, HasWords, HaveWords}

written_append : (ms ns : List Mark) → marks_text (ms ++ ns) ≡ marks_text ms ++ marks_text ns
written_append [] ns = refl
written_append (m ∷ ms) ns = ap (λ t. mark_text m ++ t) (written_append ms ns) ∙ sym (append_assoc (mark_text m) (marks_text ms) (marks_text ns))

-- parts joined from the left, and from the right
join4 : (a b c d : List ℕ) → ((a ++ b) ++ c) ++ d ≡ a ++ (b ++ (c ++ d))
join4 a b c d = append_assoc (a ++ b) c d ∙ append_assoc a b (c ++ d)

join5 : (a b c d e : List ℕ) → (((a ++ b) ++ c) ++ d) ++ e ≡ a ++ (b ++ (c ++ (d ++ e)))
join5 a b c d e = append_assoc ((a ++ b) ++ c) d e ∙ join4 a b c (d ++ e)

join7 : (a b c d e f g : List ℕ) → (((((a ++ b) ++ c) ++ d) ++ e) ++ f) ++ g ≡ a ++ (b ++ (c ++ (d ++ (e ++ (f ++ g)))))
join7 a b c d e f g = append_assoc ((((a ++ b) ++ c) ++ d) ++ e) f g ∙ append_assoc (((a ++ b) ++ c) ++ d) e (f ++ g) ∙ join5 a b c d (e ++ (f ++ g))

-- how references and operators are written
reference_is : (x : Reference) → HasToken x → token_text (reference_token x) ≡ reference_text x
reference_is (number (negsuc n)) h = absurd h
reference_is _ h = refl

arith_is : (op : arith_op.ArithOp) → sign_text (arith_sign op) ≡ arith_text op
arith_is arith_op.TheVariants.Add = refl
arith_is _ = refl

compare_is : (op : compare_op.CompareOp) → sign_text (compare_sign op) ≡ compare_text op
compare_is compare_op.TheVariants.Eq = refl
compare_is _ = refl

logic_is : (op : logic_op.LogicOp) → sign_text (logic_sign op) ≡ logic_text op
logic_is logic_op.TheVariants.And = refl
logic_is _ = refl

between_is : (op : between_op.BetweenOp) → keyword_text (between_word op) ≡ between_text op
between_is between_op.TheVariants.U = refl
between_is _ = refl

spaced_written : (x y : Reference) (ops : List Mark) (operator : List ℕ) → HasToken x → HasToken y → marks_text ops ≡ operator
    → marks_text (spaced_marks x ops y) ≡ spaced x operator y
spaced_written x y ops operator h g e =
    ap (λ t. t ++ (32 ∷ marks_text (ops ++ space ∷ token (reference_token y) ∷ []))) (reference_is x h)
    ∙ ap (λ t. reference_text x ++ (32 ∷ t)) (written_append ops (space ∷ token (reference_token y) ∷ []))
    ∙ ap (λ t. reference_text x ++ (32 ∷ (t ++ (32 ∷ (token_text (reference_token y) ++ []))))) e
    ∙ ap (λ t. reference_text x ++ (32 ∷ (operator ++ (32 ∷ t)))) (append-nil (token_text (reference_token y)) ∙ reference_is y g)
    ∙ sym (join5 (reference_text x) (32 ∷ []) operator (32 ∷ []) (reference_text y))

one_written : (s : Sign) → marks_text (token (what.Sign s) ∷ []) ≡ sign_text s
one_written s = append-nil (sign_text s)

after_written : (x : Reference) → HasToken x → marks_text (token (reference_token x) ∷ []) ≡ reference_text x
after_written x h = append-nil (token_text (reference_token x)) ∙ reference_is x h

form_written : (f : Form) → HasTokens f → marks_text (form_marks f) ≡ form_text f
form_written (minus x) h = ap (λ t. 45 ∷ t) (after_written x h)
form_written (computes op x y) h = spaced_written x y (token (what.Sign (arith_sign op)) ∷ []) (arith_text op) h.0 h.1 (one_written (arith_sign op) ∙ arith_is op)
form_written (compare op x y) h = spaced_written x y (token (what.Sign (compare_sign op)) ∷ []) (compare_text op) h.0 h.1 (one_written (compare_sign op) ∙ compare_is op)
form_written (negation x) h = ap (λ t. 33 ∷ t) (after_written x h)
form_written (logic op x y) h = spaced_written x y (token (what.Sign (logic_sign op)) ∷ []) (logic_text op) h.0 h.1 (one_written (logic_sign op) ∙ logic_is op)
form_written (between op window x y) h =
    spaced_written x y (token (what.Reserved (between_word op)) ∷ interval_marks window) (between_text op ++ interval_text window) h.2 h.3
    (ap (λ t. t ++ marks_text (interval_marks window)) (between_is op)
    ∙ ap (λ t. between_text op ++ (91 ∷ t)) (sym (join4 (decimal window.lo) (44 ∷ []) (decimal window.hi) (93 ∷ []))))

kind_is : (truth : Bool) → keyword_text (kind_word truth) ≡ kind_text truth
kind_is true = refl
kind_is false = refl

section_is : (engine : Engine) (label : Option (List ℕ)) (x : Reference) → keyword_text (section_word (formula engine label x)) ≡ section_text engine
section_is Ft label x = refl
section_is Pt label x = refl

section_is_two : (engine : Engine) (label : Option (List ℕ)) (x y : Reference) → keyword_text (section_word (contract engine label x y)) ≡ section_text engine
section_is_two Ft label x y = refl
section_is_two Pt label x y = refl

label_written : (label : Option (List ℕ)) (rest : List Mark) → marks_text (label_marks label ++ rest) ≡ label_text label ++ marks_text rest
label_written None rest = refl
label_written (Some x) rest = sym (append_assoc x (58 ∷ 32 ∷ []) (marks_text rest))

-- the end of a line
abbrev stop : List ℕ
stop = 59 ∷ 10 ∷ []

line_written : (l : Line) → HasWords l → marks_text (line_marks l) ≡ shown_line l
line_written (input x truth) h = ap (λ t. codes "INPUT " ++ (x ++ (codes ": " ++ (t ++ stop)))) (kind_is truth) ∙ ap (λ t. codes "INPUT " ++ t) (sym (join4 x (codes ": ") (kind_text truth) stop))
line_written (define x form) h =
    ap (λ t. codes "DEFINE " ++ (x ++ (codes " := " ++ t))) (written_append (form_marks form) (token (what.Sign sign.Semicolon) ∷ newline ∷ []))
    ∙ ap (λ t. codes "DEFINE " ++ (x ++ (codes " := " ++ (t ++ stop)))) (form_written form h.1)
    ∙ ap (λ t. codes "DEFINE " ++ t) (sym (join4 x (codes " := ") (form_text form) stop))
line_written (formula engine label x) h =
    ap (λ t. t ++ (32 ∷ marks_text ((label_marks label ++ token (reference_token x) ∷ []) ++ token (what.Sign sign.Semicolon) ∷ newline ∷ []))) (section_is engine label x)
    ∙ ap (λ ms. section_text engine ++ (32 ∷ marks_text ms)) (append_assoc (label_marks label) (token (reference_token x) ∷ []) (token (what.Sign sign.Semicolon) ∷ newline ∷ []))
    ∙ ap (λ t. section_text engine ++ (32 ∷ t)) (label_written label (token (reference_token x) ∷ token (what.Sign sign.Semicolon) ∷ newline ∷ []))
    ∙ ap (λ t. section_text engine ++ (32 ∷ (label_text label ++ (t ++ stop)))) (reference_is x h.1)
    ∙ sym (join5 (section_text engine) (32 ∷ []) (label_text label) (reference_text x) stop)
line_written (contract engine label x y) h =
    ap (λ t. t ++ (32 ∷ marks_text ((label_marks label ++ token (reference_token x) ∷ space ∷ token (what.Sign sign.Promises) ∷ space ∷ token (reference_token y) ∷ []) ++ token (what.Sign sign.Semicolon) ∷ newline ∷ []))) (section_is_two engine label x y)
    ∙ ap (λ ms. section_text engine ++ (32 ∷ marks_text ms)) (append_assoc (label_marks label) (token (reference_token x) ∷ space ∷ token (what.Sign sign.Promises) ∷ space ∷ token (reference_token y) ∷ []) (token (what.Sign sign.Semicolon) ∷ newline ∷ []))
    ∙ ap (λ t. section_text engine ++ (32 ∷ t)) (label_written label (token (reference_token x) ∷ space ∷ token (what.Sign sign.Promises) ∷ space ∷ token (reference_token y) ∷ token (what.Sign sign.Semicolon) ∷ newline ∷ []))
    ∙ ap (λ t. section_text engine ++ (32 ∷ (label_text label ++ (t ++ (codes " => " ++ (token_text (reference_token y) ++ stop)))))) (reference_is x h.1)
    ∙ ap (λ t. section_text engine ++ (32 ∷ (label_text label ++ (reference_text x ++ (codes " => " ++ (t ++ stop)))))) (reference_is y h.2)
    ∙ sym (join7 (section_text engine) (32 ∷ []) (label_text label) (reference_text x) (codes " => ") (reference_text y) stop)

-- what a token is followed by
reference_space : (x : Reference) (rest : List ℕ) → Ends (reference_token x) (32 ∷ rest)
reference_space always rest = refl
reference_space _ rest = refl

reference_stop : (x : Reference) (rest : List ℕ) → Ends (reference_token x) (59 ∷ rest)
reference_stop always rest = refl
reference_stop _ rest = refl

arith_space : (op : arith_op.ArithOp) (rest : List ℕ) → Ends (what.Sign (arith_sign op)) (32 ∷ rest)
arith_space arith_op.TheVariants.Add rest = refl
arith_space _ rest = refl

compare_space : (op : compare_op.CompareOp) (rest : List ℕ) → Ends (what.Sign (compare_sign op)) (32 ∷ rest)
compare_space compare_op.TheVariants.Eq rest = refl
compare_space _ rest = refl

logic_space : (op : logic_op.LogicOp) (rest : List ℕ) → Ends (what.Sign (logic_sign op)) (32 ∷ rest)
logic_space logic_op.TheVariants.And rest = refl
logic_space _ rest = refl

word_byte : (b : ℕ) → begins_word b ≡ true → (not (b == 62 || b == 45) ≡ true) × (not (b == 61) ≡ true)
word_byte b h = (grind (arith, nat_tests), grind (arith, nat_tests))

digit_byte : (b : ℕ) → is_ascii_digit b ≡ true → (not (b == 62 || b == 45) ≡ true) × (not (b == 61) ≡ true)
digit_byte b h = (grind (arith, nat_tests), grind (arith, nat_tests))

-- minus and not end before a reference, and every sign that no other extends before a number
abbrev PrefixesEnd : List ℕ → Type 0
PrefixesEnd bytes = Ends (what.Sign sign.Minus) bytes × Ends (what.Sign sign.Bang) bytes

before_name : (x rest : List ℕ) → begins_word (slice_index x 0) ≡ true → PrefixesEnd (x ++ rest)
before_name [] rest h = absurd (cc)
before_name (b ∷ x) rest h = word_byte b h

before_digits : (ds rest : List ℕ) → 0 < length ds → all_ascii_digits ds ≡ true → PrefixesEnd (ds ++ rest)
before_digits [] rest some all = absurd (omega arith)
before_digits (b ∷ ds) rest some all =
    let parts : (is_ascii_digit b ≡ true) × (all_ascii_digits ds ≡ true) = and_parts (is_ascii_digit b) (all_ascii_digits ds) all in
    digit_byte b parts.0

before_number : (n : ℕ) (rest : List ℕ) → n ≤ 9223372036854775807 → PrefixesEnd (decimal n ++ rest)
before_number n rest small =
    let fits : n < 2 ^ 64 = omega arith in
    before_digits (decimal n) rest (decimal_nonempty n fits) (digits_decimal decimals n fits)

before_reference : (x : Reference) (rest : List ℕ) → HasToken x → PrefixesEnd (token_text (reference_token x) ++ rest)
before_reference always rest h = (refl, refl)
before_reference (named x) rest h = before_name x rest h.begins
before_reference (number (pos n)) rest h = before_number n rest h
before_reference (number (negsuc n)) rest h = absurd h

some_bytes : (s : Sign) (xs rest : List ℕ) → ((b : ℕ) → ends_before s b ≡ true) → 0 < length xs → Ends (what.Sign s) (xs ++ rest)
some_bytes s [] rest h some = absurd (omega arith)
some_bytes s (b ∷ xs) rest h some = h b

sign_number : (s : Sign) (n : ℕ) (rest : List ℕ) → ((b : ℕ) → ends_before s b ≡ true) → IsNumeral (pos n) → Ends (what.Sign s) (decimal n ++ rest)
sign_number s n rest h small =
    let fits : n < 2 ^ 64 = omega arith in
    some_bytes s (decimal n) rest h (decimal_nonempty n fits)

-- what is readable after a form, and after a line
after_readable : (x : Reference) (rest : List Mark) → HasToken x → MarksAreReadable rest → MarksAreReadable (token (reference_token x) ∷ token (what.Sign sign.Semicolon) ∷ newline ∷ rest)
unfolding MarksAreReadable
after_readable x rest h r = (h, reference_stop x (10 ∷ marks_text rest), (tt, refl, r))

-- the end of a line, before more
abbrev ending : List Mark → List Mark
ending rest = token (what.Sign sign.Semicolon) ∷ newline ∷ rest

signed_readable : (x y : Reference) (s : Sign) (rest : List Mark) → HasToken x → HasToken y → ((bytes : List ℕ) → Ends (what.Sign s) (32 ∷ bytes)) → MarksAreReadable rest
    → MarksAreReadable (token (reference_token x) ∷ space ∷ token (what.Sign s) ∷ space ∷ token (reference_token y) ∷ ending rest)
unfolding MarksAreReadable
signed_readable x y s rest h g e r = (h, reference_space x (marks_text (token (what.Sign s) ∷ space ∷ token (reference_token y) ∷ ending rest)), (tt, e (marks_text (token (reference_token y) ∷ ending rest)), after_readable y rest g r))

form_readable : (f : Form) (rest : List Mark) → HasTokens f → MarksAreReadable rest → MarksAreReadable (form_marks f ++ ending rest)
unfolding MarksAreReadable
form_readable (minus x) rest h r = (tt, (before_reference x (marks_text (ending rest)) h).0, after_readable x rest h r)
form_readable (computes op x y) rest h r = signed_readable x y (arith_sign op) rest h.0 h.1 (arith_space op) r
form_readable (compare op x y) rest h r = signed_readable x y (compare_sign op) rest h.0 h.1 (compare_space op) r
form_readable (negation x) rest h r = (tt, (before_reference x (marks_text (ending rest)) h).1, after_readable x rest h r)
form_readable (logic op x y) rest h r = signed_readable x y (logic_sign op) rest h.0 h.1 (logic_space op) r
form_readable (between op window x y) rest h r = (
  h.2,
  reference_space x (marks_text (token (what.Reserved (between_word op)) ∷ interval_marks window ++ space ∷ token (reference_token y) ∷ ending rest)),
  (
    tt,
    refl,
    (
      tt,
      sign_number sign.LeftSquare window.lo (marks_text (token (what.Sign sign.Comma) ∷ token (what.Number (pos window.hi)) ∷ token (what.Sign sign.RightSquare) ∷ space ∷ token (reference_token y) ∷ ending rest)) (λ b. refl) h.0,
      (
        h.0,
        refl,
        (
          tt,
          sign_number sign.Comma window.hi (marks_text (token (what.Sign sign.RightSquare) ∷ space ∷ token (reference_token y) ∷ ending rest)) (λ b. refl) h.1,
          (h.1, refl, (tt, refl, after_readable y rest h.3 r)),
        ),
      ),
    ),
  ),
)

labelled_readable : (label : Option (List ℕ)) (rest : List Mark) → HasName label → MarksAreReadable rest → MarksAreReadable (label_marks label ++ rest)
unfolding MarksAreReadable
labelled_readable None rest h r = r
labelled_readable (Some x) rest h r = (h, refl, (tt, refl, r))

body_readable : (l : Line) (rest : List Mark) → HasWords l → MarksAreReadable rest → MarksAreReadable (body_marks l ++ ending rest)
unfolding MarksAreReadable
body_readable (input x truth) rest h r = (h, refl, (tt, refl, (tt, refl, (tt, refl, r))))
body_readable (define x form) rest h r = (h.0, refl, (tt, refl, form_readable form rest h.1 r))
body_readable (formula engine label x) rest h r =
    subst MarksAreReadable (sym (append_assoc (label_marks label) (token (reference_token x) ∷ []) (ending rest)))
    (labelled_readable label (token (reference_token x) ∷ ending rest) h.0 (after_readable x rest h.1 r))
body_readable (contract engine label x y) rest h r =
    subst MarksAreReadable (sym (append_assoc (label_marks label) (token (reference_token x) ∷ space ∷ token (what.Sign sign.Promises) ∷ space ∷ token (reference_token y) ∷ []) (ending rest)))
    (labelled_readable label (token (reference_token x) ∷ space ∷ token (what.Sign sign.Promises) ∷ space ∷ token (reference_token y) ∷ ending rest) h.0
    (signed_readable x y sign.Promises rest h.1 h.2 (λ bytes. refl) r))

line_readable : (l : Line) (rest : List Mark) → HasWords l → MarksAreReadable rest → MarksAreReadable (line_marks l ++ rest)
unfolding MarksAreReadable
line_readable l rest h r =
    (tt, refl, subst MarksAreReadable (sym (append_assoc (body_marks l) (token (what.Sign sign.Semicolon) ∷ newline ∷ []) rest)) (body_readable l rest h r))

pub lines_readable : (ls : List Line) → HaveWords ls → MarksAreReadable (lines_marks ls)
unfolding MarksAreReadable
lines_readable [] h = tt
lines_readable (l ∷ ls) h = line_readable l (lines_marks ls) h.0 (lines_readable ls h.1)

pub lines_written : (ls : List Line) → HaveWords ls → marks_text (lines_marks ls) ≡ lines_text ls
lines_written [] h = refl
lines_written (l ∷ ls) h = written_append (line_marks l) (lines_marks ls) ∙ ap (λ t. t ++ marks_text (lines_marks ls)) (line_written l h.0) ∙ ap (λ t. shown_line l ++ t) (lines_written ls h.1)
