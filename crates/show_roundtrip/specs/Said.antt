-- Lines of a specification in its plainest form: the tokens and the item of each line.

use Rattle.std.specs.Prelude.{◌+◌, ℕ, pos, Bool, true, false, List, [], ◌∷◌, ◌++◌, codes, Option, Some, None, ⊤}
use Rattle.std.specs.List.{flat_map}
use Rattle.mltl_base.specs.declared.interval.Engine.TheVariants.{Ft, Pt}
use Rattle.mltl_base.specs.declared.interval.Interval.{Interval}
use Rattle.mltl_base.specs.declared.operators.ArithOp as arith_op
use Rattle.mltl_base.specs.declared.operators.BetweenOp as between_op
use Rattle.mltl_base.specs.declared.operators.CompareOp as compare_op
use Rattle.mltl_base.specs.declared.operators.LogicOp as logic_op
use Rattle.c2po_lexer.specs.declared.token.Keyword.{Keyword}
use Rattle.c2po_lexer.specs.declared.token.Keyword.TheVariants as keyword
use Rattle.c2po_lexer.specs.declared.token.Sign.{Sign}
use Rattle.c2po_lexer.specs.declared.token.Sign.TheVariants as sign
use Rattle.c2po_lexer.specs.declared.token.What.{What}
use Rattle.c2po_lexer.specs.declared.token.What.TheVariants as what
use Rattle.c2po_ast.specs.Shape as tree
use Rattle.c2po_ast.specs.Shape.{Shape}
use Rattle.c2po_ast.specs.ItemShape as item
use Rattle.c2po_ast.specs.ItemShape.{BodyShape, ItemShape, type_named}
use Rattle.obs_show.specs.Lines.{Reference, always, named, number, Form, minus, arith, compare, negation, logic}
use Rattle.obs_show.specs.Lines.{between, Line, input, define, formula, contract}
use Rattle.show_roundtrip.specs.Written.{Mark, token, space, newline, IsName, IsToken, IsNumeral}

-- the token of a reference
abbrev pub reference_token : Reference → What
reference_token always = what.Reserved keyword.True
reference_token (named x) = what.Word x
reference_token (number n) = what.Number n

-- the sign of an operator between integers
abbrev pub arith_sign : arith_op.ArithOp → Sign
arith_sign arith_op.TheVariants.Add = sign.Plus
arith_sign arith_op.TheVariants.Sub = sign.Minus
arith_sign arith_op.TheVariants.Mul = sign.Star
arith_sign arith_op.TheVariants.Div = sign.Slash
arith_sign arith_op.TheVariants.Rem = sign.Percent

-- the sign of a comparison
abbrev pub compare_sign : compare_op.CompareOp → Sign
compare_sign compare_op.TheVariants.Eq = sign.EqualEqual
compare_sign compare_op.TheVariants.Ne = sign.NotEqual
compare_sign compare_op.TheVariants.Lt = sign.Less
compare_sign compare_op.TheVariants.Le = sign.LessEqual
compare_sign compare_op.TheVariants.Gt = sign.Greater
compare_sign compare_op.TheVariants.Ge = sign.GreaterEqual

-- the sign of an operator between formulas
abbrev pub logic_sign : logic_op.LogicOp → Sign
logic_sign logic_op.TheVariants.And = sign.AndAnd
logic_sign logic_op.TheVariants.Or = sign.OrOr
logic_sign logic_op.TheVariants.Implies = sign.Implies
logic_sign logic_op.TheVariants.Iff = sign.Iff

-- the reserved letter of until, release and since
abbrev pub between_word : between_op.BetweenOp → Keyword
between_word between_op.TheVariants.U = keyword.U
between_word between_op.TheVariants.R = keyword.R
between_word between_op.TheVariants.S = keyword.S

-- the tokens of an interval after its operator
abbrev pub interval_marks : Interval → List Mark
interval_marks window =
    token (what.Sign sign.LeftSquare) ∷ token (what.Number (pos window.lo)) ∷ token (what.Sign sign.Comma)
    ∷ token (what.Number (pos window.hi)) ∷ token (what.Sign sign.RightSquare) ∷ []

-- the tokens of an operator between two references
abbrev pub spaced_marks : Reference → List Mark → Reference → List Mark
spaced_marks x operator y = token (reference_token x) ∷ space ∷ operator ++ space ∷ token (reference_token y) ∷ []

-- the tokens of a form
abbrev pub form_marks : Form → List Mark
form_marks (minus x) = token (what.Sign sign.Minus) ∷ token (reference_token x) ∷ []
form_marks (arith op x y) = spaced_marks x (token (what.Sign (arith_sign op)) ∷ []) y
form_marks (compare op x y) = spaced_marks x (token (what.Sign (compare_sign op)) ∷ []) y
form_marks (negation x) = token (what.Sign sign.Bang) ∷ token (reference_token x) ∷ []
form_marks (logic op x y) = spaced_marks x (token (what.Sign (logic_sign op)) ∷ []) y
form_marks (between op window x y) = spaced_marks x (token (what.Reserved (between_word op)) ∷ interval_marks window) y

-- the word of a signal's kind
abbrev pub kind_word : Bool → Keyword
kind_word true = keyword.Bool
kind_word false = keyword.Int

-- the word of a section
abbrev pub section_word : Line → Keyword
section_word (input x truth) = keyword.Input
section_word (define x form) = keyword.Define
section_word (formula Ft label x) = keyword.FtSpec
section_word (formula Pt label x) = keyword.PtSpec
section_word (contract Ft label x y) = keyword.FtSpec
section_word (contract Pt label x y) = keyword.PtSpec

-- the tokens of a label and its colon, or nothing
abbrev pub label_marks : Option (List ℕ) → List Mark
label_marks None = []
label_marks (Some x) = token (what.Word x) ∷ token (what.Sign sign.Colon) ∷ space ∷ []

-- the tokens between the section's word and the `;`
abbrev pub body_marks : Line → List Mark
body_marks (input x truth) =
    token (what.Word x) ∷ token (what.Sign sign.Colon) ∷ space ∷ token (what.Reserved (kind_word truth)) ∷ []
body_marks (define x form) = token (what.Word x) ∷ space ∷ token (what.Sign sign.Becomes) ∷ space ∷ form_marks form
body_marks (formula engine label x) = label_marks label ++ token (reference_token x) ∷ []
body_marks (contract engine label x y) =
    label_marks label ++ token (reference_token x) ∷ space ∷ token (what.Sign sign.Promises) ∷ space
    ∷ token (reference_token y) ∷ []

-- the tokens of a line
abbrev pub line_marks : Line → List Mark
line_marks line =
    token (what.Reserved (section_word line)) ∷ space ∷ body_marks line ++ token (what.Sign sign.Semicolon) ∷ newline
    ∷ []

-- the tokens of lines, one after another
abbrev pub lines_marks : List Line → List Mark
lines_marks lines = flat_map line_marks lines

-- the reference can be written: a name is a name of the language, and a number isn't negative
abbrev pub HasToken : Reference → Type 0
HasToken x = IsToken (reference_token x)

-- the references and bounds of the form can be written
abbrev pub HasTokens : Form → Type 0
HasTokens (minus x) = HasToken x
HasTokens (arith op x y) = HasToken x × HasToken y
HasTokens (compare op x y) = HasToken x × HasToken y
HasTokens (negation x) = HasToken x
HasTokens (logic op x y) = HasToken x × HasToken y
HasTokens (between op window x y) = IsNumeral (pos window.lo) × IsNumeral (pos window.hi) × HasToken x × HasToken y

-- the label, if there is one, is a name of the language
abbrev pub HasName : Option (List ℕ) → Type 0
HasName None = ⊤
HasName (Some x) = IsName x

-- the names, references and bounds of the line can be written
abbrev pub HasWords : Line → Type 0
HasWords (input x truth) = IsName x
HasWords (define x form) = IsName x × HasTokens form
HasWords (formula engine label x) = HasName label × HasToken x
HasWords (contract engine label x y) = HasName label × HasToken x × HasToken y

-- each line can be written
abbrev pub HaveWords : List Line → Type 0
HaveWords [] = ⊤
HaveWords (line ∷ lines) = HasWords line × HaveWords lines

-- the tree of a reference on a line of the text
abbrev pub reference_shape : ℕ → Reference → Shape
reference_shape line always = tree.truth line true
reference_shape line (named x) = tree.named line x
reference_shape line (number n) = tree.number line n

-- the tree of a form
abbrev pub form_shape : ℕ → Form → Shape
form_shape line (minus x) = tree.minus line (reference_shape line x)
form_shape line (arith op x y) = tree.arith line op (reference_shape line x) (reference_shape line y)
form_shape line (compare op x y) = tree.compare line op (reference_shape line x) (reference_shape line y)
form_shape line (negation x) = tree.negation line (reference_shape line x)
form_shape line (logic op x y) = tree.logic line op (reference_shape line x) (reference_shape line y)
form_shape line (between op window x y) =
    tree.between line op window.lo window.hi (reference_shape line x) (reference_shape line y)

-- the word of a kind
abbrev pub kind_name : Bool → List ℕ
kind_name true = codes "bool"
kind_name false = codes "int"

-- the body of the item that a line says
abbrev pub line_body : ℕ → Line → BodyShape
line_body n (input x truth) = item.input (x ∷ []) (type_named (kind_name truth))
line_body n (define x form) = item.define x (form_shape n form)
line_body n (formula engine label x) = item.formula engine label (reference_shape n x)
line_body n (contract engine label x y) = item.contract engine label (reference_shape n x) (reference_shape n y)

-- the item that a line says
abbrev pub line_item : ℕ → Line → ItemShape
line_item n line = record { line = n; body = line_body n line }

-- the items that lines say, from a line of the text on
unfoldable pub line_items : ℕ → List Line → List ItemShape
line_items n [] = []
line_items n (line ∷ lines) = line_item n line ∷ line_items (n + 1) lines
