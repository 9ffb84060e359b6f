-- A program as the text of a specification: its lines, and the text of each.

use Rattle.std.specs.Prelude.{ℕ, Bool, true, false, if◌then◌else◌, Option, Some, None, List, [], ◌++◌, map, option_map}
use Rattle.std.specs.Prelude.{codes, decimal}
use Rattle.std.specs.Fmt.{signed_decimal}
use Rattle.std.specs.List.{enumerate_from, filter_map, flat_map}
use Rattle.std.specs.Str.{bytes_eq}
use Rattle.mltl_base.specs.declared.interval.Engine.{Engine}
use Rattle.mltl_base.specs.declared.interval.Engine.TheVariants.{Ft, Pt}
use Rattle.mltl_base.specs.declared.interval.Interval.{Interval}
use Rattle.mltl_base.specs.declared.operators.ArithOp as arith_op
use Rattle.mltl_base.specs.declared.operators.BetweenOp as between_op
use Rattle.mltl_base.specs.declared.operators.BzOp as bz
use Rattle.mltl_base.specs.declared.operators.CompareOp as compare_op
use Rattle.mltl_base.specs.declared.operators.FtOp as ft
use Rattle.mltl_base.specs.declared.operators.LogicOp as logic_op
use Rattle.mltl_base.specs.declared.operators.PtOp as pt
use Rattle.mltl_base.specs.declared.program.Out as out
use Rattle.mltl_base.specs.declared.program.Program.{Program}
use Rattle.mltl_base.specs.declared.program.StoredSignal.{StoredSignal}
use Rattle.obs_show.specs.Lines.{Reference, always, named, number, Form, minus, arith, compare, negation, logic}
use Rattle.obs_show.specs.Lines.{between, Line, input, define, formula, contract}
use Rattle.obs_show.specs.Naming.{bz_name, bz_reference, ft_name, ft_reference, pt_name, pt_reference}

-- the form of an operation of the Booleanizer
abbrev pub bz_form : Program → bz.BzOp → Option Form
bz_form program (bz.TheVariants.Neg a) = Some (minus (bz_reference program a))
bz_form program (bz.TheVariants.Add a b) =
    Some (arith arith_op.TheVariants.Add (bz_reference program a) (bz_reference program b))
bz_form program (bz.TheVariants.Sub a b) =
    Some (arith arith_op.TheVariants.Sub (bz_reference program a) (bz_reference program b))
bz_form program (bz.TheVariants.Mul a b) =
    Some (arith arith_op.TheVariants.Mul (bz_reference program a) (bz_reference program b))
bz_form program (bz.TheVariants.Div a b) =
    Some (arith arith_op.TheVariants.Div (bz_reference program a) (bz_reference program b))
bz_form program (bz.TheVariants.Rem a b) =
    Some (arith arith_op.TheVariants.Rem (bz_reference program a) (bz_reference program b))
bz_form program (bz.TheVariants.Eq a b) =
    Some (compare compare_op.TheVariants.Eq (bz_reference program a) (bz_reference program b))
bz_form program (bz.TheVariants.Lt a b) =
    Some (compare compare_op.TheVariants.Lt (bz_reference program a) (bz_reference program b))
bz_form program (bz.TheVariants.Le a b) =
    Some (compare compare_op.TheVariants.Le (bz_reference program a) (bz_reference program b))
bz_form program op = None

-- the form of an operation of future time
abbrev pub ft_form : Program → ft.FtOp → Option Form
ft_form program (ft.TheVariants.Not g) = Some (negation (ft_reference program g))
ft_form program (ft.TheVariants.And l r) =
    Some (logic logic_op.TheVariants.And (ft_reference program l) (ft_reference program r))
ft_form program (ft.TheVariants.Until l r window) =
    Some (between between_op.TheVariants.U window (ft_reference program l) (ft_reference program r))
ft_form program op = None

-- the form of an operation of past time
abbrev pub pt_form : Program → pt.PtOp → Option Form
pt_form program (pt.TheVariants.Not g) = Some (negation (pt_reference program g))
pt_form program (pt.TheVariants.And l r) =
    Some (logic logic_op.TheVariants.And (pt_reference program l) (pt_reference program r))
pt_form program (pt.TheVariants.Since l r window) =
    Some (between between_op.TheVariants.S window (pt_reference program l) (pt_reference program r))
pt_form program op = None

-- the line of a signal
abbrev pub signal_line : StoredSignal → Line
signal_line signal = input signal.name signal.truth

-- the line of instruction i of the Booleanizer, if it is an operation
abbrev pub bz_line : Program → ℕ → bz.BzOp → Option Line
bz_line program i op = option_map (define (bz_name program i)) (bz_form program op)

-- the line of instruction i of future time, if it is an operation
abbrev pub ft_line : Program → ℕ → ft.FtOp → Option Line
ft_line program i op = option_map (define (ft_name program i)) (ft_form program op)

-- the line of instruction i of past time, if it is an operation
abbrev pub pt_line : Program → ℕ → pt.PtOp → Option Line
pt_line program i op = option_map (define (pt_name program i)) (pt_form program op)

-- the label of output k: its name, if that isn't the output's number
abbrev pub shown_label : ℕ → List ℕ → Option (List ℕ)
shown_label k name = if bytes_eq name (decimal k) then None else Some name

-- the reference to instruction i of an engine
abbrev pub reference_in : Program → Engine → ℕ → Reference
reference_in program Ft i = ft_reference program i
reference_in program Pt i = pt_reference program i

-- the line of output k
abbrev pub output_line : Program → ℕ → out.Out → Line
output_line program k (out.TheVariants.Formula engine i name) =
    formula engine (shown_label k name) (reference_in program engine i)
output_line program k (out.TheVariants.Contract engine i j name) =
    contract engine (shown_label k name) (reference_in program engine i) (reference_in program engine j)

-- the lines that a rule gives to members, numbered from 0
abbrev pub numbered_lines : {X : Type 0} → (ℕ → X → Option Line) → List X → List Line
numbered_lines rule xs = filter_map (λ p. rule p.0 p.1) (enumerate_from 0 xs)

-- the lines of outputs
abbrev pub output_lines : Program → List out.Out → List Line
output_lines program outs = map (λ p. output_line program p.0 p.1) (enumerate_from 0 outs)

-- the lines of a program: signals, operations of the Booleanizer, of future time and of past time, outputs
abbrev pub shown_lines : Program → List Line
shown_lines program =
    map signal_line program.signals
    ++ (numbered_lines (bz_line program) program.bz
    ++ (numbered_lines (ft_line program) program.ft
    ++ (numbered_lines (pt_line program) program.pt
    ++ output_lines program program.outs)))

-- the text of a reference
abbrev pub reference_text : Reference → List ℕ
reference_text always = codes "true"
reference_text (named name) = name
reference_text (number n) = signed_decimal n

-- the text of an operator between integers
abbrev pub arith_text : arith_op.ArithOp → List ℕ
arith_text arith_op.TheVariants.Add = codes "+"
arith_text arith_op.TheVariants.Sub = codes "-"
arith_text arith_op.TheVariants.Mul = codes "*"
arith_text arith_op.TheVariants.Div = codes "/"
arith_text arith_op.TheVariants.Rem = codes "%"

-- the text of a comparison
abbrev pub compare_text : compare_op.CompareOp → List ℕ
compare_text compare_op.TheVariants.Eq = codes "=="
compare_text compare_op.TheVariants.Ne = codes "!="
compare_text compare_op.TheVariants.Lt = codes "<"
compare_text compare_op.TheVariants.Le = codes "<="
compare_text compare_op.TheVariants.Gt = codes ">"
compare_text compare_op.TheVariants.Ge = codes ">="

-- the text of an operator between formulas
abbrev pub logic_text : logic_op.LogicOp → List ℕ
logic_text logic_op.TheVariants.And = codes "&&"
logic_text logic_op.TheVariants.Or = codes "||"
logic_text logic_op.TheVariants.Implies = codes "->"
logic_text logic_op.TheVariants.Iff = codes "<->"

-- the letter of until, release and since
abbrev pub between_text : between_op.BetweenOp → List ℕ
between_text between_op.TheVariants.U = codes "U"
between_text between_op.TheVariants.R = codes "R"
between_text between_op.TheVariants.S = codes "S"

-- the text of an interval
abbrev pub interval_text : Interval → List ℕ
interval_text window = codes "[" ++ decimal window.lo ++ codes "," ++ decimal window.hi ++ codes "]"

-- an operator between two references, with one space at each side
abbrev pub spaced : Reference → List ℕ → Reference → List ℕ
spaced x operator y = reference_text x ++ codes " " ++ operator ++ codes " " ++ reference_text y

-- the text of a form
abbrev pub form_text : Form → List ℕ
form_text (minus x) = codes "-" ++ reference_text x
form_text (arith op x y) = spaced x (arith_text op) y
form_text (compare op x y) = spaced x (compare_text op) y
form_text (negation x) = codes "!" ++ reference_text x
form_text (logic op x y) = spaced x (logic_text op) y
form_text (between op window x y) = spaced x (between_text op ++ interval_text window) y

-- the text of a signal's kind
abbrev pub kind_text : Bool → List ℕ
kind_text true = codes "bool"
kind_text false = codes "int"

-- the section of an engine's outputs
abbrev pub section_text : Engine → List ℕ
section_text Ft = codes "FTSPEC"
section_text Pt = codes "PTSPEC"

-- the label and its separator from the formula, or nothing
abbrev pub label_text : Option (List ℕ) → List ℕ
label_text None = []
label_text (Some name) = name ++ codes ": "

-- the text of a line, with its newline
abbrev pub shown_line : Line → List ℕ
shown_line (input name truth) = codes "INPUT " ++ name ++ codes ": " ++ kind_text truth ++ codes ";\n"
shown_line (define name form) = codes "DEFINE " ++ name ++ codes " := " ++ form_text form ++ codes ";\n"
shown_line (formula engine label x) =
    section_text engine ++ codes " " ++ label_text label ++ reference_text x ++ codes ";\n"
shown_line (contract engine label x y) =
    section_text engine ++ codes " " ++ label_text label ++ reference_text x ++ codes " => " ++ reference_text y
    ++ codes ";\n"

-- the text of lines, joined
abbrev pub lines_text : List Line → List ℕ
lines_text ls = flat_map shown_line ls

-- a program as text
abbrev pub text : Program → List ℕ
text program = lines_text (shown_lines program)
