-- The distinct subformulas and expressions of the outputs of a specification, in order of first completion, and the
-- instructions that represent them. Contracts use this file.

use Rattle.std.specs.Prelude.{◌≡◌, ℕ, suc, ◌==◌, Bool, true, false, ◌&&◌, ◌||◌, if◌then◌else◌, List, [], ◌∷◌, ◌++◌, map}
use Rattle.std.specs.Prelude.{flat_map, fold, All}
use Rattle.std.specs.Ordering.{int_eq}
use Rattle.mltl_base.specs.declared.interval.Interval.{Interval}
use Rattle.mltl_base.specs.declared.interval.Engine.{Engine}
use Rattle.mltl_base.specs.declared.interval.Engine.TheVariants.{Ft, Pt}
use Rattle.mltl_base.specs.declared.operators.BzOp as bz
use Rattle.mltl_base.specs.declared.operators.FtOp as ft
use Rattle.mltl_base.specs.declared.operators.PtOp as pt
use Rattle.mltl_base.specs.declared.program.Out as out
use Rattle.mltl_base.specs.declared.program.Graph.{Graph}
use Rattle.mltl_base.specs.declared.program.Program.{Program}
use Rattle.mltl_base.specs.Atoms.{Term, column, constant, negative, plus, minus, times, quotient, remainder, Atom}
use Rattle.mltl_base.specs.Atoms.{is_true, equal, less, at_most, different, greater, at_least}
use Rattle.mltl_base.specs.Formula.{Formula, Core, ctrue, catom, cnot, cand, cuntil, csince, plain, core}
use Rattle.mltl_base.specs.Settled.{IsFuture, IsPast}
use Rattle.mltl_base.specs.Reports.{Output, formula, contract}
use Rattle.mltl_base.specs.Programs.{Expression, whole, truth, output_of}

-- true if the two intervals are equal
abbrev pub same_interval : Interval → Interval → Bool
same_interval i j = i.lo == j.lo && i.hi == j.hi

-- true if the two whole-number expressions are equal
unfoldable pub same_term : Term → Term → Bool
same_term (column c) (column d) = c == d
same_term (constant n) (constant m) = int_eq n m
same_term (negative a) (negative b) = same_term a b
same_term (plus a b) (plus c d) = same_term a c && same_term b d
same_term (minus a b) (minus c d) = same_term a c && same_term b d
same_term (times a b) (times c d) = same_term a c && same_term b d
same_term (quotient a b) (quotient c d) = same_term a c && same_term b d
same_term (remainder a b) (remainder c d) = same_term a c && same_term b d
same_term _ _ = false

-- true if the two atoms are equal
unfoldable pub same_atom : Atom → Atom → Bool
same_atom (is_true c) (is_true d) = c == d
same_atom (equal a b) (equal c d) = same_term a c && same_term b d
same_atom (less a b) (less c d) = same_term a c && same_term b d
same_atom (at_most a b) (at_most c d) = same_term a c && same_term b d
same_atom (different a b) (different c d) = same_term a c && same_term b d
same_atom (greater a b) (greater c d) = same_term a c && same_term b d
same_atom (at_least a b) (at_least c d) = same_term a c && same_term b d
same_atom _ _ = false

-- true if the two expressions of the Booleanizer are equal
unfoldable pub same_expression : Expression → Expression → Bool
same_expression (whole a) (whole b) = same_term a b
same_expression (truth a) (truth b) = same_atom a b
same_expression _ _ = false

-- true if the two core formulas are equal
unfoldable pub same : Core → Core → Bool
same ctrue ctrue = true
same (catom a) (catom b) = same_atom a b
same (cnot p) (cnot q) = same p q
same (cand p q) (cand r s) = same p r && same q s
same (cuntil i p q) (cuntil j r s) = same_interval i j && (same p r && same q s)
same (csince i p q) (csince j r s) = same_interval i j && (same p r && same q s)
same _ _ = false

-- true if some member of the list is equal to x
unfoldable pub listed : {X : Type 0} → (X → X → Bool) → X → List X → Bool
listed alike x [] = false
listed alike x (y ∷ ys) = alike x y || listed alike x ys

-- the place of the first member that is equal to x; the length of the list if there is none
unfoldable pub place_of : {X : Type 0} → (X → X → Bool) → X → List X → ℕ
place_of alike x [] = 0
place_of alike x (y ∷ ys) = if alike x y then 0 else suc (place_of alike x ys)

-- the list with x at its end, unless it is listed
abbrev pub add_new : {X : Type 0} → (X → X → Bool) → X → List X → List X
add_new alike x ys = if listed alike x ys then ys else ys ++ x ∷ []

-- the list with the subformulas of a core formula that aren't listed: operands first, from left to right
unfoldable pub add_subformulas : Core → List Core → List Core
add_subformulas ctrue ps = add_new same ctrue ps
add_subformulas (catom a) ps = add_new same (catom a) ps
add_subformulas (cnot p) ps = add_new same (cnot p) (add_subformulas p ps)
add_subformulas (cand p q) ps = add_new same (cand p q) (add_subformulas q (add_subformulas p ps))
add_subformulas (cuntil i p q) ps = add_new same (cuntil i p q) (add_subformulas q (add_subformulas p ps))
add_subformulas (csince i p q) ps = add_new same (csince i p q) (add_subformulas q (add_subformulas p ps))

-- the list with the integer subexpressions of an expression that are not listed: operands first, from left to right
unfoldable pub add_terms : Term → List Expression → List Expression
add_terms (column c) es = add_new same_expression (whole (column c)) es
add_terms (constant n) es = add_new same_expression (whole (constant n)) es
add_terms (negative a) es = add_new same_expression (whole (negative a)) (add_terms a es)
add_terms (plus a b) es = add_new same_expression (whole (plus a b)) (add_terms b (add_terms a es))
add_terms (minus a b) es = add_new same_expression (whole (minus a b)) (add_terms b (add_terms a es))
add_terms (times a b) es = add_new same_expression (whole (times a b)) (add_terms b (add_terms a es))
add_terms (quotient a b) es = add_new same_expression (whole (quotient a b)) (add_terms b (add_terms a es))
add_terms (remainder a b) es = add_new same_expression (whole (remainder a b)) (add_terms b (add_terms a es))

-- the list with the integer expressions that an atom compares
abbrev pub add_operands : Atom → List Expression → List Expression
add_operands (is_true c) es = es
add_operands (equal a b) es = add_terms b (add_terms a es)
add_operands (less a b) es = add_terms b (add_terms a es)
add_operands (at_most a b) es = add_terms b (add_terms a es)
add_operands (different a b) es = add_terms b (add_terms a es)
add_operands (greater a b) es = add_terms b (add_terms a es)
add_operands (at_least a b) es = add_terms b (add_terms a es)

-- the list with the integer expressions of an atom, and then the atom
abbrev pub add_atom : Atom → List Expression → List Expression
add_atom a es = add_new same_expression (truth a) (add_operands a es)

-- the list with the expressions of the atoms of a core formula, from left to right
unfoldable pub add_expressions : Core → List Expression → List Expression
add_expressions ctrue es = es
add_expressions (catom a) es = add_atom a es
add_expressions (cnot p) es = add_expressions p es
add_expressions (cand p q) es = add_expressions q (add_expressions p es)
add_expressions (cuntil i p q) es = add_expressions q (add_expressions p es)
add_expressions (csince i p q) es = add_expressions q (add_expressions p es)

-- an output of a specification: its engine, its name, and its formula or its two formulas
pub record Asked : Type 0 where
  pub engine : Engine
  pub name : List ℕ
  pub output : Output

-- the core formulas of an output: in a contract the left one first
abbrev pub cores_of_output : Output → List Core
cores_of_output (formula p) = core p ∷ []
cores_of_output (contract p q) = core p ∷ core q ∷ []

-- the formulas of an output: in a contract the left one first
abbrev pub formulas_of : Output → List Formula
formulas_of (formula p) = p ∷ []
formulas_of (contract p q) = p ∷ q ∷ []

-- true if the two engines are equal
abbrev pub same_engine : Engine → Engine → Bool
same_engine Ft Ft = true
same_engine Pt Pt = true
same_engine Ft Pt = false
same_engine Pt Ft = false

-- the core formulas of all outputs, outputs in order
abbrev pub all_cores : List Asked → List Core
all_cores outs = flat_map (λ asked. cores_of_output asked.output) outs

-- the core formulas of the outputs that an engine evaluates, outputs in order
abbrev pub cores_for : Engine → List Asked → List Core
cores_for engine outs =
    flat_map (λ asked. if same_engine asked.engine engine then cores_of_output asked.output else []) outs

-- the distinct core subformulas of the outputs of an engine
abbrev pub subformulas : Engine → List Asked → List Core
subformulas engine outs = fold (λ ps p. add_subformulas p ps) [] (cores_for engine outs)

-- the distinct expressions of all outputs
abbrev pub bz_expressions : List Asked → List Expression
bz_expressions outs = fold (λ es p. add_expressions p es) [] (all_cores outs)

-- the number of the instruction that computes an integer expression: its index among the expressions
abbrev pub instruction_of : List Expression → Term → ℕ
instruction_of es a = place_of same_expression (whole a) es

-- the instruction of an expression, its operands by the numbers of their instructions. Core formulas have the first three
-- comparisons alone, so the last line never applies to them
abbrev pub bz_instruction : List Expression → Expression → bz.BzOp
bz_instruction es (whole (column c)) = bz.TheVariants.Column c
bz_instruction es (whole (constant n)) = bz.TheVariants.Const n
bz_instruction es (whole (negative a)) = bz.TheVariants.Neg (instruction_of es a)
bz_instruction es (whole (plus a b)) = bz.TheVariants.Add (instruction_of es a) (instruction_of es b)
bz_instruction es (whole (minus a b)) = bz.TheVariants.Sub (instruction_of es a) (instruction_of es b)
bz_instruction es (whole (times a b)) = bz.TheVariants.Mul (instruction_of es a) (instruction_of es b)
bz_instruction es (whole (quotient a b)) = bz.TheVariants.Div (instruction_of es a) (instruction_of es b)
bz_instruction es (whole (remainder a b)) = bz.TheVariants.Rem (instruction_of es a) (instruction_of es b)
bz_instruction es (truth (is_true c)) = bz.TheVariants.IsTrue c
bz_instruction es (truth (equal a b)) = bz.TheVariants.Eq (instruction_of es a) (instruction_of es b)
bz_instruction es (truth (less a b)) = bz.TheVariants.Lt (instruction_of es a) (instruction_of es b)
bz_instruction es (truth (at_most a b)) = bz.TheVariants.Le (instruction_of es a) (instruction_of es b)
bz_instruction es (truth a) = bz.TheVariants.IsTrue 0

-- the instruction of a core formula of the future, over the expressions and the listed formulas. The last line is for
-- formulas of the past, which the future-time engine never has
abbrev pub ft_instruction : List Expression → List Core → Core → ft.FtOp
ft_instruction es ps ctrue = ft.TheVariants.True
ft_instruction es ps (catom a) = ft.TheVariants.Load (place_of same_expression (truth a) es)
ft_instruction es ps (cnot p) = ft.TheVariants.Not (place_of same p ps)
ft_instruction es ps (cand p q) = ft.TheVariants.And (place_of same p ps) (place_of same q ps)
ft_instruction es ps (cuntil i p q) = ft.TheVariants.Until (place_of same p ps) (place_of same q ps) i
ft_instruction es ps (csince i p q) = ft.TheVariants.True

-- the instruction of a core formula of the past. The last line is for formulas of the future, which the past-time engine
-- never has
abbrev pub pt_instruction : List Expression → List Core → Core → pt.PtOp
pt_instruction es ps ctrue = pt.TheVariants.True
pt_instruction es ps (catom a) = pt.TheVariants.Load (place_of same_expression (truth a) es)
pt_instruction es ps (cnot p) = pt.TheVariants.Not (place_of same p ps)
pt_instruction es ps (cand p q) = pt.TheVariants.And (place_of same p ps) (place_of same q ps)
pt_instruction es ps (csince i p q) = pt.TheVariants.Since (place_of same p ps) (place_of same q ps) i
pt_instruction es ps (cuntil i p q) = pt.TheVariants.True

-- the instructions of the Booleanizer of a specification
abbrev pub bz_list : List Asked → List bz.BzOp
bz_list outs = map (bz_instruction (bz_expressions outs)) (bz_expressions outs)

-- the ft instructions of a specification
abbrev pub ft_list : List Asked → List ft.FtOp
ft_list outs = map (ft_instruction (bz_expressions outs) (subformulas Ft outs)) (subformulas Ft outs)

-- the pt instructions of a specification
abbrev pub pt_list : List Asked → List pt.PtOp
pt_list outs = map (pt_instruction (bz_expressions outs) (subformulas Pt outs)) (subformulas Pt outs)

-- an output of a program: its formulas by the numbers of their instructions
abbrev pub out_by : List Core → Engine → List ℕ → Output → out.Out
out_by ps engine name (formula p) = out.TheVariants.Formula engine (place_of same (core p) ps) name
out_by ps engine name (contract p q) =
    out.TheVariants.Contract engine (place_of same (core p) ps) (place_of same (core q) ps) name

-- the outputs of the program of a specification
abbrev pub out_list : List Asked → List out.Out
out_list outs = map (λ asked. out_by (subformulas asked.engine outs) asked.engine asked.name asked.output) outs

-- an output over the core forms of its formulas
abbrev pub core_output : Output → Output
core_output (formula p) = formula (plain (core p))
core_output (contract p q) = contract (plain (core p)) (plain (core q))

-- an output of a program as an output of a specification, by the formulas that its instructions unfold to
abbrev pub asked_of_program : Program → out.Out → Asked
asked_of_program program (out.TheVariants.Formula engine i name) =
    record { engine = engine; name = name; output = output_of program (out.TheVariants.Formula engine i name) }
asked_of_program program (out.TheVariants.Contract engine i j name) =
    record { engine = engine; name = name; output = output_of program (out.TheVariants.Contract engine i j name) }

-- the outputs of a program as outputs of a specification
abbrev pub unfolded_outputs : Program → List Asked
unfolded_outputs program = map (asked_of_program program) program.outs

-- the formula has the engine's tense alone: no operator of the past for the future engine, and the reverse
abbrev pub IsOfTense : Engine → Formula → Type 0
IsOfTense Ft p = IsFuture p
IsOfTense Pt p = IsPast p

-- the formulas of an output have the tense of its engine
abbrev pub IsTensed : Asked → Type 0
IsTensed asked = All (IsOfTense asked.engine) (formulas_of asked.output)

-- a graph has the lists of a specification
pub record IsGraphOf (outs : List Asked) (graph : Graph) : Type 0 where
  pub bz : graph.bz ≡ bz_list outs
  pub ft : graph.ft ≡ ft_list outs
  pub pt : graph.pt ≡ pt_list outs
  pub reports : graph.outs ≡ out_list outs

-- a program has the lists of a specification
pub record HasListsOf (outs : List Asked) (program : Program) : Type 0 where
  pub bz : program.bz ≡ bz_list outs
  pub ft : program.ft ≡ ft_list outs
  pub pt : program.pt ≡ pt_list outs
  pub reports : program.outs ≡ out_list outs
