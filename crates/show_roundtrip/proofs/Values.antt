-- What references and forms stand for: values that say the expressions and formulas of a program's instructions.

use Rattle.std.proofs.Common.{◌≡◌, ◌∙◌, ℕ, ◌+◌, ◌≤◌, true, Some, List, refl, ap, ap₂, sym, arith}
use Rattle.std.specs.Prelude.{if◌then◌else◌, min}
use Rattle.std.specs.Str.{bytes_eq}
use Rattle.std.proofs.lemmas.Option.{same_Some}
use Rattle.mltl_base.specs.declared.limits.TheConstants.{MAX_BOUND}
use Rattle.mltl_base.specs.declared.interval.Interval.{Interval}
use Rattle.mltl_base.specs.declared.operators.ArithOp as arith_op
use Rattle.mltl_base.specs.declared.operators.BetweenOp as between_op
use Rattle.mltl_base.specs.declared.operators.CompareOp as compare_op
use Rattle.mltl_base.specs.declared.operators.LogicOp as logic_op
use Rattle.mltl_base.specs.Atoms as atoms
use Rattle.mltl_base.specs.Atoms.{Term, constant, Atom, term_over, atom_over}
use Rattle.mltl_base.specs.Formula as full
use Rattle.mltl_base.specs.Formula.{Formula, Core, plain, formula_over}
use Rattle.mltl_base.specs.Programs.{Expression, whole, truth}
use Rattle.c2po_ast.specs.Nodes as nodes
use Rattle.c2po_ast.specs.Nodes.{arithmetic, comparison, connected, ranged}
use Rattle.c2po_ast.specs.Faults.{tree_fault}
use Rattle.c2po_types.specs.Faults.{value_fault}
use Rattle.c2po_types.specs.Values as values
use Rattle.c2po_types.specs.Values.{Value, leaf, structure, set, leaf_tree, number_value, truth_value, tree_in, interval}
use Rattle.c2po_types.specs.Weights.{weight}
use Rattle.c2po_types.specs.Environment.{Env, Known, nothing, value, declare, or_else, value_in, value_of}
use Rattle.obs_show.specs.Lines.{Reference, always, named, number, Form, minus, arith as computes, compare, negation, logic, between}
use Rattle.obs_show.specs.Weight.{term_weight, atom_weight, formula_weight}
use Rattle.std.proofs.lemmas.Slice.Eq.{bytes_eq-Decides}
use Rattle.show_roundtrip.specs.Said.{reference_shape, form_shape}

-- a reference stands for a value where names have their meanings
abbrev pub Finds : Env → Reference → Value → Type 0
Finds env always v = v ≡ truth_value true
Finds env (named x) v = env x ≡ value v
Finds env (number n) v = v ≡ number_value n

found : (env : Env) (n : ℕ) (x : Reference) (v : Value) → Finds env x v → value_of (reference_shape n x) env ≡ v
found env n (named x) v h = ap value_in h
found env n _ v h = sym h

-- a later environment, in which names keep their meanings
abbrev pub IsLater : Env → Env → Type 0
IsLater env later = (x : List ℕ) (v : Value) → env x ≡ value v → later x ≡ value v

pub declare_later : (x : List ℕ) (k : Known) (env : Env) → IsLater env (declare x k env)
declare_later x k env y v e = ap (λ m. or_else m (if bytes_eq y x then k else nothing)) e

pub declared_here : (x : List ℕ) (v : Value) (env : Env) → env x ≡ nothing → declare x (value v) env x ≡ value v
declared_here x v env e = ap (λ m. or_else m (if bytes_eq x x then value v else nothing)) e ∙ ap (λ b. if b then value v else nothing) ((bytes_eq-Decides x x).1 refl)

pub finds_later : (env later : Env) (x : Reference) (v : Value) → IsLater env later → Finds env x v → Finds later x v
finds_later env later (named x) v g h = g x v h
finds_later env later _ v g h = h

-- a value says an expression over columns, or a core formula, and weighs as much
pub record SaysWhole (columns : List ℕ) (v : Value) (t : Term) : Type 0 where
  pub tree : Term
  pub is : tree_in v ≡ Some (nodes.number tree)
  pub over : term_over columns tree ≡ t
  pub weighs : weight v ≡ term_weight t

pub record SaysFormula (columns : List ℕ) (v : Value) (p : Formula) : Type 0 where
  pub tree : Formula
  pub is : tree_in v ≡ Some (nodes.formula tree)
  pub over : formula_over columns tree ≡ p
  pub weighs : weight v ≡ formula_weight p

abbrev pub Says : List ℕ → Value → Expression → Type 0
Says columns v (whole t) = SaysWhole columns v t
Says columns v (truth a) = SaysFormula columns v (full.atom a)

-- the faults of a value are those of its tree
pub tree_faults : (v : Value) (t : nodes.Tree) → tree_in v ≡ Some t → value_fault v ≡ tree_fault t
tree_faults (leaf l) t h = ap tree_fault (same_Some (leaf_tree l) t h)
tree_faults _ t h = absurd (cc)

-- the whole number, and the formula, of what is said
says_term : (columns : List ℕ) (v : Value) (t : Term) → SaysWhole columns v t → term_over columns (values.term_of v) ≡ t
says_term columns v t h = ap (λ o. term_over columns (nodes.term_in o)) h.is ∙ h.over

pub says_formula : (columns : List ℕ) (v : Value) (p : Formula) → SaysFormula columns v p → formula_over columns (values.formula_of v) ≡ p
says_formula columns v p h = ap (λ o. formula_over columns (nodes.formula_in o)) h.is ∙ h.over

-- what a reference stands for says an expression, and a formula
pub record Means (columns : List ℕ) (env : Env) (x : Reference) (e : Expression) : Type 0 where
  pub of : Value
  pub finds : Finds env x of
  pub says : Says columns of e

pub record MeansFormula (columns : List ℕ) (env : Env) (x : Reference) (p : Formula) : Type 0 where
  pub of : Value
  pub finds : Finds env x of
  pub says : SaysFormula columns of p

pub means_later : (columns : List ℕ) (env later : Env) (x : Reference) (e : Expression) → IsLater env later → Means columns env x e → Means columns later x e
means_later columns env later x e g h = record { of = h.of; finds = finds_later env later x h.of g h.finds; says = h.says }

pub formula_later : (columns : List ℕ) (env later : Env) (x : Reference) (p : Formula) → IsLater env later → MeansFormula columns env x p → MeansFormula columns later x p
formula_later columns env later x p g h = record { of = h.of; finds = finds_later env later x h.of g h.finds; says = h.says }

-- a whole number and a formula by reference, and their weights
term_by : (columns : List ℕ) (env : Env) (n : ℕ) (x : Reference) (t : Term) → Means columns env x (whole t) → term_over columns (values.term_of (value_of (reference_shape n x) env)) ≡ t
term_by columns env n x t h = ap (λ v. term_over columns (values.term_of v)) (found env n x h.of h.finds) ∙ says_term columns h.of t h.says

pub formula_by : (columns : List ℕ) (env : Env) (n : ℕ) (x : Reference) (p : Formula) → MeansFormula columns env x p → formula_over columns (values.formula_of (value_of (reference_shape n x) env)) ≡ p
formula_by columns env n x p h = ap (λ v. formula_over columns (values.formula_of v)) (found env n x h.of h.finds) ∙ says_formula columns h.of p h.says

term_weighs : (columns : List ℕ) (env : Env) (n : ℕ) (x : Reference) (t : Term) → Means columns env x (whole t) → weight (value_of (reference_shape n x) env) ≡ term_weight t
term_weighs columns env n x t h = ap weight (found env n x h.of h.finds) ∙ h.says.weighs

pub formula_weighs : (columns : List ℕ) (env : Env) (n : ℕ) (x : Reference) (p : Formula) → MeansFormula columns env x p → weight (value_of (reference_shape n x) env) ≡ formula_weight p
formula_weighs columns env n x p h = ap weight (found env n x h.of h.finds) ∙ h.says.weighs

-- the weight of an operator over two operands
over_two : (a b m n : ℕ) → a ≡ m → b ≡ n → 1 + a + b ≡ 1 + m + n
over_two a b m n e f = omega arith

-- a form says an expression, on whatever line it stands
abbrev pub FormSays : List ℕ → Env → Form → Expression → Type 0
FormSays columns env f e = (n : ℕ) → Says columns (value_of (form_shape n f) env) e

abbrev pub FormSaysFormula : List ℕ → Env → Form → Formula → Type 0
FormSaysFormula columns env f p = (n : ℕ) → SaysFormula columns (value_of (form_shape n f) env) p

pub minus_says : (columns : List ℕ) (env : Env) (x : Reference) (t : Term) → Means columns env x (whole t) → FormSays columns env (minus x) (whole (atoms.negative t))
unfolding term_over term_weight
minus_says columns env x t h n =
    record { tree = _; is = refl; over = ap atoms.negative (term_by columns env n x t h); weighs = ap (λ w. 1 + w) (term_weighs columns env n x t h) }

-- the term of an operation, and the atom of a comparison, with their weights
arith_over : (columns : List ℕ) (op : arith_op.ArithOp) (a b : Term) → term_over columns (arithmetic op a b) ≡ arithmetic op (term_over columns a) (term_over columns b)
unfolding term_over
arith_over columns arith_op.TheVariants.Add a b = refl
arith_over columns _ a b = refl

compare_over : (columns : List ℕ) (op : compare_op.CompareOp) (a b : Term) → atom_over columns (comparison op a b) ≡ comparison op (term_over columns a) (term_over columns b)
unfolding atom_over
compare_over columns compare_op.TheVariants.Eq a b = refl
compare_over columns _ a b = refl

arith_weight : (op : arith_op.ArithOp) (a b : Term) → 1 + term_weight a + term_weight b ≡ term_weight (arithmetic op a b)
unfolding term_weight
arith_weight arith_op.TheVariants.Add a b = refl
arith_weight _ a b = refl

compare_weight : (op : compare_op.CompareOp) (a b : Term) → 1 + term_weight a + term_weight b ≡ atom_weight (comparison op a b)
compare_weight compare_op.TheVariants.Eq a b = refl
compare_weight _ a b = refl

pub arith_says : (columns : List ℕ) (env : Env) (op : arith_op.ArithOp) (x y : Reference) (s t : Term) → Means columns env x (whole s) → Means columns env y (whole t)
    → FormSays columns env (computes op x y) (whole (arithmetic op s t))
arith_says columns env op x y s t h g n = record {
  tree = _;
  is = refl;
  over = arith_over columns op _ _ ∙ ap₂ (arithmetic op) (term_by columns env n x s h) (term_by columns env n y t g);
  weighs = over_two _ _ _ _ (term_weighs columns env n x s h) (term_weighs columns env n y t g) ∙ arith_weight op s t;
}

pub compare_says : (columns : List ℕ) (env : Env) (op : compare_op.CompareOp) (x y : Reference) (s t : Term) → Means columns env x (whole s) → Means columns env y (whole t)
    → FormSays columns env (compare op x y) (truth (comparison op s t))
unfolding formula_over formula_weight
compare_says columns env op x y s t h g n = record {
  tree = _;
  is = refl;
  over = ap full.atom (compare_over columns op _ _ ∙ ap₂ (comparison op) (term_by columns env n x s h) (term_by columns env n y t g));
  weighs = over_two _ _ _ _ (term_weighs columns env n x s h) (term_weighs columns env n y t g) ∙ compare_weight op s t;
}

pub negation_says : (columns : List ℕ) (env : Env) (x : Reference) (p : Formula) → MeansFormula columns env x p → FormSaysFormula columns env (negation x) (full.negation p)
unfolding formula_over formula_weight
negation_says columns env x p h n =
    record { tree = _; is = refl; over = ap full.negation (formula_by columns env n x p h); weighs = ap (λ w. 1 + w) (formula_weighs columns env n x p h) }

pub and_says : (columns : List ℕ) (env : Env) (x y : Reference) (p q : Formula) → MeansFormula columns env x p → MeansFormula columns env y q
    → FormSaysFormula columns env (logic logic_op.TheVariants.And x y) (full.conjunction p q)
unfolding formula_over formula_weight
and_says columns env x y p q h g n = record {
  tree = _;
  is = refl;
  over = ap₂ full.conjunction (formula_by columns env n x p h) (formula_by columns env n y q g);
  weighs = over_two _ _ _ _ (formula_weighs columns env n x p h) (formula_weighs columns env n y q g);
}

-- an interval within the limit is itself
pub window_kept : (i : Interval) → i.lo ≤ i.hi → i.hi ≤ MAX_BOUND → interval i.lo i.hi ≡ i
window_kept i h g =
    let top : min i.hi MAX_BOUND ≡ i.hi = omega arith in
    let low : min i.lo (min i.hi MAX_BOUND) ≡ i.lo = omega arith in
    ap₂ (λ (a b : ℕ). let w : Interval = record { lo = a; hi = b } in w) low top

-- the formula by reference, over columns
abbrev formula_at : List ℕ → Env → ℕ → Reference → Formula
formula_at columns env n x = formula_over columns (values.formula_of (value_of (reference_shape n x) env))

pub until_says : (columns : List ℕ) (env : Env) (i : Interval) (x y : Reference) (p q : Formula) → interval i.lo i.hi ≡ i → MeansFormula columns env x p → MeansFormula columns env y q
    → FormSaysFormula columns env (between between_op.TheVariants.U i x y) (full.until i p q)
unfolding formula_over formula_weight
until_says columns env i x y p q w h g n = record {
  tree = _;
  is = refl;
  over = ap (λ j. full.until j (formula_at columns env n x) (formula_at columns env n y)) w ∙ ap₂ (full.until i) (formula_by columns env n x p h) (formula_by columns env n y q g);
  weighs = over_two _ _ _ _ (formula_weighs columns env n x p h) (formula_weighs columns env n y q g);
}

pub since_says : (columns : List ℕ) (env : Env) (i : Interval) (x y : Reference) (p q : Formula) → interval i.lo i.hi ≡ i → MeansFormula columns env x p → MeansFormula columns env y q
    → FormSaysFormula columns env (between between_op.TheVariants.S i x y) (full.since i p q)
unfolding formula_over formula_weight
since_says columns env i x y p q w h g n = record {
  tree = _;
  is = refl;
  over = ap (λ j. full.since j (formula_at columns env n x) (formula_at columns env n y)) w ∙ ap₂ (full.since i) (formula_by columns env n x p h) (formula_by columns env n y q g);
  weighs = over_two _ _ _ _ (formula_weighs columns env n x p h) (formula_weighs columns env n y q g);
}
