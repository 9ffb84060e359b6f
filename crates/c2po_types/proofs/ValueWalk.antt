-- What holds of the constants of an expression and of what names stand for, and is kept by operators, holds of its value.

use Rattle.std.proofs.Common.{ℕ, zero, suc, ℤ, pos, Bool, true, false, Option, Some, None, List, [], ◌∷◌, map, fold, if◌then◌else◌}
use Rattle.std.specs.Prelude.{slice_index_or, position, length, ⊤}
use Rattle.std.specs.Str.{bytes_eq}
use Rattle.mltl_base.specs.declared.operators.ArithOp.{ArithOp}
use Rattle.mltl_base.specs.declared.operators.CompareOp.{CompareOp}
use Rattle.mltl_base.specs.declared.operators.LogicOp.{LogicOp}
use Rattle.mltl_base.specs.declared.operators.LogicOp.TheVariants.{And, Or}
use Rattle.mltl_base.specs.declared.operators.WindowOp.{WindowOp}
use Rattle.mltl_base.specs.declared.operators.BetweenOp.{BetweenOp}
use Rattle.mltl_base.specs.declared.operators.CountOp.{CountOp}
use Rattle.mltl_base.specs.Atoms.{Term, constant, negative}
use Rattle.mltl_base.specs.Formula.{Formula, atom, negation}
use Rattle.count_sets.specs.Counting as counting
use Rattle.c2po_ast.specs.Shape as tree
use Rattle.c2po_ast.specs.Shape.{Shape, Shapes}
use Rattle.c2po_ast.specs.Nodes.{Tree, number, formula, term_in, formula_in, constant_formula, arithmetic, comparison, connected, windowed, ranged}
use Rattle.c2po_types.specs.Values.{Value, Values, leaf, structure, set, none, more, list_of, values_from, leaf_tree, term_of, formula_of, formulas_in, members, part_or, picked, joined_formula, connected_all, body_at, counted_formula, counting_formula, counted, interval}
use Rattle.c2po_types.specs.Environment.{Env, Known, nothing, fields, value, bind, declare, or_else, fields_in, value_in, value_of, values_of}

-- what is said of each constant of an expression
abbrev mutual
  pub ConstantsHave : (ℤ → Type 0) → Shape → Type 0
  ConstantsHave Has (tree.number line n) = Has n
  ConstantsHave Has (tree.truth line b) = ⊤
  ConstantsHave Has (tree.named line x) = ⊤
  ConstantsHave Has (tree.build line x es) = AllConstantsHave Has es
  ConstantsHave Has (tree.group line es) = AllConstantsHave Has es
  ConstantsHave Has (tree.pick line e x) = ConstantsHave Has e
  ConstantsHave Has (tree.minus line e) = ConstantsHave Has e
  ConstantsHave Has (tree.negation line e) = ConstantsHave Has e
  ConstantsHave Has (tree.arith line op e f) = ConstantsHave Has e × ConstantsHave Has f
  ConstantsHave Has (tree.compare line op e f) = ConstantsHave Has e × ConstantsHave Has f
  ConstantsHave Has (tree.logic line op e f) = ConstantsHave Has e × ConstantsHave Has f
  ConstantsHave Has (tree.window line op a b e) = ConstantsHave Has e
  ConstantsHave Has (tree.between line op a b e f) = ConstantsHave Has e × ConstantsHave Has f
  ConstantsHave Has (tree.each line x s e) = ConstantsHave Has s × ConstantsHave Has e
  ConstantsHave Has (tree.exists line x s e) = ConstantsHave Has s × ConstantsHave Has e
  ConstantsHave Has (tree.count line op x s n e) = ConstantsHave Has s × ConstantsHave Has e

  pub AllConstantsHave : (ℤ → Type 0) → Shapes → Type 0
  AllConstantsHave Has tree.none = ⊤
  AllConstantsHave Has (tree.more e es) = ConstantsHave Has e × AllConstantsHave Has es

-- nothing is asked of them
abbrev pub Any : ℤ → Type 0
Any n = ⊤

mutual
  pub any_constants : (e : Shape) → ConstantsHave Any e
  any_constants (tree.number line n) = tt
  any_constants (tree.truth line b) = tt
  any_constants (tree.named line x) = tt
  any_constants (tree.build line x es) = all_constants es
  any_constants (tree.group line es) = all_constants es
  any_constants (tree.pick line e x) = any_constants e
  any_constants (tree.minus line e) = any_constants e
  any_constants (tree.negation line e) = any_constants e
  any_constants (tree.arith line op e f) = (any_constants e, any_constants f)
  any_constants (tree.compare line op e f) = (any_constants e, any_constants f)
  any_constants (tree.logic line op e f) = (any_constants e, any_constants f)
  any_constants (tree.window line op a b e) = any_constants e
  any_constants (tree.between line op a b e f) = (any_constants e, any_constants f)
  any_constants (tree.each line x s e) = (any_constants s, any_constants e)
  any_constants (tree.exists line x s e) = (any_constants s, any_constants e)
  any_constants (tree.count line op x s n e) = (any_constants s, any_constants e)

  all_constants : (es : Shapes) → AllConstantsHave Any es
  all_constants tree.none = tt
  all_constants (tree.more e es) = (any_constants e, all_constants es)

-- operators keep what terms and formulas have, and it holds of constants
pub record Keeps (IsConstant : ℤ → Type 0) (IsTerm : Term → Type 0) (IsFormula : Formula → Type 0) : Type 0 where
  pub constants : (n : ℤ) → IsConstant n → IsTerm (constant n)
  pub zero_has : IsTerm (constant (pos 0))
  pub negatives : (a : Term) → IsTerm a → IsTerm (negative a)
  pub arithmetics : (op : ArithOp) (a b : Term) → IsTerm a → IsTerm b → IsTerm (arithmetic op a b)
  pub comparisons : (op : CompareOp) (a b : Term) → IsTerm a → IsTerm b → IsFormula (atom (comparison op a b))
  pub truths : (b : Bool) → IsFormula (constant_formula b)
  pub negations : (p : Formula) → IsFormula p → IsFormula (negation p)
  pub connectives : (op : LogicOp) (p q : Formula) → IsFormula p → IsFormula q → IsFormula (connected op p q)
  pub windows : (op : WindowOp) (a b : ℕ) (p : Formula) → IsFormula p → IsFormula (windowed op (interval a b) p)
  pub ranges : (op : BetweenOp) (a b : ℕ) (p q : Formula) → IsFormula p → IsFormula q → IsFormula (ranged op (interval a b) p q)

module _ (IsTerm : Term → Type 0) (IsFormula : Formula → Type 0) where
  -- it holds of a tree, a value, its parts, and what a name stands for
  abbrev pub TreeHas : Tree → Type 0
  TreeHas (number a) = IsTerm a
  TreeHas (formula p) = IsFormula p

  abbrev mutual
    pub ValueHas : Value → Type 0
    ValueHas (leaf l) = TreeHas (leaf_tree l)
    ValueHas (structure x vs) = ValuesHave vs
    ValueHas (set vs) = ValuesHave vs

    pub ValuesHave : Values → Type 0
    ValuesHave none = ⊤
    ValuesHave (more v vs) = ValueHas v × ValuesHave vs

  abbrev AllHave : List Value → Type 0
  AllHave [] = ⊤
  AllHave (v ∷ vs) = ValueHas v × AllHave vs

  abbrev FormulasHave : List Formula → Type 0
  FormulasHave [] = ⊤
  FormulasHave (p ∷ ps) = IsFormula p × FormulasHave ps

  abbrev pub KnownHas : Known → Type 0
  KnownHas nothing = ⊤
  KnownHas (fields xs) = ⊤
  KnownHas (value v) = ValueHas v

  pub record EnvHas (env : Env) : Type 0 where
    pub each : (x : List ℕ) → KnownHas (env x)

  -- ---- names

  pub nothing_has : EnvHas (λ x. nothing)
  nothing_has = record { each = λ x. tt }

  chosen_has : (b : Bool) (j k : Known) → KnownHas j → KnownHas k → KnownHas (if b then j else k)
  chosen_has true j k g h = g
  chosen_has false j k g h = h

  first_has : (j k : Known) → KnownHas j → KnownHas k → KnownHas (or_else j k)
  first_has nothing k g h = h
  first_has (fields xs) k g h = tt
  first_has (value v) k g h = g

  bind_has : (x : List ℕ) (v : Value) (env : Env) → ValueHas v → EnvHas env → EnvHas (bind x v env)
  bind_has x v env g h = record { each = λ y. chosen_has (bytes_eq y x) (value v) (env y) g (h.each y) }

  pub declare_has : (x : List ℕ) (k : Known) (env : Env) → KnownHas k → EnvHas env → EnvHas (declare x k env)
  declare_has x k env g h = record {
    each = λ y. first_has (env y) (if bytes_eq y x then k else nothing) (h.each y) (chosen_has (bytes_eq y x) k nothing g tt);
  }

  -- ---- parts

  list_has : (vs : Values) → ValuesHave vs → AllHave (list_of vs)
  list_has none h = tt
  list_has (more v vs) h = (h.0, list_has vs h.1)

  members_have : (v : Value) → ValueHas v → AllHave (members v)
  members_have (set vs) h = list_has vs h
  members_have (structure x vs) h = tt
  members_have (leaf l) h = tt

  index_has : (vs : List Value) (i : ℕ) (d : Value) → AllHave vs → ValueHas d → ValueHas (slice_index_or vs i d)
  index_has [] i d g h = h
  index_has (v ∷ vs) zero d g h = g.0
  index_has (v ∷ vs) (suc i) d g h = index_has vs i d g.1 h

  part_has : (d : Value) (vs : List Value) (found : Option ℕ) → AllHave vs → ValueHas d → ValueHas (part_or d vs found)
  part_has d vs (Some i) g h = index_has vs i d g h
  part_has d vs None g h = h

  pick_has : (names : List ℕ → List (List ℕ)) (x : List ℕ) (v : Value) → ValueHas v → ValueHas (picked names x v)
  pick_has names x (structure y vs) h =
      part_has (structure y vs) (list_of vs) (position (bytes_eq x) (names y)) (list_has vs h) h
  pick_has names x (set vs) h = h
  pick_has names x (leaf l) h = h

  bodies_have : (body : Value → Value) (vs : List Value) → ((v : Value) → ValueHas v → ValueHas (body v)) → AllHave vs → AllHave (map body vs)
  bodies_have body [] f h = tt
  bodies_have body (v ∷ vs) f h = (f v h.0, bodies_have body vs f h.1)

module _ (IsConstant : ℤ → Type 0) (IsTerm : Term → Type 0) (IsFormula : Formula → Type 0) (keeps : Keeps IsConstant IsTerm IsFormula) where
  -- ---- operands

  integer_has : (t : Tree) → TreeHas IsTerm IsFormula t → IsTerm (term_in (Some t))
  integer_has (number a) h = h
  integer_has (formula p) h = keeps.zero_has

  truth_has : (t : Tree) → TreeHas IsTerm IsFormula t → IsFormula (formula_in (Some t))
  truth_has (number a) h = keeps.truths false
  truth_has (formula p) h = h

  term_has : (v : Value) → ValueHas IsTerm IsFormula v → IsTerm (term_of v)
  term_has (leaf l) h = integer_has (leaf_tree l) h
  term_has (structure x vs) h = keeps.zero_has
  term_has (set vs) h = keeps.zero_has

  pub formula_has : (v : Value) → ValueHas IsTerm IsFormula v → IsFormula (formula_of v)
  formula_has (leaf l) h = truth_has (leaf_tree l) h
  formula_has (structure x vs) h = keeps.truths false
  formula_has (set vs) h = keeps.truths false

  name_has : (k : Known) → KnownHas IsTerm IsFormula k → ValueHas IsTerm IsFormula (value_in k)
  name_has nothing h = keeps.truths false
  name_has (fields xs) h = keeps.truths false
  name_has (value v) h = h

  -- ---- quantifiers

  bodies_are : (vs : List Value) → AllHave IsTerm IsFormula vs → FormulasHave IsTerm IsFormula (formulas_in (values_from vs))
  bodies_are [] h = tt
  bodies_are (v ∷ vs) h = (formula_has v h.0, bodies_are vs h.1)

  fold_has : (op : LogicOp) (p : Formula) (ps : List Formula) → IsFormula p → FormulasHave IsTerm IsFormula ps → IsFormula (fold (connected op) p ps)
  fold_has op p [] g h = g
  fold_has op p (q ∷ ps) g h = fold_has op (connected op p q) ps (keeps.connectives op p q g h.0) h.1

  formulas_join : (op : LogicOp) (ps : List Formula) → FormulasHave IsTerm IsFormula ps → IsFormula (joined_formula op ps)
  formulas_join op [] h = keeps.truths false
  formulas_join op (p ∷ ps) h = fold_has op p ps h.0 h.1

  joined_has : (op : LogicOp) (vs : List Value) → AllHave IsTerm IsFormula vs → ValueHas IsTerm IsFormula (connected_all op vs)
  joined_has op vs h = formulas_join op (formulas_in (values_from vs)) (bodies_are vs h)

  body_has : (bodies : List Formula) (i : ℕ) → FormulasHave IsTerm IsFormula bodies → IsFormula (body_at bodies i)
  body_has [] i h = keeps.truths false
  body_has (p ∷ ps) zero h = h.0
  body_has (p ∷ ps) (suc i) h = body_has ps i h.1

  gates_have : (bodies : List Formula) (c : counting.Counted) → FormulasHave IsTerm IsFormula bodies → IsFormula (counted_formula bodies c)
  unfolding counted_formula
  gates_have bodies (counting.truth b) h = keeps.truths b
  gates_have bodies (counting.body i) h = body_has bodies i h
  gates_have bodies (counting.both p q) h = keeps.connectives And (counted_formula bodies p) (counted_formula bodies q) (gates_have bodies p h) (gates_have bodies q h)
  gates_have bodies (counting.either p q) h = keeps.connectives Or (counted_formula bodies p) (counted_formula bodies q) (gates_have bodies p h) (gates_have bodies q h)
  gates_have bodies (counting.negation p) h = keeps.negations (counted_formula bodies p) (gates_have bodies p h)

  formulas_count : (op : CountOp) (m : ℕ) (ps : List Formula) → FormulasHave IsTerm IsFormula ps → IsFormula (counting_formula op m ps)
  formulas_count op m [] h = keeps.truths false
  formulas_count op m (p ∷ ps) h = gates_have (p ∷ ps) (counting.counting op (length (p ∷ ps)) m) h

  count_has : (op : CountOp) (m : ℕ) (vs : List Value) → AllHave IsTerm IsFormula vs → ValueHas IsTerm IsFormula (counted op m vs)
  count_has op m vs h = formulas_count op m (formulas_in (values_from vs)) (bodies_are vs h)

  -- ---- expressions

  mutual
    pub value_has : (e : Shape) (env : Env) → ConstantsHave IsConstant e → EnvHas IsTerm IsFormula env → ValueHas IsTerm IsFormula (value_of e env)
    value_has (tree.number line n) env k h = keeps.constants n k
    value_has (tree.truth line b) env k h = keeps.truths b
    value_has (tree.named line x) env k h = name_has (env x) (h.each x)
    value_has (tree.build line x es) env k h = values_have es env k h
    value_has (tree.group line es) env k h = values_have es env k h
    value_has (tree.pick line e x) env k h = pick_has IsTerm IsFormula (λ y. fields_in (env y)) x (value_of e env) (value_has e env k h)
    value_has (tree.minus line e) env k h = keeps.negatives (term_of (value_of e env)) (term_has (value_of e env) (value_has e env k h))
    value_has (tree.negation line e) env k h = keeps.negations (formula_of (value_of e env)) (formula_has (value_of e env) (value_has e env k h))
    value_has (tree.arith line op e f) env k h = keeps.arithmetics op (term_of (value_of e env)) (term_of (value_of f env))
        (term_has (value_of e env) (value_has e env k.0 h)) (term_has (value_of f env) (value_has f env k.1 h))
    value_has (tree.compare line op e f) env k h = keeps.comparisons op (term_of (value_of e env)) (term_of (value_of f env))
        (term_has (value_of e env) (value_has e env k.0 h)) (term_has (value_of f env) (value_has f env k.1 h))
    value_has (tree.logic line op e f) env k h = keeps.connectives op (formula_of (value_of e env)) (formula_of (value_of f env))
        (formula_has (value_of e env) (value_has e env k.0 h)) (formula_has (value_of f env) (value_has f env k.1 h))
    value_has (tree.window line op a b e) env k h =
        keeps.windows op a b (formula_of (value_of e env)) (formula_has (value_of e env) (value_has e env k h))
    value_has (tree.between line op a b e f) env k h = keeps.ranges op a b (formula_of (value_of e env)) (formula_of (value_of f env))
        (formula_has (value_of e env) (value_has e env k.0 h)) (formula_has (value_of f env) (value_has f env k.1 h))
    value_has (tree.each line x s e) env k h = joined_has And (map (λ v. value_of e (bind x v env)) (members (value_of s env)))
        (bodies_have IsTerm IsFormula (λ v. value_of e (bind x v env)) (members (value_of s env)) (λ v g. value_has e (bind x v env) k.1 (bind_has IsTerm IsFormula x v env g h))
        (members_have IsTerm IsFormula (value_of s env) (value_has s env k.0 h)))
    value_has (tree.exists line x s e) env k h = joined_has Or (map (λ v. value_of e (bind x v env)) (members (value_of s env)))
        (bodies_have IsTerm IsFormula (λ v. value_of e (bind x v env)) (members (value_of s env)) (λ v g. value_has e (bind x v env) k.1 (bind_has IsTerm IsFormula x v env g h))
        (members_have IsTerm IsFormula (value_of s env) (value_has s env k.0 h)))
    value_has (tree.count line op x s m e) env k h = count_has op m (map (λ v. value_of e (bind x v env)) (members (value_of s env)))
        (bodies_have IsTerm IsFormula (λ v. value_of e (bind x v env)) (members (value_of s env)) (λ v g. value_has e (bind x v env) k.1 (bind_has IsTerm IsFormula x v env g h))
        (members_have IsTerm IsFormula (value_of s env) (value_has s env k.0 h)))

    values_have : (es : Shapes) (env : Env) → AllConstantsHave IsConstant es → EnvHas IsTerm IsFormula env → ValuesHave IsTerm IsFormula (values_of es env)
    values_have tree.none env k h = tt
    values_have (tree.more e es) env k h = (value_has e env k.0 h, values_have es env k.1 h)
