-- Values of expressions read signals by their kinds, where the meanings of names do.

use Rattle.std.proofs.Common.{ℕ, Bool, true, false, List}
use Rattle.mltl_base.specs.declared.operators.ArithOp.{ArithOp}
use Rattle.mltl_base.specs.declared.operators.ArithOp.TheVariants as arith_op
use Rattle.mltl_base.specs.declared.operators.CompareOp.{CompareOp}
use Rattle.mltl_base.specs.declared.operators.CompareOp.TheVariants as compare_op
use Rattle.mltl_base.specs.declared.operators.LogicOp.{LogicOp}
use Rattle.mltl_base.specs.declared.operators.LogicOp.TheVariants.{And, Or, Implies, Iff}
use Rattle.mltl_base.specs.declared.operators.WindowOp.{WindowOp}
use Rattle.mltl_base.specs.declared.operators.WindowOp.TheVariants.{F, G, O, H}
use Rattle.mltl_base.specs.declared.operators.BetweenOp.{BetweenOp}
use Rattle.mltl_base.specs.declared.operators.BetweenOp.TheVariants.{U, R, S}
use Rattle.mltl_base.specs.declared.interval.Interval.{Interval}
use Rattle.mltl_base.specs.Atoms.{Term}
use Rattle.mltl_base.specs.Formula.{Formula}
use Rattle.mltl_base.specs.Kinds.{ReadsWholes, AtomReadsKinds, ReadsKinds}
use Rattle.c2po_ast.specs.Shape.{Shape}
use Rattle.c2po_ast.specs.Nodes.{constant_formula, arithmetic, comparison, connected, windowed, ranged}
use Rattle.c2po_types.specs.Values.{Value, formula_of, interval}
use Rattle.c2po_types.specs.Environment.{Env, Known, nothing, declare, value_of}
use Rattle.c2po_types.proofs.ValueWalk.{Any, EnvHas, Keeps, KnownHas, ValueHas, any_constants, declare_has, formula_has, nothing_has, value_has}

module _ (kinds : List Bool) where
  -- a value, and the meanings of names, read signals by their kinds
  abbrev pub ValueReads : Value → Type 0
  ValueReads v = ValueHas (ReadsWholes kinds) (ReadsKinds kinds) v

  abbrev pub KnownReads : Known → Type 0
  KnownReads k = KnownHas (ReadsWholes kinds) (ReadsKinds kinds) k

  abbrev pub EnvReads : Env → Type 0
  EnvReads env = EnvHas (ReadsWholes kinds) (ReadsKinds kinds) env

  -- operators
  truth_reads : (b : Bool) → ReadsKinds kinds (constant_formula b)
  truth_reads true = tt
  truth_reads false = tt

  arith_reads : (op : ArithOp) (a b : Term) → ReadsWholes kinds a → ReadsWholes kinds b → ReadsWholes kinds (arithmetic op a b)
  arith_reads arith_op.Add a b g h = (g, h)
  arith_reads arith_op.Sub a b g h = (g, h)
  arith_reads arith_op.Mul a b g h = (g, h)
  arith_reads arith_op.Div a b g h = (g, h)
  arith_reads arith_op.Rem a b g h = (g, h)

  compare_reads : (op : CompareOp) (a b : Term) → ReadsWholes kinds a → ReadsWholes kinds b → AtomReadsKinds kinds (comparison op a b)
  compare_reads compare_op.Eq a b g h = (g, h)
  compare_reads compare_op.Ne a b g h = (g, h)
  compare_reads compare_op.Lt a b g h = (g, h)
  compare_reads compare_op.Le a b g h = (g, h)
  compare_reads compare_op.Gt a b g h = (g, h)
  compare_reads compare_op.Ge a b g h = (g, h)

  logic_reads : (op : LogicOp) (p q : Formula) → ReadsKinds kinds p → ReadsKinds kinds q → ReadsKinds kinds (connected op p q)
  logic_reads And p q g h = (g, h)
  logic_reads Or p q g h = (g, h)
  logic_reads Implies p q g h = (g, h)
  logic_reads Iff p q g h = (g, h)

  window_reads : (op : WindowOp) (i : Interval) (p : Formula) → ReadsKinds kinds p → ReadsKinds kinds (windowed op i p)
  window_reads F i p h = h
  window_reads G i p h = h
  window_reads O i p h = h
  window_reads H i p h = h

  between_reads : (op : BetweenOp) (i : Interval) (p q : Formula) → ReadsKinds kinds p → ReadsKinds kinds q → ReadsKinds kinds (ranged op i p q)
  between_reads U i p q g h = (g, h)
  between_reads R i p q g h = (g, h)
  between_reads S i p q g h = (g, h)

  reads_kept : Keeps Any (ReadsWholes kinds) (ReadsKinds kinds)
  reads_kept = record {
    constants = λ n h. tt;
    zero_has = tt;
    negatives = λ a h. h;
    arithmetics = arith_reads;
    comparisons = compare_reads;
    truths = truth_reads;
    negations = λ p h. h;
    connectives = logic_reads;
    windows = λ op a b p h. window_reads op (interval a b) p h;
    ranges = λ op a b p q g h. between_reads op (interval a b) p q g h;
  }

  -- names and expressions
  pub nothing_reads : EnvReads (λ x. nothing)
  nothing_reads = nothing_has (ReadsWholes kinds) (ReadsKinds kinds)

  pub declare_reads : (x : List ℕ) (k : Known) (env : Env) → KnownReads k → EnvReads env → EnvReads (declare x k env)
  declare_reads = declare_has (ReadsWholes kinds) (ReadsKinds kinds)

  pub value_reads : (e : Shape) (env : Env) → EnvReads env → ValueReads (value_of e env)
  value_reads e env h = value_has Any (ReadsWholes kinds) (ReadsKinds kinds) reads_kept e env (any_constants e) h

  pub formula_reads : (v : Value) → ValueReads v → ReadsKinds kinds (formula_of v)
  formula_reads = formula_has Any (ReadsWholes kinds) (ReadsKinds kinds) reads_kept
