-- What the outputs of a program unfold to where its signals are moved: the same formulas over the new columns.
use Rattle.std.proofs.Common.{◌≡◌, ℕ, ◌<◌, zero, suc, Some, List, [], ◌∷◌, ◌++◌, length, map, slice_get, slice_index_or, refl, ap, ap₂, sym, ◌∙◌, arith}
use Rattle.std.proofs.lemmas.List.{map_push}
use Rattle.mltl_base.specs.declared.interval.Engine.{Engine}
use Rattle.mltl_base.specs.declared.interval.Engine.TheVariants.{Ft, Pt}
use Rattle.mltl_base.specs.declared.operators.FtOp as ft
use Rattle.mltl_base.specs.declared.operators.PtOp as pt
use Rattle.mltl_base.specs.declared.program.Out as out
use Rattle.mltl_base.specs.declared.program.Program.{Program}
use Rattle.mltl_base.specs.Atoms.{Atom, is_true}
use Rattle.mltl_base.specs.Formula.{Formula, truth as always, falsity, atom, negation, conjunction, disjunction, implication, equivalence, finally, globally, until, release, once, historically, since, Core, ctrue, catom, cnot, cand, cuntil, csince, plain}
use Rattle.mltl_base.specs.Programs.{Expression, whole, truth, atom_of, expressions, atoms, core_at, op_formula, past_formula_of, formulas_after, past_formulas_after, cores_of, formula_at, output_of, outputs}
use Rattle.mltl_base.specs.Reports.{Output, formula, contract}
use Rattle.obs_verify.specs.Bound.{bound, moved}
use Rattle.obs_verify.specs.Running.{IsTruthExpression, RunsFuture, RunsPast}
use Rattle.obs_verify.proofs.MovedLaws.{atom_over, both_over, expressions_over}

-- a core formula over other columns
unfoldable pub moved_core : (ℕ → ℕ) → Core → Core
moved_core g ctrue = ctrue
moved_core g (catom a) = catom (atom_over g a)
moved_core g (cnot p) = cnot (moved_core g p)
moved_core g (cand p q) = cand (moved_core g p) (moved_core g q)
moved_core g (cuntil i p q) = cuntil i (moved_core g p) (moved_core g q)
moved_core g (csince i p q) = csince i (moved_core g p) (moved_core g q)

-- a formula, and an output, over other columns
unfoldable pub moved_formula : (ℕ → ℕ) → Formula → Formula
moved_formula g always = always
moved_formula g falsity = falsity
moved_formula g (atom a) = atom (atom_over g a)
moved_formula g (negation p) = negation (moved_formula g p)
moved_formula g (conjunction p q) = conjunction (moved_formula g p) (moved_formula g q)
moved_formula g (disjunction p q) = disjunction (moved_formula g p) (moved_formula g q)
moved_formula g (implication p q) = implication (moved_formula g p) (moved_formula g q)
moved_formula g (equivalence p q) = equivalence (moved_formula g p) (moved_formula g q)
moved_formula g (finally i p) = finally i (moved_formula g p)
moved_formula g (globally i p) = globally i (moved_formula g p)
moved_formula g (until i p q) = until i (moved_formula g p) (moved_formula g q)
moved_formula g (release i p q) = release i (moved_formula g p) (moved_formula g q)
moved_formula g (once i p) = once i (moved_formula g p)
moved_formula g (historically i p) = historically i (moved_formula g p)
moved_formula g (since i p q) = since i (moved_formula g p) (moved_formula g q)

unfoldable pub moved_output : (ℕ → ℕ) → Output → Output
moved_output g (formula p) = formula (moved_formula g p)
moved_output g (contract p q) = contract (moved_formula g p) (moved_formula g q)

pub plain_moved : (g : ℕ → ℕ) (p : Core) → plain (moved_core g p) ≡ moved_formula g (plain p)
unfolding plain moved_core moved_formula
plain_moved g ctrue = refl
plain_moved g (catom a) = refl
plain_moved g (cnot p) = ap negation (plain_moved g p)
plain_moved g (cand p q) = ap₂ conjunction (plain_moved g p) (plain_moved g q)
plain_moved g (cuntil i p q) = ap₂ (until i) (plain_moved g p) (plain_moved g q)
plain_moved g (csince i p q) = ap₂ (since i) (plain_moved g p) (plain_moved g q)

-- a truth that is loaded
loaded_moved : (g : ℕ → ℕ) (es : List Expression) (a : ℕ) → IsTruthExpression (slice_get es a)
    → slice_index_or (map (λ e. atom_of (Some e)) (map (both_over g) es)) a (is_true 0) ≡ atom_over g (slice_index_or (map (λ e. atom_of (Some e)) es) a (is_true 0))
unfolding both_over atom_over
loaded_moved g [] a t = absurd t
loaded_moved g (truth b ∷ es) zero t = refl
loaded_moved g (whole e ∷ es) zero t = absurd t
loaded_moved g (e ∷ es) (suc a) t = loaded_moved g es a t

core_moved_at : (g : ℕ → ℕ) (cs : List Core) (n : ℕ) → core_at (map (moved_core g) cs) n ≡ moved_core g (core_at cs n)
unfolding moved_core
core_moved_at g [] n = refl
core_moved_at g (c ∷ cs) zero = refl
core_moved_at g (c ∷ cs) (suc n) = core_moved_at g cs n

module _ (g : ℕ → ℕ) (es : List Expression) (loaded now : List Atom)
    (is_loaded : (a : ℕ) → IsTruthExpression (slice_get es a) → slice_index_or now a (is_true 0) ≡ atom_over g (slice_index_or loaded a (is_true 0))) where
  ft_moved : (before : List Core) (op : ft.FtOp) → ((k : ℕ) → op ≡ ft.TheVariants.Load k → IsTruthExpression (slice_get es k))
      → op_formula now (map (moved_core g) before) op ≡ moved_core g (op_formula loaded before op)
  unfolding moved_core
  ft_moved before ft.TheVariants.True h = refl
  ft_moved before (ft.TheVariants.Load a) h = ap catom (is_loaded a (h a refl))
  ft_moved before (ft.TheVariants.Not a) h = ap cnot (core_moved_at g before a)
  ft_moved before (ft.TheVariants.And a b) h = ap₂ cand (core_moved_at g before a) (core_moved_at g before b)
  ft_moved before (ft.TheVariants.Until a b i) h = ap₂ (cuntil i) (core_moved_at g before a) (core_moved_at g before b)

  pt_moved : (before : List Core) (op : pt.PtOp) → ((k : ℕ) → op ≡ pt.TheVariants.Load k → IsTruthExpression (slice_get es k))
      → past_formula_of now (map (moved_core g) before) op ≡ moved_core g (past_formula_of loaded before op)
  unfolding moved_core
  pt_moved before pt.TheVariants.True h = refl
  pt_moved before (pt.TheVariants.Load a) h = ap catom (is_loaded a (h a refl))
  pt_moved before (pt.TheVariants.Not a) h = ap cnot (core_moved_at g before a)
  pt_moved before (pt.TheVariants.And a b) h = ap₂ cand (core_moved_at g before a) (core_moved_at g before b)
  pt_moved before (pt.TheVariants.Since a b i) h = ap₂ (csince i) (core_moved_at g before a) (core_moved_at g before b)

  ft_all : (before : List Core) (ops : List ft.FtOp) → ((i k : ℕ) → i < length ops → slice_index_or ops i ft.TheVariants.True ≡ ft.TheVariants.Load k → IsTruthExpression (slice_get es k))
      → formulas_after now (map (moved_core g) before) ops ≡ map (moved_core g) (formulas_after loaded before ops)
  unfolding formulas_after
  ft_all before [] h = refl
  ft_all before (op ∷ ops) h =
      ap (λ (cs : List Core). formulas_after now cs ops)
      (ap (λ (c : Core). map (moved_core g) before ++ c ∷ []) (ft_moved before op (λ k e. h 0 k (omega arith) e)) ∙ sym (map_push (moved_core g) before (op_formula loaded before op)))
      ∙ ft_all (before ++ op_formula loaded before op ∷ []) ops (λ i k l e. h (suc i) k (omega arith) e)

  pt_all : (before : List Core) (ops : List pt.PtOp) → ((i k : ℕ) → i < length ops → slice_index_or ops i pt.TheVariants.True ≡ pt.TheVariants.Load k → IsTruthExpression (slice_get es k))
      → past_formulas_after now (map (moved_core g) before) ops ≡ map (moved_core g) (past_formulas_after loaded before ops)
  unfolding past_formulas_after
  pt_all before [] h = refl
  pt_all before (op ∷ ops) h =
      ap (λ (cs : List Core). past_formulas_after now cs ops)
      (ap (λ (c : Core). map (moved_core g) before ++ c ∷ []) (pt_moved before op (λ k e. h 0 k (omega arith) e)) ∙ sym (map_push (moved_core g) before (past_formula_of loaded before op)))
      ∙ pt_all (before ++ past_formula_of loaded before op ∷ []) ops (λ i k l e. h (suc i) k (omega arith) e)

module _ (program : Program) (width : ℕ) (columns : List ℕ) (future : RunsFuture program) (past : RunsPast program) where
  bound_atom : (a : ℕ) → IsTruthExpression (slice_get (expressions program.bz) a)
      → slice_index_or (atoms (bound program width columns).bz) a (is_true 0) ≡ atom_over (moved program.signals columns) (slice_index_or (atoms program.bz) a (is_true 0))
  bound_atom a t =
      ap (λ (es : List Expression). slice_index_or (map (λ e. atom_of (Some e)) es) a (is_true 0)) (expressions_over program.signals columns [] program.bz)
      ∙ loaded_moved (moved program.signals columns) (expressions program.bz) a t

  bound_cores : (engine : Engine) → cores_of (bound program width columns) engine ≡ map (moved_core (moved program.signals columns)) (cores_of program engine)
  bound_cores Ft = ft_all (moved program.signals columns) (expressions program.bz) (atoms program.bz) (atoms (bound program width columns).bz) bound_atom [] program.ft future.loads
  bound_cores Pt = pt_all (moved program.signals columns) (expressions program.bz) (atoms program.bz) (atoms (bound program width columns).bz) bound_atom [] program.pt past.loads

  bound_formula : (engine : Engine) (i : ℕ) → plain (formula_at (bound program width columns) engine i) ≡ moved_formula (moved program.signals columns) (plain (formula_at program engine i))
  bound_formula engine i =
      ap (λ (cs : List Core). plain (core_at cs i)) (bound_cores engine)
      ∙ ap plain (core_moved_at (moved program.signals columns) (cores_of program engine) i)
      ∙ plain_moved (moved program.signals columns) (formula_at program engine i)

  bound_output : (o : out.Out) → output_of (bound program width columns) o ≡ moved_output (moved program.signals columns) (output_of program o)
  unfolding moved_output
  bound_output (out.TheVariants.Formula engine i name) = ap formula (bound_formula engine i)
  bound_output (out.TheVariants.Contract engine i j name) = ap₂ contract (bound_formula engine i) (bound_formula engine j)

  bound_all : (outs : List out.Out) → map (output_of (bound program width columns)) outs ≡ map (moved_output (moved program.signals columns)) (map (output_of program) outs)
  bound_all [] = refl
  bound_all (o ∷ outs) = ap₂ (λ x xs. x ∷ xs) (bound_output o) (bound_all outs)

  pub outputs_bound : outputs (bound program width columns) ≡ map (moved_output (moved program.signals columns)) (outputs program)
  outputs_bound = bound_all program.outs
