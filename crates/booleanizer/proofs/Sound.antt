-- Sound instructions can be computed on every row that fits them.

use Rattle.std.proofs.Common.{◌≢◌, ℕ, zero, suc, List, [], ◌∷◌, ◌++◌, length, Option, Some, None, sym, subst}
use Rattle.std.specs.Prelude.{ℤ, pos, IsOk, FitsSigned, slice_get, ⊤}
use Rattle.std.specs.Int.{w64}
use Rattle.std.specs.List.{AllByRecursion}
use Rattle.std.proofs.lemmas.List.Elements.{recursion_from_All}
use Rattle.mltl_base.specs.declared.operators.BzOp.{BzOp}
use Rattle.mltl_base.specs.declared.operators.BzOp.TheVariants.{Column, IsTrue, Const, Neg, Add, Sub, Mul, Div, Rem, Eq, Lt, Le}
use Rattle.mltl_base.specs.Atoms.{Row, Term, negative, plus, minus, times, quotient, value}
use Rattle.mltl_base.specs.Programs.{Expression, whole, truth, expression_of, term_at, expression_term, FitsRow, IsFit}
use Rattle.mltl_base.specs.Ranges.{Range, range, over_divisor, divided, left_over, FitsTerm}
use Rattle.booleanizer.specs.Evaluation.{Computable, AllCompute}
use Rattle.mltl_base.specs.declared.program.Program.{Program}
use Rattle.mltl_base.proofs.Ranging.{value_fits_word, divisor_not_zero, has_range}
use Rattle.obs_verify.specs.Soundness.{SoundOp, SoundOps}
use Rattle.obs_verify.specs.WellFormed.{IsWellFormed}
use Rattle.obs_verify.proofs.SoundOps.{all_sound}

-- ---- what expressions ask of a row

-- the whole number at a place asks nothing of the row that it hasn't
abbrev Fitting : Row → Option Expression → Type 0
Fitting row (Some (whole e)) = FitsTerm row e
Fitting row (Some (truth a)) = ⊤
Fitting row None = ⊤

AllFitting : Row → List Expression → Type 0
AllFitting row before = (a : ℕ) → Fitting row (slice_get before a)

fitting-push : (row : Row) (before : List Expression) (e : Expression) → AllFitting row before → Fitting row (Some e) → AllFitting row (before ++ e ∷ [])
unfolding AllFitting
fitting-push row [] e all one zero = one
fitting-push row [] e all one (suc a) = tt
fitting-push row (x ∷ xs) e all one zero = all zero
fitting-push row (x ∷ xs) e all one (suc a) = fitting-push row xs e (λ b. all (suc b)) one a

term-fits-of : (row : Row) (o : Option Expression) → Fitting row o → FitsTerm row (expression_term o)
unfolding FitsTerm
term-fits-of row (Some (whole e)) h = h
term-fits-of row (Some (truth a)) h = tt
term-fits-of row None h = tt

term-fits : (row : Row) (before : List Expression) (a : ℕ) → AllFitting row before → FitsTerm row (term_at before a)
unfolding AllFitting
term-fits row before a all = term-fits-of row (slice_get before a) (all a)

expression-fits : (row : Row) (before : List Expression) (op : BzOp) → AllFitting row before → FitsRow row op → Fitting row (Some (expression_of before op))
unfolding FitsTerm
expression-fits row before (Column c) all h = h
expression-fits row before (Neg a) all h = term-fits row before a all
expression-fits row before (Add a b) all h = (term-fits row before a all, term-fits row before b all)
expression-fits row before (Sub a b) all h = (term-fits row before a all, term-fits row before b all)
expression-fits row before (Mul a b) all h = (term-fits row before a all, term-fits row before b all)
expression-fits row before (Div a b) all h = (term-fits row before a all, term-fits row before b all)
expression-fits row before (Rem a b) all h = (term-fits row before a all, term-fits row before b all)
expression-fits row before _ all h = tt

-- ---- sound instructions

module _ (row : Row) where
  word : (e : Term) → FitsTerm row e → IsOk (range e) → FitsSigned w64 (value e row)
  word e f h = let r = has_range (range e) h in value_fits_word row e r.the f r.is

  divisor-is : (g : Range → ℤ → Range) (a b : Term) → FitsTerm row b → IsOk (over_divisor g (range a) (range b)) → value b row ≢ pos 0
  divisor-is g a b f h =
      let r = has_range (over_divisor g (range a) (range b)) h in
      divisor_not_zero g row (range a) b r.the f r.is

  both : (before : List Expression) (a b : ℕ) → AllFitting row before → FitsTerm row (term_at before a) × FitsTerm row (term_at before b)
  both before a b all = (term-fits row before a all, term-fits row before b all)

  can : (before : List Expression) (op : BzOp) → AllFitting row before → SoundOp (length row) before op → Computable row before op
  unfolding FitsTerm value range
  can before (Const n) all h = tt
  can before (Neg a) all h = (h.0, word (negative (term_at before a)) (term-fits row before a all) h.1)
  can before (Add a b) all h = (h.0, word (plus (term_at before a) (term_at before b)) (both before a b all) h.1)
  can before (Sub a b) all h = (h.0, word (minus (term_at before a) (term_at before b)) (both before a b all) h.1)
  can before (Mul a b) all h = (h.0, word (times (term_at before a) (term_at before b)) (both before a b all) h.1)
  can before (Div a b) all h = (h.0, divisor-is divided (term_at before a) (term_at before b) (term-fits row before b all) h.1, word (quotient (term_at before a) (term_at before b)) (both before a b all) h.1)
  can before (Rem a b) all h = (h.0, divisor-is left_over (term_at before a) (term_at before b) (term-fits row before b all) h.1)
  can before _ all h = h

  all-can : (before : List Expression) (ops : List BzOp) → AllFitting row before → AllByRecursion (FitsRow row) ops → SoundOps (length row) before ops → AllCompute row before ops
  unfolding SoundOps AllCompute
  all-can before [] all f h = tt
  all-can before (op ∷ ops) all f h =
      (can before op all h.0, all-can (before ++ expression_of before op ∷ []) ops (fitting-push row before (expression_of before op) all (expression-fits row before op all f.0)) f.1 h.1)

  pub sound-computes : (ops : List BzOp) → AllByRecursion (FitsRow row) ops → SoundOps (length row) [] ops → AllCompute row [] ops
  unfolding AllFitting
  sound-computes ops f h = all-can [] ops (λ a. tt) f h

-- so can those of a well-formed program
pub fit-computes : (program : Program) (row : Row) → IsWellFormed program → IsFit program row → AllCompute row [] program.bz
fit-computes program row good fit =
    sound-computes row program.bz (recursion_from_All (FitsRow row) program.bz fit.kinds)
    (subst (λ (n : ℕ). SoundOps n [] program.bz) (sym fit.width) (all_sound program good))
