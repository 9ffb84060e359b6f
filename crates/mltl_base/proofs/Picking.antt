-- The core formulas of outputs, as a whole and by engine.

use Rattle.std.proofs.Common.{◌≡◌, Bool, true, false, if◌then◌else◌, List, [], ◌∷◌, refl}
use Rattle.std.proofs.lemmas.Bool.{false≢true}
use Rattle.mltl_base.specs.declared.interval.Engine.{Engine}
use Rattle.mltl_base.specs.declared.interval.Engine.TheVariants.{Ft, Pt}
use Rattle.mltl_base.specs.Formula.{Core}
use Rattle.mltl_base.specs.Reports.{Output, formula, contract}
use Rattle.mltl_base.specs.Subformulas.{Asked, cores_of_output, same_engine, all_cores, cores_for, subformulas}
use Rattle.mltl_base.proofs.Unfolding.{Deep, Each, Has, fold_has}
use Rattle.mltl_base.proofs.Booleans.{HasCoreAtom}
use Rattle.mltl_base.proofs.Tenses.{core_atoms}
use Rattle.mltl_base.proofs.Members.{each_append, each_left, each_right}

-- all atoms of the outputs have comparisons of instructions
output_atoms : (o : Output) → Each (Deep HasCoreAtom) (cores_of_output o)
output_atoms (formula p) = (core_atoms p, tt)
output_atoms (contract p q) = (core_atoms p, (core_atoms q, tt))

pub cores_atoms : (outs : List Asked) → Each (Deep HasCoreAtom) (all_cores outs)
cores_atoms [] = tt
cores_atoms (a ∷ outs) = each_append (Deep HasCoreAtom) (cores_of_output a.output) (all_cores outs) (output_atoms a.output) (cores_atoms outs)

-- the core formulas of an engine are among all
pub cores_of_engine : (P : Core → Type 0) (e : Engine) (outs : List Asked) → Each P (all_cores outs) → Each P (cores_for e outs)
cores_of_engine P e [] h = tt
cores_of_engine P e (a ∷ outs) h =
    each_append P (if same_engine a.engine e then cores_of_output a.output else []) (cores_for e outs)
    (go (same_engine a.engine e) (each_left P (cores_of_output a.output) (all_cores outs) h))
    (cores_of_engine P e outs (each_right P (cores_of_output a.output) (all_cores outs) h))
  where
    go : (b : Bool) → Each P (cores_of_output a.output) → Each P (if b then cores_of_output a.output else [])
    go true h = h
    go false h = tt

-- what holds of the formulas of each engine holds of each output's
picked : (P : Core → Type 0) (e : Engine) (outs : List Asked) → Each P (cores_for e outs) → Each (λ a. same_engine a.engine e ≡ true → Each P (cores_of_output a.output)) outs
picked P e [] h = tt
picked P e (a ∷ outs) h = (
  λ q. here (same_engine a.engine e) q (each_left P (if same_engine a.engine e then cores_of_output a.output else []) (cores_for e outs) h),
  picked P e outs (each_right P (if same_engine a.engine e then cores_of_output a.output else []) (cores_for e outs) h),
)
  where
    here : (b : Bool) → b ≡ true → Each P (if b then cores_of_output a.output else []) → Each P (cores_of_output a.output)
    here true q h = h
    here false q h = absurd (false≢true q)

engine_self : (e : Engine) → same_engine e e ≡ true
engine_self Ft = refl
engine_self Pt = refl

each_engine : (all outs : List Asked) → ((e : Engine) → Each (λ a. same_engine a.engine e ≡ true → Each (Has (subformulas e all)) (cores_of_output a.output)) outs)
    → Each (λ a. Each (Has (subformulas a.engine all)) (cores_of_output a.output)) outs
each_engine all [] h = tt
each_engine all (a ∷ outs) h = ((h a.engine).0 (engine_self a.engine), each_engine all outs (λ e. (h e).1))

-- each formula of an output is listed for its engine
pub all_listed : (outs : List Asked) → Each (λ a. Each (Has (subformulas a.engine outs)) (cores_of_output a.output)) outs
all_listed outs = each_engine outs outs (λ e. picked (Has (subformulas e outs)) e outs (fold_has (cores_for e outs) []))
