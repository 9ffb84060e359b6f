-- Truths that are loaded.

use Rattle.std.proofs.Common.{◌≡◌, ℕ, zero, suc, ◌<◌, Some, List, [], ◌∷◌, length, map, get_or, refl, arith}
use Rattle.std.specs.List.{slice_get}
use Rattle.mltl_base.specs.Atoms.{is_true}
use Rattle.mltl_base.specs.Programs.{Expression, whole, truth, atom_of}
use Rattle.obs_verify.specs.Running.{IsTruthExpression}

-- a truth that is loaded stands in the list
pub truth_within : (es : List Expression) (k : ℕ) → IsTruthExpression (slice_get es k) → k < length es
truth_within [] k t = absurd t
truth_within (e ∷ es) zero t = omega arith
truth_within (e ∷ es) (suc k) t = omega (arith, truth_within es k t)

-- and it is that of its atom
pub truth_there : (es : List Expression) (k : ℕ) → IsTruthExpression (slice_get es k) → slice_get es k ≡ Some (truth (get_or (map (λ e. atom_of (Some e)) es) k (is_true 0)))
truth_there [] k t = absurd t
truth_there (truth a ∷ es) zero t = refl
truth_there (whole e ∷ es) zero t = absurd t
truth_there (e ∷ es) (suc k) t = truth_there es k t
