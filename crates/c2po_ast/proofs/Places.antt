-- Members of a list that gets longer, and nodes at their places.

use Rattle.std.proofs.Common.{◌≡◌, ℕ, zero, suc, ◌<◌, Some, List, [], ◌∷◌, ◌++◌, length, slice_get, get_or, false, refl, ap, ◌∙◌, arith, inl, inr, ◌⊎◌}
use Rattle.std.proofs.lemmas.Option.{same_Some, slice_get-get_or}
use Rattle.mltl_base.proofs.Members.{get_after}
use Rattle.c2po_ast.specs.declared.nodes.Plain.{Plain}
use Rattle.c2po_ast.specs.declared.nodes.Plain.TheVariants.{Truth}

-- a member stays at its place when others come after it
pub get_left : {X : Type 0} (xs ys : List X) (i : ℕ) (x : X) → slice_get xs i ≡ Some x → slice_get (xs ++ ys) i ≡ Some x
get_left [] ys i x e = cc
get_left (y ∷ xs) ys zero x e = e
get_left (y ∷ xs) ys (suc i) x e = get_left xs ys i x e

pub get_last : {X : Type 0} (xs : List X) (x : X) → slice_get (xs ++ x ∷ []) (length xs) ≡ Some x
get_last xs x = get_after xs [] x

-- a member of a list that is longer by one is an earlier one or the last
pub at_push : {X : Type 0} (xs : List X) (x : X) (i : ℕ) (y : X) → slice_get (xs ++ x ∷ []) i ≡ Some y
    → ((i < length xs) × (slice_get xs i ≡ Some y)) ⊎ ((i ≡ length xs) × (x ≡ y))
at_push [] x zero y e = inr (refl, same_Some x y e)
at_push [] x (suc i) y e = cc
at_push (z ∷ xs) x zero y e = inl (omega arith, e)
at_push (z ∷ xs) x (suc i) y e = elim (at_push xs x i y e) [
  | inl p ↦ inl (omega arith, p.1)
  | inr p ↦ inr (ap suc p.0, p.1)
]

-- the node that an arm of a match has found
pub node_there : (nodes : List Plain) (i : ℕ) (node : Plain) → i < length nodes → get_or nodes i (Truth false) ≡ node → slice_get nodes i ≡ Some node
node_there nodes i node l e = slice_get-get_or nodes i (Truth false) l ∙ ap Some e
