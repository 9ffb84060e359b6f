-- Formulas of a result that are simplified have what their formulas have.

use Rattle.std.proofs.Common.{◌≡◌, ◌∙◌, ◌≤◌, ℕ, Bool, Some, List, map, option_map, slice_get, refl, sym, ap, subst}
use Rattle.std.proofs.lemmas.Option.{slice_get-map}
use Rattle.mltl_base.specs.Atoms.{Row}
use Rattle.mltl_base.specs.Formula.{Formula, wpd}
use Rattle.mltl_base.specs.Meaning.{sat}
use Rattle.mltl_base.specs.Reports.{Output, formula, contract}
use Rattle.mltl_base.specs.Settled.{IsOrdered, Settled}
use Rattle.mltl_base.specs.Subformulas.{Asked, formulas_of}
use Rattle.mltl_simplify.specs.Outputs.{InPlaceOf, simple_asked, simple_output, simple_outputs}
use Rattle.mltl_simplify.specs.Simplify.{simp}
use Rattle.mltl_simplify.proofs.Delays.{simp_settled, simp_wpd}
use Rattle.mltl_simplify.proofs.Meaning.{simp_sat}

-- a member of a list, and what a function made of it
made_at : {X Y : Type 0} (f : X → Y) (xs : List X) (k : ℕ) (x : X) (y : Y) → slice_get xs k ≡ Some x → slice_get (map f xs) k ≡ Some y → y ≡ f x
made_at f xs k x y was is =
    let same : Some (f x) ≡ Some y = sym (ap (option_map f) was) ∙ sym (slice_get-map f xs k) ∙ is in
    let back : f x ≡ y = cc in
    sym back

formulas_simple : (o : Output) → formulas_of (simple_output o) ≡ map simp (formulas_of o)
formulas_simple (formula p) = refl
formulas_simple (contract p q) = refl

-- in the place of a formula is its simplified form
module _ (outs result : List Asked) (are : result ≡ simple_outputs outs) (p q : Formula) (placed : InPlaceOf outs result p q) where
  placed_simple : q ≡ simp p
  placed_simple =
      let same : placed.is.out ≡ simple_asked placed.was.out = made_at simple_asked outs placed.k placed.was.out placed.is.out placed.was.there (ap (λ os. slice_get os placed.k) (sym are) ∙ placed.is.there) in
      let forms : formulas_of placed.is.out.output ≡ map simp (formulas_of placed.was.out.output) = ap (λ (a : Asked). formulas_of a.output) same ∙ formulas_simple placed.was.out.output in
      made_at simp (formulas_of placed.was.out.output) placed.side p q placed.was.is (ap (λ fs. slice_get fs placed.side) (sym forms) ∙ placed.is.is)

-- so it means the same, no later
pub placed_sat : (outs result : List Asked) → result ≡ simple_outputs outs → (p q : Formula) (rows : List Row) (t : ℕ) → InPlaceOf outs result p q → IsOrdered p → sat rows q t ≡ sat rows p t
placed_sat outs result are p q rows t placed ordered = ap (λ f. sat rows f t) (placed_simple outs result are p q placed) ∙ simp_sat rows p t ordered

pub placed_wpd : (outs result : List Asked) → result ≡ simple_outputs outs → (p q : Formula) → InPlaceOf outs result p q → wpd q ≤ wpd p
placed_wpd outs result are p q placed = subst (λ f. wpd f ≤ wpd p) (sym (placed_simple outs result are p q placed)) (simp_wpd p)

pub placed_settled : (outs result : List Asked) → result ≡ simple_outputs outs → (p q : Formula) (rows : List Row) (t : ℕ) (v : Bool) → InPlaceOf outs result p q → IsOrdered p → Settled rows q t v → Settled rows p t v
placed_settled outs result are p q rows t v placed ordered settled =
    simp_settled rows p t v ordered (subst (λ f. Settled rows f t v) (placed_simple outs result are p q placed) settled)
