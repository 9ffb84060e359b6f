-- What one more gate does to the formulas and the truths of a network.
use Rattle.std.proofs.Common.{◌≡◌, ◌<◌, ◌+◌, ◌-◌, ℕ, zero, suc, Bool, false, List, [], ◌∷◌, ◌++◌, length, map, get_or, Some, refl, sym, ◌∙◌, ap, subst, arith, inl, inr}
use Rattle.std.specs.Prelude.{fold, slice_get}
use Rattle.std.proofs.lemmas.List.{length_push, get_or_append_left, get_or_push, map_push}
use Rattle.std.proofs.lemmas.List.Sums.{fold_push}
use Rattle.std.proofs.lemmas.Option.{slice_get_within, slice_get-get_or, get_or_from_slice_get, slice_get-map}
use Rattle.std.proofs.lemmas.Bool.{cases_lt}
use Rattle.count_sets.specs.declared.gate.Gate.{Gate}
use Rattle.count_sets.specs.declared.gate.Gate.TheVariants.{Truth, Body, Both, Either, Not}
use Rattle.count_sets.specs.Counting.{Counted, truth, both, either, negation, truth_under}
use Rattle.count_sets.specs.Gates.{gate_meaning, gate_formulas, gate_truth, truths, last_formula, last_truth, IsOver, IsNetwork}
use Rattle.count_sets.specs.Tables.{UnfoldsTo}

pub formulas_push : (gates : List Gate) (g : Gate) → gate_formulas (gates ++ g ∷ []) ≡ gate_formulas gates ++ gate_meaning (gate_formulas gates) g ∷ []
unfolding gate_formulas
formulas_push gates g = fold_push (λ earlier gate. earlier ++ gate_meaning earlier gate ∷ []) [] gates g

length_step : (fs : List Counted) (gates : List Gate) → length (fold (λ earlier gate. earlier ++ gate_meaning earlier gate ∷ []) fs gates) ≡ length fs + length gates
length_step fs [] = omega arith
length_step fs (g ∷ gs) = omega (arith, length_push fs (gate_meaning fs g), length_step (fs ++ gate_meaning fs g ∷ []) gs)

pub length-formulas : (gates : List Gate) → length (gate_formulas gates) ≡ length gates
unfolding gate_formulas
length-formulas gates = omega (arith, length_step [] gates)

-- what stands stays when a gate comes
pub stands_more : (gates : List Gate) (g : Gate) (i : ℕ) (f : Counted) → UnfoldsTo gates i f → UnfoldsTo (gates ++ g ∷ []) i f
stands_more gates g i f s =
    let inside : i < length (gate_formulas gates) = omega (arith, length-formulas gates, s.within) in
    record {
      within = omega (arith, length_push gates g, s.within);
      is = ap (λ fs. get_or fs i (truth false)) (formulas_push gates g)
          ∙ get_or_append_left (gate_formulas gates) (gate_meaning (gate_formulas gates) g ∷ []) (truth false) i inside ∙ s.is;
    }

-- a new gate stands for what its operands stand for
pub stands_new : (gates : List Gate) (g : Gate) → UnfoldsTo (gates ++ g ∷ []) (length gates) (gate_meaning (gate_formulas gates) g)
stands_new gates g = record {
  within = omega (arith, length_push gates g);
  is = ap (λ fs. get_or fs (length gates) (truth false)) (formulas_push gates g)
      ∙ get_or_push (gate_formulas gates) (gate_meaning (gate_formulas gates) g) (truth false) (length gates) (length-formulas gates);
}

pub stands_both : (gates : List Gate) (a b : ℕ) (p q : Counted) → UnfoldsTo gates a p → UnfoldsTo gates b q → UnfoldsTo (gates ++ Both a b ∷ []) (length gates) (both p q)
stands_both gates a b p q s t =
    let fits : gate_meaning (gate_formulas gates) (Both a b) ≡ both p q = cc (s.is, t.is) in
    subst (λ f. UnfoldsTo (gates ++ Both a b ∷ []) (length gates) f) fits (stands_new gates (Both a b))

pub stands_either : (gates : List Gate) (a b : ℕ) (p q : Counted) → UnfoldsTo gates a p → UnfoldsTo gates b q → UnfoldsTo (gates ++ Either a b ∷ []) (length gates) (either p q)
stands_either gates a b p q s t =
    let fits : gate_meaning (gate_formulas gates) (Either a b) ≡ either p q = cc (s.is, t.is) in
    subst (λ f. UnfoldsTo (gates ++ Either a b ∷ []) (length gates) f) fits (stands_new gates (Either a b))

pub stands_not : (gates : List Gate) (a : ℕ) (p : Counted) → UnfoldsTo gates a p → UnfoldsTo (gates ++ Not a ∷ []) (length gates) (negation p)
stands_not gates a p s =
    let fits : gate_meaning (gate_formulas gates) (Not a) ≡ negation p = cc (s.is) in
    subst (λ f. UnfoldsTo (gates ++ Not a ∷ []) (length gates) f) fits (stands_new gates (Not a))

-- the empty network, and a gate more
pub network_nil : (n : ℕ) → IsNetwork n []
network_nil n = record { over = λ i gate e. cc }

over_at : (n : ℕ) (gates : List Gate) (g : Gate) → IsNetwork n gates → IsOver n (length gates) g → (i : ℕ) (gate : Gate) → slice_get (gates ++ g ∷ []) i ≡ Some gate → (i < length gates) → IsOver n i gate
over_at n gates g h new i gate e lt =
    let there : get_or (gates ++ g ∷ []) i gate ≡ gate = get_or_from_slice_get (gates ++ g ∷ []) i gate gate e in
    let left : get_or (gates ++ g ∷ []) i gate ≡ get_or gates i gate = get_or_append_left gates (g ∷ []) gate i lt in
    let found : slice_get gates i ≡ Some (get_or gates i gate) = slice_get-get_or gates i gate lt in
    h.over i gate (cc)

over_end : (n : ℕ) (gates : List Gate) (g : Gate) → IsOver n (length gates) g → (i : ℕ) (gate : Gate) → slice_get (gates ++ g ∷ []) i ≡ Some gate → length gates ≡ i → IsOver n i gate
over_end n gates g new i gate e at =
    let there : get_or (gates ++ g ∷ []) i gate ≡ gate = get_or_from_slice_get (gates ++ g ∷ []) i gate gate e in
    let last : get_or (gates ++ g ∷ []) i gate ≡ g = get_or_push gates g gate i at in
    let same : g ≡ gate = sym last ∙ there in
    subst (λ x. IsOver n i x) same (subst (λ j. IsOver n j g) at new)

pub network_push : (n : ℕ) (gates : List Gate) (g : Gate) → IsNetwork n gates → IsOver n (length gates) g → IsNetwork n (gates ++ g ∷ [])
network_push n gates g h new = record {
  over = λ i gate e.
      let inside : i < length (gates ++ g ∷ []) = slice_get_within (gates ++ g ∷ []) i gate e in
      elim (cases_lt i (length gates)) [
        | inl lt ↦ over_at n gates g h new i gate e lt
        | inr le ↦
            let at : length gates ≡ i = omega (arith, length_push gates g, inside, le) in
            over_end n gates g new i gate e at
      ];
}

-- the last gate's formula
pub last_from_stands : (gates : List Gate) (i : ℕ) (f : Counted) → UnfoldsTo gates i f → i + 1 ≡ length gates → last_formula gates ≡ Some f
last_from_stands gates i f s at =
    let inside : i < length (gate_formulas gates) = omega (arith, length-formulas gates, s.within) in
    let place : length gates - 1 ≡ i = omega arith in
    rw place (slice_get-get_or (gate_formulas gates) i (truth false) inside ∙ ap (λ x. Some x) s.is)

-- truths are the truths of formulas
get_or-truths : (bodies : List Bool) (fs : List Counted) (a : ℕ) → get_or (map (truth_under bodies) fs) a false ≡ truth_under bodies (get_or fs a (truth false))
unfolding truth_under
get_or-truths bodies [] a = refl
get_or-truths bodies (f ∷ fs) zero = refl
get_or-truths bodies (f ∷ fs) (suc a) = get_or-truths bodies fs a

gate_truth-formula : (bodies : List Bool) (fs : List Counted) (g : Gate) → gate_truth bodies (map (truth_under bodies) fs) g ≡ truth_under bodies (gate_meaning fs g)
unfolding truth_under
gate_truth-formula bodies fs (Truth v) = refl
gate_truth-formula bodies fs (Body i) = refl
gate_truth-formula bodies fs (Both a b) = cc (get_or-truths bodies fs a, get_or-truths bodies fs b)
gate_truth-formula bodies fs (Either a b) = cc (get_or-truths bodies fs a, get_or-truths bodies fs b)
gate_truth-formula bodies fs (Not a) = cc (get_or-truths bodies fs a)

truths_step : (bodies : List Bool) (fs : List Counted) (gates : List Gate) → fold (λ earlier gate. earlier ++ gate_truth bodies earlier gate ∷ []) (map (truth_under bodies) fs) gates ≡ map (truth_under bodies) (fold (λ earlier gate. earlier ++ gate_meaning earlier gate ∷ []) fs gates)
truths_step bodies fs [] = refl
truths_step bodies fs (g ∷ gs) =
    let one : map (truth_under bodies) fs ++ gate_truth bodies (map (truth_under bodies) fs) g ∷ [] ≡ map (truth_under bodies) (fs ++ gate_meaning fs g ∷ [])
    = ap (λ v. map (truth_under bodies) fs ++ v ∷ []) (gate_truth-formula bodies fs g) ∙ sym (map_push (truth_under bodies) fs (gate_meaning fs g)) in
    ap (λ vs. fold (λ earlier gate. earlier ++ gate_truth bodies earlier gate ∷ []) vs gs) one
    ∙ truths_step bodies (fs ++ gate_meaning fs g ∷ []) gs

pub truths-formulas : (bodies : List Bool) (gates : List Gate) → truths bodies gates ≡ map (truth_under bodies) (gate_formulas gates)
unfolding truths gate_formulas
truths-formulas bodies gates = truths_step bodies [] gates

-- the last gate is true where its formula is
pub last_truth_from_formula : (bodies : List Bool) (gates : List Gate) (f : Counted) → last_formula gates ≡ Some f → last_truth bodies gates ≡ Some (truth_under bodies f)
last_truth_from_formula bodies gates f h =
    rw (truths-formulas bodies gates, slice_get-map (truth_under bodies) (gate_formulas gates) (length gates - 1), h) refl
