-- The first row of a table, and the gates after the last one.
use Rattle.std.proofs.Common.{◌≡◌, ◌<◌, ◌≤◌, ◌+◌, min, ℕ, zero, suc, Bool, true, false, List, [], ◌∷◌, ◌++◌, length, get_or, set, replicate, Some, refl, sym, ◌∙◌, ap, subst, arith, ◌≢◌}
use Rattle.std.proofs.lemmas.List.{length_push, length-set, length-replicate, get_or-set_same, get_or-set_other, get_or-replicate, get_or_read}
use Rattle.count_sets.specs.declared.gate.Gate.{Gate}
use Rattle.count_sets.specs.declared.gate.Gate.TheVariants.{Truth, Both, Not}
use Rattle.count_sets.specs.declared.table.Plan.{Plan}
use Rattle.count_sets.specs.Counting.{Counted, truth, both, negation, least}
use Rattle.count_sets.specs.Gates.{last_formula, IsNetwork}
use Rattle.count_sets.specs.Tables.{UnfoldsTo, IsGateRow}
use Rattle.count_sets.proofs.Unfolding.{stands_more, stands_new, stands_both, stands_not, network_nil, network_push, last_from_stands}
use Rattle.count_sets.proofs.Thresholds.{least_none, least_above}

-- the network of one truth
pub truth_stands : (v : Bool) → UnfoldsTo (Truth v ∷ []) 0 (truth v)
truth_stands v = stands_new [] (Truth v)

pub truth_formed : (n : ℕ) (v : Bool) → IsNetwork n (Truth v ∷ [])
truth_formed n v = network_push n [] (Truth v) (network_nil n) tt

no_stands : UnfoldsTo (Truth false ∷ Truth true ∷ []) 0 (truth false)
no_stands = stands_more (Truth false ∷ []) (Truth true) 0 (truth false) (truth_stands false)

yes_stands : UnfoldsTo (Truth false ∷ Truth true ∷ []) 1 (truth true)
yes_stands = stands_new (Truth false ∷ []) (Truth true)

first_cells : (highest j : ℕ) → j ≤ highest → UnfoldsTo (Truth false ∷ Truth true ∷ []) (get_or (set (replicate (highest + 1) 0) 0 1) j 0) (least j 0)
first_cells highest zero le =
    let row : List ℕ = replicate (highest + 1) 0 in
    let size : length row ≡ highest + 1 = length-replicate {A = ℕ} (highest + 1) 0 in
    let inside : 0 < length row = omega arith in
    rw (get_or-set_same {A = ℕ} row 0 1 0 inside, least_none 0) yes_stands
first_cells highest (suc j) le =
    let row : List ℕ = replicate (highest + 1) 0 in
    let apart : suc j ≢ 0 = omega arith in
    let below : suc j < highest + 1 = omega (arith, le) in
    let old : get_or row (suc j) 0 ≡ 0 = get_or-replicate {A = ℕ} (highest + 1) (suc j) 0 0 below in
    let kept : get_or (set row 0 1) (suc j) 0 ≡ 0 = get_or-set_other {A = ℕ} row 0 (suc j) 1 0 apart ∙ old in
    rw (kept, least_above (suc j) 0 (omega arith)) no_stands

first_row : (plan : Plan) → IsGateRow plan 0 (Truth false ∷ Truth true ∷ []) (set (replicate (plan.highest + 1) 0) 0 1)
first_row plan = record {
  width = length-set {A = ℕ} (replicate (plan.highest + 1) 0) 0 1 ∙ length-replicate {A = ℕ} (plan.highest + 1) 0;
  cells = λ j le band. first_cells plan.highest j le;
  formed = network_push plan.bodies (Truth false ∷ []) (Truth true) (truth_formed plan.bodies false) tt;
  size = omega arith;
  last = λ pos. absurd (omega arith);
}

pub started : (plan : Plan) (empty one gates : List Gate) (row : List ℕ) (none whole : ℕ)
    → empty ≡ [] → one ≡ empty ++ Truth false ∷ [] → none ≡ length empty → gates ≡ one ++ Truth true ∷ [] → whole ≡ length one
    → row ≡ replicate (plan.highest + 1) none
    → IsGateRow plan 0 gates (set row 0 whole)
started plan empty one gates row none whole z a b d e f =
    let single : one ≡ Truth false ∷ [] = rw z at a in
    let both_gates : gates ≡ Truth false ∷ Truth true ∷ [] = rw single at d in
    let first : none ≡ 0 = rw z at b in
    let second : whole ≡ 1 = rw single at e in
    let cells : row ≡ replicate (plan.highest + 1) 0 = rw first at f in
    subst (λ gs. IsGateRow plan 0 gs (set row 0 whole)) (sym both_gates)
    (subst (λ y. IsGateRow plan 0 (Truth false ∷ Truth true ∷ []) (set row 0 y)) (sym second)
    (subst (λ r. IsGateRow plan 0 (Truth false ∷ Truth true ∷ []) (set r 0 1)) (sym cells) (first_row plan)))

-- a Not after the gates is the last one
pub not_last : (gates new : List Gate) (a : ℕ) (p : Counted) → UnfoldsTo gates a p → new ≡ gates ++ Not a ∷ [] → last_formula new ≡ Some (negation p)
not_last gates new a p s e =
    subst (λ gs. last_formula gs ≡ Some (negation p)) (sym e)
    (last_from_stands (gates ++ Not a ∷ []) (length gates) (negation p) (stands_not gates a p s) (sym (length_push gates (Not a))))

pub not_formed : (n : ℕ) (gates new : List Gate) (a : ℕ) (p : Counted) → IsNetwork n gates → UnfoldsTo gates a p → new ≡ gates ++ Not a ∷ [] → IsNetwork n new
not_formed n gates new a p h s e = subst (λ gs. IsNetwork n gs) (sym e) (network_push n gates (Not a) h s.within)

-- so is a Both of a gate and of the Not before it
pub both_last : (gates mid new : List Gate) (a b c : ℕ) (p q : Counted) → UnfoldsTo gates a p → UnfoldsTo gates b q
    → mid ≡ gates ++ Not b ∷ [] → c ≡ length gates → new ≡ mid ++ Both a c ∷ []
    → last_formula new ≡ Some (both p (negation q))
both_last gates mid new a b c p q s t e at f =
    let not_stands : UnfoldsTo mid c (negation q) =
    subst (λ gs. UnfoldsTo gs c (negation q)) (sym e) (subst (λ i. UnfoldsTo (gates ++ Not b ∷ []) i (negation q)) (sym at) (stands_not gates b q t)) in
    let kept : UnfoldsTo mid a p = subst (λ gs. UnfoldsTo gs a p) (sym e) (stands_more gates (Not b) a p s) in
    subst (λ gs. last_formula gs ≡ Some (both p (negation q))) (sym f)
    (last_from_stands (mid ++ Both a c ∷ []) (length mid) (both p (negation q)) (stands_both mid a c p (negation q) kept not_stands) (sym (length_push mid (Both a c))))

pub both_formed : (n : ℕ) (gates mid new : List Gate) (a b c : ℕ) (p q : Counted) → IsNetwork n gates → UnfoldsTo gates a p → UnfoldsTo gates b q
    → mid ≡ gates ++ Not b ∷ [] → c ≡ length gates → new ≡ mid ++ Both a c ∷ []
    → IsNetwork n new
both_formed n gates mid new a b c p q h s t e at f =
    let formed : IsNetwork n mid = not_formed n gates mid b q h t e in
    let size : length mid ≡ length gates + 1 = ap (λ gs. length gs) e ∙ length_push gates (Not b) in
    subst (λ gs. IsNetwork n gs) (sym f) (network_push n mid (Both a c) formed (omega (arith, s.within, size), omega (arith, size, at)))

-- the last row ends with its highest cell
pub row_last : (plan : Plan) (n m : ℕ) (gates : List Gate) (row : List ℕ) → IsGateRow plan n gates row → plan.bodies ≡ n → plan.highest ≡ m → plan.lowest ≤ m → 1 ≤ n → m ≤ n → last_formula gates ≡ Some (least m n)
row_last plan n m gates row t e f low pos le =
    let s : UnfoldsTo gates (get_or row m 0) (least m n) = t.cells m (omega arith) (omega arith) in
    let at : min n plan.highest ≡ m = omega arith in
    let last : get_or row m 0 + 1 ≡ length gates = subst (λ x. get_or row x 0 + 1 ≡ length gates) at (t.last (omega arith)) in
    last_from_stands gates (get_or row m 0) (least m n) s last

-- one truth alone: no body is asked for, or more than there are
pub truth_last : (empty gates : List Gate) (v : Bool) (m n : ℕ) → empty ≡ [] → gates ≡ empty ++ Truth v ∷ [] → least m n ≡ truth v → last_formula gates ≡ Some (least m n)
truth_last empty gates v m n z e f =
    let single : gates ≡ Truth v ∷ [] = rw z at e in
    rw f (subst (λ gs. last_formula gs ≡ Some (truth v)) (sym single) (last_from_stands (Truth v ∷ []) 0 (truth v) (truth_stands v) refl))

pub false_stands : (empty gates : List Gate) (none : ℕ) → empty ≡ [] → gates ≡ empty ++ Truth false ∷ [] → none ≡ length empty → UnfoldsTo gates none (truth false)
false_stands empty gates none z e place =
    let single : gates ≡ Truth false ∷ [] = rw z at e in
    let first : none ≡ 0 = rw z at place in
    subst (λ gs. UnfoldsTo gs none (truth false)) (sym single) (subst (λ i. UnfoldsTo (Truth false ∷ []) i (truth false)) (sym first) (truth_stands false))

-- what is read from a row stands
pub cell_stands : (plan : Plan) (n : ℕ) (gates : List Gate) (row : List ℕ) (j x : ℕ) → IsGateRow plan n gates row → j ≤ plan.highest → plan.lowest + n ≤ j + plan.bodies → x ≡ get_or row j x → UnfoldsTo gates x (least j n)
cell_stands plan n gates row j x t le band read =
    let inside : j < length row = omega (arith, t.width) in
    let same : x ≡ get_or row j 0 = get_or_read row j x inside read 0 in
    subst (λ y. UnfoldsTo gates y (least j n)) (sym same) (t.cells j le band)

pub false_formed : (n : ℕ) (empty gates : List Gate) → empty ≡ [] → gates ≡ empty ++ Truth false ∷ [] → IsNetwork n gates
false_formed n empty gates z e =
    let single : gates ≡ Truth false ∷ [] = rw z at e in
    subst (λ gs. IsNetwork n gs) (sym single) (truth_formed n false)
