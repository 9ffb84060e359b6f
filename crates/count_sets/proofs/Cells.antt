-- A row of the table is made from the one before, a cell at a time.
use Rattle.std.proofs.Common.{◌≡◌, ◌<◌, ◌≤◌, ◌+◌, ◌-◌, ◌*◌, max, min, ℕ, List, [], ◌∷◌, ◌++◌, length, get_or, set, sym, ◌∙◌, subst, arith, inl, inr, ◌≢◌}
use Rattle.std.proofs.lemmas.List.{length_push, length-set, get_or-set_same, get_or-set_other}
use Rattle.std.proofs.lemmas.Bool.{cases_lt}
use Rattle.count_sets.specs.declared.gate.Gate.{Gate}
use Rattle.count_sets.specs.declared.gate.Gate.TheVariants.{Body, Both, Either}
use Rattle.count_sets.specs.declared.table.Plan.{Plan}
use Rattle.count_sets.specs.Counting.{body, both, either, least}
use Rattle.count_sets.specs.Gates.{IsOver, IsNetwork}
use Rattle.count_sets.specs.Tables.{UnfoldsTo, IsGateRow}
use Rattle.count_sets.proofs.Unfolding.{stands_more, stands_new, stands_both, stands_either, network_push}
use Rattle.count_sets.proofs.Thresholds.{least_none, least_above, least_more}

-- the cells before j are those of row k + 1, the others those of row k
pub record Filling (plan : Plan) (k j : ℕ) (gates : List Gate) (row : List ℕ) : Type 0 where
  pub width : length row ≡ plan.highest + 1
  pub done : (i : ℕ) → i < j → i ≤ plan.highest → plan.lowest + (k + 1) ≤ i + plan.bodies → UnfoldsTo gates (get_or row i 0) (least i (k + 1))
  pub rest : (i : ℕ) → j ≤ i → i ≤ plan.highest → plan.lowest + k ≤ i + plan.bodies → UnfoldsTo gates (get_or row i 0) (least i k)
  pub formed : IsNetwork plan.bodies gates

-- the state before cell j, where the row began at cell `first` over so many gates
pub record Before (plan : Plan) (k first start with j : ℕ) (gates : List Gate) (row : List ℕ) (fewer : ℕ) : Type 0 where
  pub filling : Filling plan k j gates row
  pub last_body : UnfoldsTo gates with (body k)
  pub one_fewer : (i : ℕ) → i + 1 ≡ j → UnfoldsTo gates fewer (least i k)
  pub size : length gates + 2 * first ≡ start + 1 + 2 * j
  pub last : (i : ℕ) → first ≤ i → i + 1 ≡ j → get_or row i 0 + 1 ≡ length gates

row_zero : (plan : Plan) (k : ℕ) (gates : List Gate) (row : List ℕ) → IsGateRow plan k gates row → plan.lowest + k ≤ plan.bodies → (i : ℕ) → i ≡ 0 → UnfoldsTo gates (get_or row i 0) (least i (k + 1))
row_zero plan k gates row t h i e =
    let old : UnfoldsTo gates (get_or row 0 0) (least 0 k) = t.cells 0 (omega arith) (omega arith) in
    let same : least 0 k ≡ least 0 (k + 1) = least_none k ∙ sym (least_none (k + 1)) in
    subst (λ x. UnfoldsTo gates (get_or row x 0) (least x (k + 1))) (sym e)
    (subst (λ f. UnfoldsTo gates (get_or row 0 0) f) same old)

filling_start : (plan : Plan) (k first : ℕ) (gates : List Gate) (row : List ℕ) → IsGateRow plan k gates row → first ≡ max ((plan.lowest + k + 1) - plan.bodies) 1 → Filling plan k first gates row
filling_start plan k first gates row t e = record {
  width = t.width;
  done = λ i lt le band.
      let none : i ≡ 0 = omega arith in
      row_zero plan k gates row t (omega arith) i none;
  rest = λ i from le band. t.cells i le band;
  formed = t.formed;
}

filling_more : (plan : Plan) (k j : ℕ) (gates : List Gate) (row : List ℕ) (g : Gate) → Filling plan k j gates row → IsOver plan.bodies (length gates) g → Filling plan k j (gates ++ g ∷ []) row
filling_more plan k j gates row g f over = record {
  width = f.width;
  done = λ i lt le band. stands_more gates g (get_or row i 0) (least i (k + 1)) (f.done i lt le band);
  rest = λ i from le band. stands_more gates g (get_or row i 0) (least i k) (f.rest i from le band);
  formed = network_push plan.bodies gates g f.formed over;
}

set_done : (plan : Plan) (k j : ℕ) (gates : List Gate) (row : List ℕ) (c : ℕ) → Filling plan k j gates row → j ≤ plan.highest → UnfoldsTo gates c (least j (k + 1)) → (i : ℕ) → i < j + 1 → i ≤ plan.highest → plan.lowest + (k + 1) ≤ i + plan.bodies → UnfoldsTo gates (get_or (set row j c) i 0) (least i (k + 1))
set_done plan k j gates row c f le new i lt low band = elim (cases_lt i j) [
  | inl below ↦
      let apart : i ≢ j = omega arith in
      rw (get_or-set_other row j i c 0 apart) (f.done i below low band)
  | inr above ↦
      let at : j ≡ i = omega arith in
      let inside : j < length row = omega (arith, f.width) in
      subst (λ x. UnfoldsTo gates (get_or (set row j c) x 0) (least x (k + 1))) at
      (rw (get_or-set_same row j c 0 inside) new)
]

filling_set : (plan : Plan) (k j : ℕ) (gates : List Gate) (row : List ℕ) (c : ℕ) → Filling plan k j gates row → j ≤ plan.highest → UnfoldsTo gates c (least j (k + 1)) → Filling plan k (j + 1) gates (set row j c)
filling_set plan k j gates row c f le new = record {
  width = omega (arith, length-set row j c, f.width);
  done = set_done plan k j gates row c f le new;
  rest = λ i from low band.
      let apart : i ≢ j = omega arith in
      rw (get_or-set_other row j i c 0 apart) (f.rest i (omega arith) low band);
  formed = f.formed;
}

none_more : (k i : ℕ) → k + 1 < i → least i k ≡ least i (k + 1)
none_more k i h = least_above i k (omega arith) ∙ sym (least_above i (k + 1) h)

-- a row that is filled
filled_cells : (plan : Plan) (k j : ℕ) (gates : List Gate) (row : List ℕ) → Filling plan k j gates row → j ≡ min (k + 1) plan.highest + 1 → (i : ℕ) → i ≤ plan.highest → plan.lowest + (k + 1) ≤ i + plan.bodies → UnfoldsTo gates (get_or row i 0) (least i (k + 1))
filled_cells plan k j gates row f e i low band = elim (cases_lt i j) [
  | inl below ↦ f.done i below low band
  | inr above ↦
      let past : k + 1 < i = omega arith in
      subst (λ x. UnfoldsTo gates (get_or row i 0) x) (none_more k i past) (f.rest i above low (omega arith))
]

-- a body's gate comes, and the row begins
pub begun : (plan : Plan) (k first with fewer : ℕ) (gates new : List Gate) (row : List ℕ)
    → IsGateRow plan k gates row → k < plan.bodies → plan.lowest ≤ plan.bodies → plan.lowest ≤ plan.highest → 1 ≤ plan.highest
    → first ≡ max ((plan.lowest + k + 1) - plan.bodies) 1 → new ≡ gates ++ Body k ∷ [] → with ≡ length gates
    → fewer ≡ get_or row (first - 1) 0
    → Before plan k first (length gates) with first new row fewer
begun plan k first with fewer gates new row t within asked order some e f g h =
    let whole : Before plan k first (length gates) (length gates) first (gates ++ Body k ∷ []) row (get_or row (first - 1) 0) = record {
      filling = filling_more plan k first gates row (Body k) (filling_start plan k first gates row t e) within;
      last_body = stands_new gates (Body k);
      one_fewer = λ i at.
          let back : first - 1 ≡ i = omega arith in
          rw back (stands_more gates (Body k) (get_or row i 0) (least i k) (t.cells i (omega arith) (omega arith)));
      size = omega (arith, length_push gates (Body k));
      last = λ i from at. absurd (omega arith);
    } in
    subst (λ x. Before plan k first (length gates) with first new row x) (sym h)
    (subst (λ x. Before plan k first (length gates) x first new row (get_or row (first - 1) 0)) (sym g)
    (subst (λ x. Before plan k first (length gates) (length gates) first x row (get_or row (first - 1) 0)) (sym f) whole))

next_cell : (k i : ℕ) (gates : List Gate) (w a b : ℕ) → i ≤ k → UnfoldsTo gates w (body k) → UnfoldsTo gates a (least i k) → UnfoldsTo gates b (least (i + 1) k)
    → UnfoldsTo (gates ++ Both w a ∷ [] ++ Either (length gates) b ∷ []) (length gates + 1) (least (i + 1) (k + 1))
next_cell k i gates w a b le s t u =
    let with : UnfoldsTo (gates ++ Both w a ∷ []) (length gates) (both (body k) (least i k)) = stands_both gates w a (body k) (least i k) s t in
    let same : UnfoldsTo (gates ++ Both w a ∷ []) b (least (i + 1) k) = stands_more gates (Both w a) b (least (i + 1) k) u in
    let size : length (gates ++ Both w a ∷ []) ≡ length gates + 1 = length_push gates (Both w a) in
    let new : UnfoldsTo (gates ++ Both w a ∷ [] ++ Either (length gates) b ∷ []) (length (gates ++ Both w a ∷ [])) (either (both (body k) (least i k)) (least (i + 1) k))
    = stands_either (gates ++ Both w a ∷ []) (length gates) b (both (body k) (least i k)) (least (i + 1) k) with same in
    subst (λ f. UnfoldsTo (gates ++ Both w a ∷ [] ++ Either (length gates) b ∷ []) (length gates + 1) f) (sym (least_more i k le))
    (subst (λ n. UnfoldsTo (gates ++ Both w a ∷ [] ++ Either (length gates) b ∷ []) n (either (both (body k) (least i k)) (least (i + 1) k))) size new)

-- two gates stay after what the table has
two_more : (plan : Plan) (k j : ℕ) (gates : List Gate) (row : List ℕ) (w a b : ℕ) → Filling plan k j gates row → w < length gates → a < length gates → b < length gates
    → Filling plan k j (gates ++ Both w a ∷ [] ++ Either (length gates) b ∷ []) row
two_more plan k j gates row w a b f s t u =
    let size : length (gates ++ Both w a ∷ []) ≡ length gates + 1 = length_push gates (Both w a) in
    let one : Filling plan k j (gates ++ Both w a ∷ []) row = filling_more plan k j gates row (Both w a) f (s, t) in
    filling_more plan k j (gates ++ Both w a ∷ []) row (Either (length gates) b) one (omega arith, omega arith)

-- the two gates of cell j come
pub stepped : (plan : Plan) (k first start with j : ℕ) (gates new : List Gate) (row : List ℕ) (fewer same gate : ℕ)
    → Before plan k first start with j gates row fewer
    → first ≡ max ((plan.lowest + k + 1) - plan.bodies) 1 → first ≤ j → j < min (k + 1) plan.highest + 1
    → new ≡ gates ++ Both with fewer ∷ [] ++ Either (length gates) same ∷ [] → gate ≡ length gates + 1 → same ≡ get_or row j 0
    → Before plan k first start with (j + 1) new (set row j gate) same
stepped plan k first start with j gates new row fewer same gate b e from until is number read =
    let more : List Gate = gates ++ Both with fewer ∷ [] ++ Either (length gates) same ∷ [] in
    let i : ℕ = j - 1 in
    let back : i + 1 ≡ j = omega arith in
    let old : UnfoldsTo gates same (least j k) = rw read (b.filling.rest j (omega arith) (omega arith) (omega arith)) in
    let left : UnfoldsTo gates fewer (least i k) = b.one_fewer i back in
    let cell : UnfoldsTo more (length gates + 1) (least j (k + 1)) =
    subst (λ x. UnfoldsTo more (length gates + 1) (least x (k + 1))) back
    (next_cell k i gates with fewer same (omega arith) b.last_body left (subst (λ x. UnfoldsTo gates same (least x k)) (sym back) old)) in
    let size : length more ≡ length gates + 2 = omega (arith, length_push gates (Both with fewer), length_push (gates ++ Both with fewer ∷ []) (Either (length gates) same)) in
    let inside : j < length row = omega (arith, b.filling.width) in
    let whole : Before plan k first start with (j + 1) more (set row j (length gates + 1)) same = record {
      filling = filling_set plan k j more row (length gates + 1) (two_more plan k j gates row with fewer same b.filling b.last_body.within left.within old.within) (omega arith) cell;
      last_body = stands_more (gates ++ Both with fewer ∷ []) (Either (length gates) same) with (body k) (stands_more gates (Both with fewer) with (body k) b.last_body);
      one_fewer = λ h at.
          let here : j ≡ h = omega arith in
          subst (λ x. UnfoldsTo more same (least x k)) here
          (stands_more (gates ++ Both with fewer ∷ []) (Either (length gates) same) same (least j k) (stands_more gates (Both with fewer) same (least j k) old));
      size = omega (arith, size, b.size);
      last = λ h since at.
          let here : j ≡ h = omega arith in
          subst (λ x. get_or (set row j (length gates + 1)) x 0 + 1 ≡ length more) here
          (rw (get_or-set_same row j (length gates + 1) 0 inside) (omega (arith, size)));
    } in
    subst (λ x. Before plan k first start with (j + 1) x (set row j gate) same) (sym is)
    (subst (λ x. Before plan k first start with (j + 1) more (set row j x) same) (sym number) whole)

-- the row is done
pub ended : (plan : Plan) (k first start with j : ℕ) (gates : List Gate) (row : List ℕ) (fewer : ℕ)
    → Before plan k first start with j gates row fewer
    → first ≡ max ((plan.lowest + k + 1) - plan.bodies) 1 → j ≡ min (k + 1) plan.highest + 1
    → k < plan.bodies → plan.lowest ≤ plan.bodies → plan.lowest ≤ plan.highest → 1 ≤ plan.highest
    → start ≤ 2 + k * (1 + 2 * plan.highest)
    → IsGateRow plan (k + 1) gates row
ended plan k first start with j gates row fewer b e at within asked order some small = record {
  width = b.filling.width;
  cells = filled_cells plan k j gates row b.filling at;
  formed = b.filling.formed;
  size = omega (arith, b.size);
  last = λ pos. b.last (min (k + 1) plan.highest) (omega arith) (omega arith);
}
