-- No gate of a table stands twice.
use Rattle.std.proofs.Common.{◌≡◌, ◌<◌, ◌≤◌, ◌+◌, ◌-◌, max, min, ℕ, zero, suc, Bool, true, false, List, [], ◌∷◌, ◌++◌, length, get_or, set, Some, sym, ◌∙◌, ap, subst, arith, ◌⊎◌, inl, inr, ◌≢◌}
use Rattle.std.specs.Prelude.{slice_get}
use Rattle.std.proofs.lemmas.List.{length_push, get_or_append_left, get_or_push, get_or-set_same, get_or-set_other}
use Rattle.std.proofs.lemmas.Option.{slice_get_within, slice_get-get_or, get_or_from_slice_get}
use Rattle.std.proofs.lemmas.Bool.{cases_lt}
use Rattle.count_sets.specs.declared.gate.Gate.{Gate}
use Rattle.count_sets.specs.declared.gate.Gate.TheVariants.{Truth, Body, Both, Either, Not}
use Rattle.count_sets.specs.declared.table.Plan.{Plan}
use Rattle.count_sets.specs.Gates.{IsNetwork, IsOver, IsShared}
use Rattle.count_sets.specs.Tables.{GatesRise}
use Rattle.count_sets.proofs.Unfolding.{network_push}
use Rattle.count_sets.proofs.Cells.{Before}

-- a gate of a longer list is an earlier one or the last
pub at_push : (gates : List Gate) (g : Gate) (i : ℕ) (x : Gate) → slice_get (gates ++ g ∷ []) i ≡ Some x
    → ((i < length gates) × (slice_get gates i ≡ Some x)) ⊎ ((i ≡ length gates) × (g ≡ x))
at_push gates g i x e =
    let inside : i < length (gates ++ g ∷ []) = slice_get_within (gates ++ g ∷ []) i x e in
    let there : get_or (gates ++ g ∷ []) i x ≡ x = get_or_from_slice_get (gates ++ g ∷ []) i x x e in
    elim (cases_lt i (length gates)) [
      | inl lt ↦
          let left : get_or (gates ++ g ∷ []) i x ≡ get_or gates i x = get_or_append_left gates (g ∷ []) x i lt in
          let found : slice_get gates i ≡ Some (get_or gates i x) = slice_get-get_or gates i x lt in
          inl (lt, cc)
      | inr le ↦
          let at : length gates ≡ i = omega (arith, length_push gates g, inside, le) in
          let last : get_or (gates ++ g ∷ []) i x ≡ g = get_or_push gates g x i at in
          inr (sym at, sym last ∙ there)
    ]

pub shared_nil : IsShared []
shared_nil = record { once = λ i j gate e f. cc }

pub shared_push : (gates : List Gate) (g : Gate) → IsShared gates → ((i : ℕ) → slice_get gates i ≡ Some g → ⊥) → IsShared (gates ++ g ∷ [])
shared_push gates g h new = record {
  once = λ i j x e f. elim (at_push gates g i x e) [
    | inl p ↦ elim (at_push gates g j x f) [
      | inl q ↦ h.once i j x p.1 q.1
      | inr q ↦ absurd (new i (subst (λ y. slice_get gates i ≡ Some y) (sym q.1) p.1))
    ]
    | inr p ↦ elim (at_push gates g j x f) [
      | inl q ↦ absurd (new j (subst (λ y. slice_get gates j ≡ Some y) (sym p.1) q.1))
      | inr q ↦ p.0 ∙ sym q.0
    ]
  ];
}

-- before cell j of row k + 1, which began at so many gates
pub record Shares (plan : Plan) (k start j : ℕ) (gates : List Gate) (row : List ℕ) (fewer : ℕ) : Type 0 where
  pub shared : IsShared gates
  pub bodies : (i b : ℕ) → slice_get gates i ≡ Some (Body b) → b < k + 1
  pub nots : (i a : ℕ) → slice_get gates i ≡ Some (Not a) → ⊥
  pub done : (i : ℕ) → i + 1 < j → i + 1 ≤ plan.highest → plan.lowest + (k + 1) ≤ i + plan.bodies → get_or row i 0 < get_or row (i + 1) 0
  pub rest : (i : ℕ) → j ≤ i → i + 1 ≤ k → i + 1 ≤ plan.highest → get_or row i 0 < get_or row (i + 1) 0
  pub next : j ≤ k → j ≤ plan.highest → fewer < get_or row j 0
  pub used : (i a b : ℕ) → start ≤ i → slice_get gates i ≡ Some (Both a b) → j ≤ k + 1 → b < fewer

same_body : (k b : ℕ) → Body k ≡ Body b → k ≡ b
same_body k b e = cc

pub shares_begun : (plan : Plan) (k first fewer : ℕ) (gates new : List Gate) (row : List ℕ)
    → GatesRise plan k gates row → plan.lowest ≤ plan.highest → 1 ≤ plan.highest → k < plan.bodies → plan.lowest ≤ plan.bodies
    → first ≡ max ((plan.lowest + k + 1) - plan.bodies) 1 → new ≡ gates ++ Body k ∷ [] → fewer ≡ get_or row (first - 1) 0
    → Shares plan k (length gates) first new row fewer
shares_begun plan k first fewer gates new row s order some next asked e f h =
    let i : ℕ = first - 1 in
    let back : i + 1 ≡ first = omega arith in
    let whole : Shares plan k (length gates) first (gates ++ Body k ∷ []) row fewer = record {
      shared = shared_push gates (Body k) s.shared (λ i e.
          let below : k < k = s.bodies i k e in
          omega arith);
      bodies = λ i b e. elim (at_push gates (Body k) i (Body b) e) [
        | inl p ↦ let below : b < k = s.bodies i b p.1 in omega arith
        | inr p ↦ let same : k ≡ b = same_body k b p.1 in omega arith
      ];
      nots = λ i a e. elim (at_push gates (Body k) i (Not a) e) [
        | inl p ↦ s.nots i a p.1
        | inr p ↦ let two : Body k ≡ Not a = p.1 in cc
      ];
      done = λ i lt le band. absurd (omega arith);
      rest = λ i from le low. s.rising i le low (omega arith);
      next = λ le low.
          let up : get_or row i 0 < get_or row (i + 1) 0 = s.rising i (omega arith) (omega arith) (omega arith) in
          let here : get_or row i 0 < get_or row first 0 = subst (λ x. get_or row i 0 < get_or row x 0) back up in
          subst (λ x. x < get_or row first 0) (sym h) here;
      used = λ i a b from e le. elim (at_push gates (Body k) i (Both a b) e) [
        | inl p ↦ let lt : i < length gates = p.0 in absurd (omega arith)
        | inr p ↦ let two : Body k ≡ Both a b = p.1 in absurd (cc)
      ];
    } in
    subst (λ gs. Shares plan k (length gates) first gs row fewer) (sym f) whole

both_new : (plan : Plan) (k first start with j : ℕ) (gates : List Gate) (row : List ℕ) (fewer : ℕ)
    → Before plan k first start with j gates row fewer → Shares plan k start j gates row fewer
    → with ≡ start → j ≤ k + 1 → (i : ℕ) → slice_get gates i ≡ Some (Both with fewer) → ⊥
both_new plan k first start with j gates row fewer b s at le i e = elim (cases_lt i start) [
  | inl lt ↦
      let over : (with < i) × (fewer < i) = b.filling.formed.over i (Both with fewer) e in
      let below : with < i = over.0 in
      omega arith
  | inr from ↦ let lt : fewer < fewer = s.used i with fewer from e le in omega arith
]

-- a gate over the one before it is new
pub over_last_new : (n : ℕ) (gates : List Gate) → IsNetwork n gates → (g : Gate) → ((i : ℕ) → IsOver n i g → length gates ≤ i) → (i : ℕ) → slice_get gates i ≡ Some g → ⊥
over_last_new n gates h g far i e =
    let inside : i < length gates = slice_get_within gates i g e in
    let from : length gates ≤ i = far i (h.over i g e) in
    omega arith

same_second : (a b c d : ℕ) → Both a b ≡ Both c d → b ≡ d
same_second a b c d e = cc

done_more : (plan : Plan) (k first start with j : ℕ) (gates : List Gate) (row : List ℕ) (fewer : ℕ)
    → Before plan k first start with j gates row fewer → Shares plan k start j gates row fewer → j ≤ plan.highest
    → (i : ℕ) → i + 1 < j + 1 → i + 1 ≤ plan.highest → plan.lowest + (k + 1) ≤ i + plan.bodies
    → get_or (set row j (length gates + 1)) i 0 < get_or (set row j (length gates + 1)) (i + 1) 0
done_more plan k first start with j gates row fewer b s top i lt low band =
    let apart : i ≢ j = omega arith in
    let kept : get_or (set row j (length gates + 1)) i 0 ≡ get_or row i 0 = get_or-set_other row j i (length gates + 1) 0 apart in
    elim (cases_lt (i + 1) j) [
      | inl below ↦
          let other : i + 1 ≢ j = omega arith in
          let also : get_or (set row j (length gates + 1)) (i + 1) 0 ≡ get_or row (i + 1) 0 = get_or-set_other row j (i + 1) (length gates + 1) 0 other in
          let up : get_or row i 0 < get_or row (i + 1) 0 = s.done i below low band in
          omega arith
      | inr above ↦
          let at : j ≡ i + 1 = omega arith in
          let inside : j < length row = omega (arith, b.filling.width) in
          let new : get_or (set row j (length gates + 1)) j 0 ≡ length gates + 1 = get_or-set_same row j (length gates + 1) 0 inside in
          let here : get_or (set row j (length gates + 1)) (i + 1) 0 ≡ length gates + 1 = subst (λ x. get_or (set row j (length gates + 1)) x 0 ≡ length gates + 1) at new in
          let small : get_or row i 0 < length gates = (b.filling.done i (omega arith) (omega arith) band).within in
          omega arith
    ]

pub shares_stepped : (plan : Plan) (k first start with j : ℕ) (gates new : List Gate) (row : List ℕ) (fewer same gate : ℕ)
    → Before plan k first start with j gates row fewer → Shares plan k start j gates row fewer
    → with ≡ start → first ≡ max ((plan.lowest + k + 1) - plan.bodies) 1 → first ≤ j → j < min (k + 1) plan.highest + 1
    → new ≡ gates ++ Both with fewer ∷ [] ++ Either (length gates) same ∷ [] → gate ≡ length gates + 1 → same ≡ get_or row j 0
    → Shares plan k start (j + 1) new (set row j gate) same
shares_stepped plan k first start with j gates new row fewer same gate b s at e from until is number read =
    let mid : List Gate = gates ++ Both with fewer ∷ [] in
    let more : List Gate = mid ++ Either (length gates) same ∷ [] in
    let i : ℕ = j - 1 in
    let back : i + 1 ≡ j = omega arith in
    let size : length mid ≡ length gates + 1 = length_push gates (Both with fewer) in
    let formed : IsNetwork plan.bodies mid = network_push plan.bodies gates (Both with fewer) b.filling.formed (b.last_body.within, (b.one_fewer i back).within) in
    let once : IsShared mid = shared_push gates (Both with fewer) s.shared (both_new plan k first start with j gates row fewer b s at (omega arith)) in
    let whole : Shares plan k start (j + 1) more (set row j (length gates + 1)) same = record {
      shared = shared_push mid (Either (length gates) same) once
          (over_last_new plan.bodies mid formed (Either (length gates) same) (λ i over.
          let lt : length gates < i = over.0 in
          omega arith));
      bodies = λ i x e. elim (at_push mid (Either (length gates) same) i (Body x) e) [
        | inl p ↦ elim (at_push gates (Both with fewer) i (Body x) p.1) [
          | inl q ↦ s.bodies i x q.1
          | inr q ↦ let two : Both with fewer ≡ Body x = q.1 in absurd (cc)
        ]
        | inr p ↦ let two : Either (length gates) same ≡ Body x = p.1 in absurd (cc)
      ];
      nots = λ i x e. elim (at_push mid (Either (length gates) same) i (Not x) e) [
        | inl p ↦ elim (at_push gates (Both with fewer) i (Not x) p.1) [
          | inl q ↦ s.nots i x q.1
          | inr q ↦ let two : Both with fewer ≡ Not x = q.1 in cc
        ]
        | inr p ↦ let two : Either (length gates) same ≡ Not x = p.1 in cc
      ];
      done = done_more plan k first start with j gates row fewer b s (omega arith);
      rest = λ i after le low.
          let apart : i ≢ j = omega arith in
          let other : i + 1 ≢ j = omega arith in
          rw (get_or-set_other row j i (length gates + 1) 0 apart, get_or-set_other row j (i + 1) (length gates + 1) 0 other)
          (s.rest i (omega arith) le low);
      next = λ le low.
          let other : j + 1 ≢ j = omega arith in
          let kept : get_or (set row j (length gates + 1)) (j + 1) 0 ≡ get_or row (j + 1) 0 = get_or-set_other row j (j + 1) (length gates + 1) 0 other in
          let up : get_or row j 0 < get_or row (j + 1) 0 = s.rest j (omega arith) le low in
          omega arith;
      used = λ i x y since e le.
          let up : fewer < get_or row j 0 = s.next (omega arith) (omega arith) in
          elim (at_push mid (Either (length gates) same) i (Both x y) e) [
            | inl p ↦ elim (at_push gates (Both with fewer) i (Both x y) p.1) [
              | inl q ↦ let lt : y < fewer = s.used i x y since q.1 (omega arith) in omega arith
              | inr q ↦ let second : fewer ≡ y = same_second with fewer x y q.1 in omega arith
            ]
            | inr p ↦ let two : Either (length gates) same ≡ Both x y = p.1 in absurd (cc)
          ];
    } in
    subst (λ x. Shares plan k start (j + 1) x (set row j gate) same) (sym is)
    (subst (λ x. Shares plan k start (j + 1) more (set row j x) same) (sym number) whole)

pub shares_ended : (plan : Plan) (k start j : ℕ) (gates : List Gate) (row : List ℕ) (fewer : ℕ)
    → Shares plan k start j gates row fewer → j ≡ min (k + 1) plan.highest + 1 → GatesRise plan (k + 1) gates row
shares_ended plan k start j gates row fewer s at = record {
  shared = s.shared;
  bodies = s.bodies;
  nots = s.nots;
  rising = λ i le low band. s.done i (omega arith) low band;
}

-- one truth, and both truths
pub truth_shared : (v : Bool) → IsShared (Truth v ∷ [])
truth_shared v = shared_push [] (Truth v) shared_nil (λ i e. cc)

two_truths : (i : ℕ) → slice_get (Truth false ∷ []) i ≡ Some (Truth true) → ⊥
two_truths zero e = cc
two_truths (suc i) e = cc

both_shared : IsShared (Truth false ∷ Truth true ∷ [])
both_shared = shared_push (Truth false ∷ []) (Truth true) (truth_shared false) two_truths

no_bodies : (i b : ℕ) → slice_get (Truth false ∷ Truth true ∷ []) i ≡ Some (Body b) → ⊥
no_bodies zero b e = cc
no_bodies (suc zero) b e = cc
no_bodies (suc (suc i)) b e = cc

no_nots : (i a : ℕ) → slice_get (Truth false ∷ Truth true ∷ []) i ≡ Some (Not a) → ⊥
no_nots zero a e = cc
no_nots (suc zero) a e = cc
no_nots (suc (suc i)) a e = cc

pub rising_start : (plan : Plan) (empty one gates : List Gate) (row : List ℕ) → empty ≡ [] → one ≡ empty ++ Truth false ∷ [] → gates ≡ one ++ Truth true ∷ [] → GatesRise plan 0 gates row
rising_start plan empty one gates row z a d =
    let single : one ≡ Truth false ∷ [] = rw z at a in
    let two : gates ≡ Truth false ∷ Truth true ∷ [] = rw single at d in
    subst (λ gs. GatesRise plan 0 gs row) (sym two) (record {
      shared = both_shared;
      bodies = λ i b e. absurd (no_bodies i b e);
      nots = no_nots;
      rising = λ i le low band. absurd (omega arith);
    })

-- after a table, or one truth, the last gates are new
pub alone_shared : (empty gates : List Gate) (v : Bool) → empty ≡ [] → gates ≡ empty ++ Truth v ∷ [] → IsShared gates
alone_shared empty gates v z e =
    let single : gates ≡ Truth v ∷ [] = rw z at e in
    subst (λ gs. IsShared gs) (sym single) (truth_shared v)

no_not_alone : (v : Bool) (i a : ℕ) → slice_get (Truth v ∷ []) i ≡ Some (Not a) → ⊥
no_not_alone v zero a e = cc
no_not_alone v (suc i) a e = cc

pub alone_nots : (empty gates : List Gate) (v : Bool) → empty ≡ [] → gates ≡ empty ++ Truth v ∷ [] → (i a : ℕ) → slice_get gates i ≡ Some (Not a) → ⊥
alone_nots empty gates v z e i a f =
    let single : gates ≡ Truth v ∷ [] = rw z at e in
    no_not_alone v i a (subst (λ gs. slice_get gs i ≡ Some (Not a)) single f)

pub not_shared : (gates new : List Gate) (a : ℕ) → IsShared gates → ((i a : ℕ) → slice_get gates i ≡ Some (Not a) → ⊥) → new ≡ gates ++ Not a ∷ [] → IsShared new
not_shared gates new a h none e = subst (λ gs. IsShared gs) (sym e) (shared_push gates (Not a) h (λ i f. none i a f))

pub last_both_shared : (n : ℕ) (gates mid new : List Gate) (a b c : ℕ) → IsShared gates → ((i a : ℕ) → slice_get gates i ≡ Some (Not a) → ⊥) → IsNetwork n gates → b < length gates
    → mid ≡ gates ++ Not b ∷ [] → c ≡ length gates → new ≡ mid ++ Both a c ∷ [] → IsShared new
last_both_shared n gates mid new a b c h none formed below e at f =
    let once : IsShared mid = not_shared gates mid b h none e in
    let over : IsNetwork n mid = subst (λ gs. IsNetwork n gs) (sym e) (network_push n gates (Not b) formed below) in
    let size : length mid ≡ length gates + 1 = ap (λ gs. length gs) e ∙ length_push gates (Not b) in
    subst (λ gs. IsShared gs) (sym f) (shared_push mid (Both a c) once
    (over_last_new n mid over (Both a c) (λ i both.
    let lt : c < i = both.1 in
    omega arith)))
