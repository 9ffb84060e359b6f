-- What a queue that goes on has of the verdicts that are known after a row.
use Rattle.std.proofs.Common.{◌≡◌, ℕ, zero, suc, ◌+◌, ◌<◌, ◌≤◌, Bool, true, false, if◌then◌else◌, nat_lt, List, [], ◌∷◌, length, get_or, arith, refl, subst, sym, ap, ◌∙◌, inl, inr, Option, Some, None}
use Rattle.std.specs.Option.{IsSome}
use Rattle.std.specs.List.{slice_get}
use Rattle.std.proofs.lemmas.Bool.{cases_lt}
use Rattle.std.proofs.lemmas.Bool.Decides.{nat_tests}
use Rattle.std.proofs.lemmas.Option.{slice_get_past, slice_get_within, slice_get-get_or}
use Rattle.mltl_base.specs.declared.interval.Interval.{Interval}
use Rattle.mltl_base.specs.Verdicts.{Known, IsLongestKnown}
use Rattle.scq_ring.specs.declared.Ring.{Ring}
use Rattle.scq_ring.specs.declared.Slot.{Slot}
use Rattle.scq_ring.specs.Runs.{Belongs, IsWritten, frontier_of, verdict_at}
use Rattle.ft_engine.specs.Decisions.{Shown, GoesOn, Decides}
use Rattle.ft_engine.specs.Scans.{Scan}
use Rattle.ft_engine.specs.Tables.{Extends, HasVerdicts, VerdictTable}
use Rattle.ft_engine.proofs.Going.{goes_further, stays}

-- what isn't known at an index is no value
none_is_no_value : (o : Option Bool) → o ≡ None → IsSome o → ⊥
none_is_no_value None e h = cc
none_is_no_value (Some v) e h = cc

-- an index within a list has a verdict
known_within : (vs : List Bool) (t : ℕ) → t < length vs → IsSome (slice_get vs t)
known_within [] t h = absurd (omega arith)
known_within (v ∷ vs) zero h = refl
known_within (v ∷ vs) (suc t) h = known_within vs t (omega arith)

-- verdicts that a queue has are shown by it
pub shown_list : (ring : Ring) (slots : List Slot) (vs : List Bool) → HasVerdicts ring slots vs → Shown ring slots (slice_get vs)
shown_list ring slots vs has = record { kept = has.kept; ends = λ t from. slice_get_past vs t (omega (arith, has.count)) }

-- an operand is shown
pub shown_operand : (ring ring' : Ring) (slots slots' : List Slot) (vs : List Bool) → ring' ≡ ring → slots' ≡ slots → HasVerdicts ring slots vs → Shown ring' slots' (slice_get vs)
shown_operand ring ring' slots slots' vs e f has =
    subst (λ (r : Ring). Shown r slots' (slice_get vs)) (sym e) (subst (λ (xs : List Slot). Shown ring xs (slice_get vs)) (sym f) (shown_list ring slots vs has))

module _ (old : Ring) (old_slots : List Slot) (old_vs : List Bool) (ring : Ring) (slots : List Slot) (vs : List Bool) (value : Known) (n : ℕ)
    (longest : IsLongestKnown value n vs) (extends : (t : ℕ) (v : Bool) → slice_get old_vs t ≡ Some v → slice_get vs t ≡ Some v)
    (has : HasVerdicts old old_slots old_vs) (on : GoesOn old old_slots ring slots) (decides : Decides value ring slots (frontier_of old)) (in_time : frontier_of ring ≤ n) where
  -- what was known before is known
  old_known : (t : ℕ) → t < frontier_of old → t < length vs
  old_known t h = slice_get_within vs t (get_or old_vs t false) (extends t (get_or old_vs t false) (slice_get-get_or old_vs t false (omega (arith, has.count))))

  value_known : (t : ℕ) → t < frontier_of ring → IsSome (value t)
  value_known t h = elim (cases_lt t (frontier_of old)) [
    | inl before ↦ let P : Option Bool → Type 0 = λ o. IsSome o in subst P (sym (longest.values t (old_known t before))) (known_within vs t (old_known t before))
    | inr after ↦ decides.known t after h
  ]

  -- there are as many verdicts as times before the frontier
  not_fewer : frontier_of ring ≤ length vs
  not_fewer = elim (cases_lt (length vs) (frontier_of ring)) [
    | inl fewer ↦ absurd (none_is_no_value (value (length vs)) (longest.longest (omega arith)) (value_known (length vs) fewer))
    | inr enough ↦ enough
  ]

  not_more : length vs ≤ frontier_of ring
  not_more = elim (cases_lt (frontier_of ring) (length vs)) [
    | inl more ↦ absurd (none_is_no_value (slice_get vs (frontier_of ring)) (sym (longest.values (frontier_of ring) more) ∙ decides.stuck) (known_within vs (frontier_of ring) more))
    | inr enough ↦ enough
  ]

  pub settled : HasVerdicts ring slots vs
  settled = record {
    count = omega (arith, not_fewer, not_more);
    kept = λ t from h. elim (cases_lt t (frontier_of old)) [
      | inl before ↦
          extends t (verdict_at old old_slots t) (has.kept t (omega (arith, on.rises)) before) ∙ ap (λ (v : Bool). Some v) (sym (on.kept t from before))
      | inr after ↦ sym (longest.values t (omega (arith, not_fewer))) ∙ decides.verdicts t after from h
    ];
  }

-- a choice by time, before the end and at it
before_end : {X : Type 0} (t n : ℕ) (x y : X) → t < n → (if nat_lt t n then x else y) ≡ x
before_end t n x y h = grind (arith, nat_tests)

at_end : {X : Type 0} (n : ℕ) (x y : X) → (if nat_lt n n then x else y) ≡ y
at_end n x y = grind (arith, nat_tests)

-- an instruction whose value is known for each time at which a row was taken has written that of the last row
pub settled_at_once : (old : Ring) (old_slots : List Slot) (old_vs : List Bool) (ring : Ring) (slots : List Slot) (vs : List Bool) (values : ℕ → Bool) (n upto : ℕ) (v : Bool)
    → IsLongestKnown (λ t. if nat_lt t (n + 1) then Some (values t) else None) (n + 1) vs → ((t : ℕ) (v : Bool) → slice_get old_vs t ≡ Some v → slice_get vs t ≡ Some v)
    → HasVerdicts old old_slots old_vs → Belongs old old_slots → IsWritten old old_slots upto v ring slots → upto ≡ n → frontier_of old ≡ n → values n ≡ v → HasVerdicts ring slots vs
settled_at_once old old_slots old_vs ring slots vs values n upto v longest extends has belongs w last level here =
    let value : Known = λ t. if nat_lt t (n + 1) then Some (values t) else None in
    let known : value n ≡ Some v = before_end n (n + 1) (Some (values n)) None (omega arith) ∙ ap (λ (b : Bool). Some b) here in
    let P : Option Bool → Type 0 = λ o. IsSome o in
    let ends : frontier_of ring ≡ n + 1 = omega (arith, w.frontier) in
    settled old old_slots old_vs ring slots vs value (n + 1) longest extends has
    (goes_further old old_slots old old_slots upto v ring slots (stays old old_slots belongs) w (omega arith) refl)
    (record {
      known = λ t from to. let now : n ≡ t = omega arith in subst (λ (m : ℕ). IsSome (value m)) now (subst P (sym known) refl);
      verdicts = λ t from kept to.
          let now : n ≡ t = omega arith in
          subst (λ (m : ℕ). value m ≡ Some (verdict_at ring slots m)) now (known ∙ ap (λ (b : Bool). Some b) (sym (w.written n (omega arith) (omega arith))));
      stuck = subst (λ (m : ℕ). value m ≡ None) (sym ends) (at_end (n + 1) (Some (values (n + 1))) None);
    })
    (omega arith)

-- a scan over what was known is one over what is known
pub scan_kept : (i : Interval) (old new : VerdictTable) (l r t reads_at : ℕ) → Extends old new → Scan i (slice_get (old l)) (slice_get (old r)) t reads_at reads_at → Scan i (slice_get (new l)) (slice_get (new r)) t reads_at reads_at
scan_kept i old new l r t reads_at extends s = record {
  reach = s.reach;
  order = s.order;
  left = λ k from to. extends.each l k true (s.left k from to);
  right = λ k from to. extends.each r k false (s.right k from to);
}
