-- What a write to the operator's own queue adds to what it has decided so far.
use Rattle.std.proofs.Common.{◌≡◌, ℕ, ◌<◌, ◌≤◌, Bool, List, length, arith, refl, subst, sym, ap, ◌∙◌, inl, inr, Option, Some}
use Rattle.std.specs.Option.{IsSome}
use Rattle.std.proofs.lemmas.Bool.{cases_lt}
use Rattle.mltl_base.specs.Verdicts.{Known}
use Rattle.scq_ring.specs.declared.Ring.{Ring}
use Rattle.scq_ring.specs.declared.Slot.{Slot}
use Rattle.scq_ring.specs.declared.Seen.TheVariants.{Run}
use Rattle.scq_ring.specs.Runs.{Belongs, IsWritten, Shows, frontier_of, low_of, verdict_at}
use Rattle.ft_engine.specs.Decisions.{Shown, GoesOn}

-- the values of the times from `start` to the frontier are known, and the ring has those that it keeps
pub record Told (value : Known) (ring : Ring) (slots : List Slot) (start : ℕ) : Type 0 where
  pub known : (t : ℕ) → start ≤ t → t < frontier_of ring → IsSome (value t)
  pub verdicts : (t : ℕ) → start ≤ t → low_of ring ≤ t → t < frontier_of ring → value t ≡ Some (verdict_at ring slots t)

pub stays : (ring : Ring) (slots : List Slot) → Belongs ring slots → GoesOn ring slots ring slots
stays ring slots belongs = record { belongs = belongs; onward = omega arith; rises = omega arith; bounded = omega arith; kept = λ t from to. refl }

pub goes_further : (a : Ring) (xs : List Slot) (b : Ring) (ys : List Slot) (upto : ℕ) (v : Bool) (c : Ring) (zs : List Slot)
    → GoesOn a xs b ys → IsWritten b ys upto v c zs → frontier_of b ≤ upto → length ys ≡ length xs → GoesOn a xs c zs
goes_further a xs b ys upto v c zs g w ahead same = record {
  belongs = w.belongs;
  onward = omega (arith, g.onward, w.frontier);
  rises = omega (arith, g.rises, w.rises);
  bounded = omega (arith, g.bounded, w.bounded, w.frontier, g.onward);
  kept = λ t from to. w.kept t from (omega (arith, g.onward)) ∙ g.kept t (omega (arith, w.rises)) to;
}

pub tells_more : (value : Known) (start : ℕ) (b : Ring) (ys : List Slot) (upto : ℕ) (v : Bool) (c : Ring) (zs : List Slot)
    → Told value b ys start → IsWritten b ys upto v c zs → ((t : ℕ) → frontier_of b ≤ t → t ≤ upto → value t ≡ Some v) → Told value c zs start
tells_more value start b ys upto v c zs told w new = record {
  known = λ t from to. elim (cases_lt t (frontier_of b)) [
    | inl before ↦ told.known t from before
    | inr after ↦ let now : value t ≡ Some v = new t after (omega (arith, w.frontier)) in let P : Option Bool → Type 0 = λ o. IsSome o in subst P (sym now) refl
  ];
  verdicts = λ t from kept to. elim (cases_lt t (frontier_of b)) [
    | inl before ↦ told.verdicts t from (omega (arith, w.rises)) before ∙ ap (λ (x : Bool). Some x) (sym (w.kept t kept before))
    | inr after ↦ new t after (omega (arith, w.frontier)) ∙ ap (λ (x : Bool). Some x) (sym (w.written t after (omega (arith, w.frontier))))
  ];
}

-- what a read shows is known
pub shown_run : (ring : Ring) (slots : List Slot) (known : Known) (from end : ℕ) (v : Bool) → Shown ring slots known → low_of ring ≤ from → Shows ring slots from (Run end v)
    → (t : ℕ) → from ≤ t → t ≤ end → known t ≡ Some v
shown_run ring slots known from end v shown kept seen t t_from t_to =
    shown.kept t (omega arith) (omega (arith, seen.known)) ∙ ap (λ (x : Bool). Some x) (seen.alike t t_from t_to)
