-- The first fault of a list, found from its start on.
use Rattle.std.proofs.Common.{◌≡◌, ℕ, ◌+◌, ◌<◌, ◌≤◌, Option, Some, None, List, [], ◌∷◌, length, drop, slice_index_or, suc, zero, refl, arith, ap, sym, ◌∙◌, add-one, add-zero, eq-eqb, ◌==◌, inl, inr, Bool, true, false}
use Rattle.std.specs.Prelude.{◌&&◌}
use Rattle.std.proofs.lemmas.Bool.Decides.{eqb_tells}
use Rattle.std.proofs.lemmas.List.{drop_more, drop_all}
use Rattle.obs_verify.specs.declared.fault.VerifyFault.{VerifyFault}
use Rattle.obs_verify.specs.WellFormed.{first_in, earlier_of, unless}

-- neither of two faults
pub or_none : (a b : Option VerifyFault) → earlier_of a b ≡ None → (a ≡ None) × (b ≡ None)
or_none None b h = (refl, h)
or_none (Some fault) b h = absurd (cc)

-- a member without a fault
pub first_more : {X : Type 0} (rule : ℕ → X → Option VerifyFault) (xs : List X) (i : ℕ) (d : X) → i < length xs → rule i (slice_index_or xs i d) ≡ None
    → first_in rule i (drop i xs) ≡ first_in rule (i + 1) (drop (i + 1) xs)
unfolding first_in
first_more rule xs i d inside none = ap (first_in rule i) (drop_more xs i d inside) ∙ ap (λ o. earlier_of o (first_in rule (suc i) (drop (i + 1) xs))) none
    ∙ ap (λ n. first_in rule n (drop (i + 1) xs)) (sym (add-one i))

-- a member with a fault
pub first_here : {X : Type 0} (rule : ℕ → X → Option VerifyFault) (xs : List X) (i : ℕ) (d : X) (fault : VerifyFault) → i < length xs → rule i (slice_index_or xs i d) ≡ Some fault
    → first_in rule i (drop i xs) ≡ Some fault
unfolding first_in
first_here rule xs i d fault inside some = ap (first_in rule i) (drop_more xs i d inside) ∙ ap (λ o. earlier_of o (first_in rule (suc i) (drop (i + 1) xs))) some

-- none is left
pub first_all : {X : Type 0} (rule : ℕ → X → Option VerifyFault) (xs : List X) (i : ℕ) → length xs ≤ i → first_in rule i (drop i xs) ≡ None
unfolding first_in
first_all rule xs i past = ap (first_in rule i) (drop_all i xs past)

-- a test of equality
pub unless_eq : (a b : ℕ) (fault : VerifyFault) → a ≡ b → unless (a == b) fault ≡ None
unless_eq a b fault e = rw (eq-eqb a b e) refl

pub unless_ne : (a b : ℕ) (fault : VerifyFault) → (a ≡ b → ⊥) → unless (a == b) fault ≡ Some fault
unless_ne a b fault differ = elim (eqb_tells a b) [ inl p ↦ absurd (differ p.1) | inr p ↦ rw p.0 refl ]

-- every member is without a fault, where there is none
pub none_of_all : {X : Type 0} (rule : ℕ → X → Option VerifyFault) (xs : List X) (k : ℕ) → first_in rule k xs ≡ None → (i : ℕ) (d : X) → i < length xs → rule (k + i) (slice_index_or xs i d) ≡ None
unfolding first_in
none_of_all rule [] k none i d inside = absurd (omega arith)
none_of_all rule (x ∷ xs) k none zero d inside = ap (λ n. rule n x) (add-zero k) ∙ (or_none (rule k x) (first_in rule (suc k) xs) none).0
none_of_all rule (x ∷ xs) k none (suc i) d inside =
    let place : k + suc i ≡ suc k + i = omega arith in
    ap (λ n. rule n (slice_index_or xs i d)) place ∙ none_of_all rule xs (suc k) (or_none (rule k x) (first_in rule (suc k) xs) none).1 i d (omega arith)

pub and_left : (a b : Bool) → (a && b) ≡ true → a ≡ true
and_left true b h = refl
and_left false b h = h

pub and_right : (a b : Bool) → (a && b) ≡ true → b ≡ true
and_right true b h = h
and_right false b h = cc

-- a test whose fault isn't there
pub unless_true : (test : Bool) (fault : VerifyFault) → unless test fault ≡ None → test ≡ true
unless_true true fault h = refl
unless_true false fault h = absurd (cc)
