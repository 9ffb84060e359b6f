-- What each kind of turn finds out about an until.
use Rattle.std.proofs.Common.{◌≡◌, ℕ, ◌+◌, ◌-◌, ◌<◌, ◌≤◌, max, Bool, true, false, arith, subst, sym, ◌∙◌, inl, inr, Option, Some, None}
use Rattle.std.proofs.lemmas.Bool.{cases_lt}
use Rattle.mltl_base.specs.declared.interval.Interval.{Interval}
use Rattle.mltl_base.specs.Kleene.{k_every_in}
use Rattle.mltl_base.specs.Verdicts.{Known, k_until}
use Rattle.ft_engine.specs.Scans.{Scan}
use Rattle.ft_engine.proofs.KleeneLaws.{and_false_left, and_false_right, and_true, and_none_left, and_none_right, and_never_true, and_unknown, before_true, before_false, before_none, way, until_true, until_false, until_none}

-- what is known by time, at a time that is written in another way
at : (p : Known) (v : Option Bool) (x y : ℕ) → x ≡ y → p x ≡ v → p y ≡ v
at p v x y e known = subst (λ (z : ℕ). p z ≡ v) e known

-- the right operand is false all over the window
pub over_false : (i : Interval) (p q : Known) (t reads_at seen : ℕ) → Scan i p q t reads_at seen → (x : ℕ) → t ≤ x → x + i.hi < seen → k_until i p q x ≡ Some false
over_false i p q t reads_at seen s x from to =
    until_false i p q x (λ k lo hi. and_false_left (q (x + k)) (k_every_in i.lo k (λ j. p (x + j))) (s.right (x + k) (omega arith) (omega arith)))

pub over_scan : (i : Interval) (p q : Known) (t reads_at seen : ℕ) → i.lo ≤ i.hi → Scan i p q t reads_at seen → t + i.hi < seen
    → (t' reads_at' : ℕ) → t' ≡ seen - 1 - i.hi + 1 → reads_at' ≡ max reads_at (seen - (i.hi - i.lo)) → Scan i p q t' reads_at' seen
over_scan i p q t reads_at seen ordered s over t' reads_at' t_is place_is = record {
  reach = omega arith;
  order = omega (arith, s.order);
  left = λ k from to. s.left k (omega arith) (omega arith);
  right = λ k from to. s.right k (omega arith) to;
}

-- the right operand holds from the reading time on
pub right_true : (i : Interval) (p q : Known) (t reads_at end : ℕ) → i.lo ≤ i.hi → Scan i p q t reads_at reads_at → reads_at ≤ t + i.hi → reads_at ≤ end
    → ((k : ℕ) → reads_at ≤ k → k ≤ end → q k ≡ Some true) → (x : ℕ) → t ≤ x → x + i.lo ≤ end → k_until i p q x ≡ Some true
right_true i p q t reads_at end ordered s in_window further holds x from to = elim (cases_lt (x + i.lo) reads_at) [
  | inl before ↦
      let same : reads_at ≡ x + (reads_at - x) = omega arith in
      until_true i p q x (reads_at - x) (omega arith) (omega arith) (
      and_true (q (x + (reads_at - x))) _ (at q (Some true) reads_at (x + (reads_at - x)) same (holds reads_at (omega arith) (omega (arith, s.reach))))
      ∙ before_true i p x (reads_at - x) (λ j j_from j_to. s.left (x + j) (omega arith) (omega arith))
      )
  | inr after ↦
      until_true i p q x i.lo (omega arith) ordered (
      and_true (q (x + i.lo)) _ (holds (x + i.lo) after to)
      ∙ before_true i p x i.lo (λ j j_from j_to. absurd (omega arith))
      )
]

-- a scan that begins afresh
pub fresh_scan : (i : Interval) (p q : Known) (t reads_at : ℕ) → t + i.lo ≡ reads_at → Scan i p q t reads_at reads_at
fresh_scan i p q t reads_at e = record {
  reach = omega arith;
  order = omega arith;
  left = λ k from to. absurd (omega arith);
  right = λ k from to. absurd (omega arith);
}

-- the left operand is false from the reading time on, and the right one is false there
pub left_false : (i : Interval) (p q : Known) (t reads_at seen last : ℕ) → Scan i p q t reads_at seen → reads_at ≤ last → last < seen
    → ((k : ℕ) → reads_at ≤ k → k ≤ last → p k ≡ Some false) → (x : ℕ) → t ≤ x → x + i.lo ≤ last → k_until i p q x ≡ Some false
left_false i p q t reads_at seen last s further within fails x from to =
    until_false i p q x (λ k lo hi. elim (cases_lt (x + k) seen) [
      | inl before ↦ and_false_left (q (x + k)) _ (s.right (x + k) (omega arith) before)
      | inr after ↦
          let y : ℕ = max (x + i.lo) reads_at in
          let same : y ≡ x + (y - x) = omega arith in
          and_false_right (q (x + k)) _ (before_false i p x k (y - x) (omega arith) (omega arith) (at p (Some false) y (x + (y - x)) same (fails y (omega arith) (omega arith))))
    ])

pub left_false_scan : (i : Interval) (p q : Known) (t reads_at seen last : ℕ) → Scan i p q t reads_at seen → reads_at ≤ last → last < seen
    → (t' : ℕ) → t' ≡ last - i.lo + 1 → Scan i p q t' (last + 1) seen
left_false_scan i p q t reads_at seen last s further within t' t_is = record {
  reach = omega (arith, s.reach);
  order = omega arith;
  left = λ k from to. absurd (omega (arith, s.reach));
  right = λ k from to. s.right k (omega (arith, s.reach)) to;
}

-- the right operand is unknown from the reading time on
pub right_unknown : (i : Interval) (p q : Known) (t reads_at : ℕ) → Scan i p q t reads_at reads_at → reads_at ≤ t + i.hi
    → ((k : ℕ) → reads_at ≤ k → q k ≡ None) → k_until i p q t ≡ None
right_unknown i p q t reads_at s in_window unknown =
    let reach = s.reach in
    let same : reads_at ≡ t + (reads_at - t) = omega arith in
    until_none i p q t (reads_at - t) (omega arith) (omega arith)
    (and_none_left (q (t + (reads_at - t))) _ (unknown (t + (reads_at - t)) (omega arith))
    (λ e. let holds : k_every_in i.lo (reads_at - t) (λ j. p (t + j)) ≡ Some true = before_true i p t (reads_at - t) (λ j from to. s.left (t + j) (omega arith) (omega arith)) in cc))
    (λ k lo hi e. elim (cases_lt (t + k) reads_at) [
      | inl before ↦ let fails : way i p q t k ≡ Some false = and_false_left (q (t + k)) _ (s.right (t + k) (omega arith) before) in cc
      | inr after ↦ and_unknown (q (t + k)) _ (unknown (t + k) after) e
    ])

-- the left operand is unknown from the reading time on, and the right one isn't false at the second reading time
pub left_unknown : (i : Interval) (p q : Known) (t reads_at seen : ℕ) → Scan i p q t reads_at seen → reads_at < seen → seen ≤ t + i.hi
    → ((k : ℕ) → reads_at ≤ k → p k ≡ None) → (q seen ≡ Some false → ⊥) → k_until i p q t ≡ None
left_unknown i p q t reads_at seen s before in_window unknown live =
    let reach = s.reach in
    let none_from : (k : ℕ) → seen ≤ t + k → k_every_in i.lo k (λ j. p (t + j)) ≡ None =
    λ k past. before_none i p t k (reads_at - t) (omega arith) (omega arith) (unknown (t + (reads_at - t)) (omega arith)) (λ m from to e. elim (cases_lt (t + m) reads_at) [
      | inl earlier ↦ let holds : p (t + m) ≡ Some true = s.left (t + m) (omega arith) earlier in cc
      | inr later ↦ let none : p (t + m) ≡ None = unknown (t + m) later in cc
    ]) in
    let same : seen ≡ t + (seen - t) = omega arith in
    until_none i p q t (seen - t) (omega arith) (omega arith)
    (and_none_right (q (t + (seen - t))) _ (λ e. live (at q (Some false) (t + (seen - t)) seen (sym same) e)) (none_from (seen - t) (omega arith)))
    (λ k lo hi e. elim (cases_lt (t + k) seen) [
      | inl earlier ↦ let fails : way i p q t k ≡ Some false = and_false_left (q (t + k)) _ (s.right (t + k) (omega arith) earlier) in cc
      | inr later ↦ and_never_true (q (t + k)) _ (λ f. let none : k_every_in i.lo k (λ j. p (t + j)) ≡ None = none_from k later in cc) e
    ])

-- the second reading time is let go
pub nearer_scan : (i : Interval) (p q : Known) (t reads_at seen : ℕ) → Scan i p q t reads_at seen → Scan i p q t reads_at reads_at
nearer_scan i p q t reads_at seen s = record {
  reach = s.reach;
  order = omega arith;
  left = s.left;
  right = λ k from to. s.right k from (omega (arith, s.order));
}
