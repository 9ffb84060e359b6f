-- Rules of simplification by what stands at the head of a formula, or of the node that unfolds to it.

use Rattle.std.proofs.Common.{◌≡◌, ℕ, ◌+◌, ◌≤◌, Bool, true, false, not, Option, Some, None, List, nat_le, refl, sym, subst, ap, ◌∙◌, arith}
use Rattle.std.specs.Prelude.{if◌then◌else◌}
use Rattle.std.proofs.lemmas.Bool.{leb-true}
use Rattle.mltl_base.specs.declared.limits.TheConstants.{MAX_BOUND}
use Rattle.mltl_base.specs.declared.interval.Interval.{Interval}
use Rattle.mltl_base.specs.declared.operators.LogicOp.TheVariants as logic
use Rattle.mltl_base.specs.declared.operators.WindowOp.{WindowOp}
use Rattle.mltl_base.specs.declared.operators.WindowOp.TheVariants as window
use Rattle.mltl_base.specs.declared.operators.BetweenOp.{BetweenOp}
use Rattle.mltl_base.specs.declared.operators.BetweenOp.TheVariants as between
use Rattle.mltl_base.specs.Formula.{Formula, truth, falsity, atom, negation, conjunction, disjunction, implication, equivalence, finally, globally, until, release, once, historically, since}
use Rattle.c2po_ast.specs.declared.nodes.Plain.{Plain}
use Rattle.c2po_ast.specs.declared.nodes.Plain.TheVariants as node
use Rattle.c2po_ast.specs.Nodes.{Tree, formula, node_formula, tree_of, windowed, ranged, constant_formula, IsBounded}
use Rattle.mltl_simplify.specs.Nodes.{KeepsNone, gives_truth, keeps_truth, simple_between, simple_window}
use Rattle.mltl_simplify.specs.Simplify.{if_joined, summed_interval, of_truth, simple_and, simple_equals, simple_finally, simple_globally, simple_historically, simple_implies, simple_not, simple_once, simple_or, as_truth}
use Rattle.mltl_simplify.proofs.Cases.{finally_cases, globally_cases, historically_cases, once_cases, truth_is}

-- ---- the operator at the head of a formula, and of a node

head_of : Formula → Option WindowOp
head_of (finally i p) = Some window.F
head_of (globally i p) = Some window.G
head_of (once i p) = Some window.O
head_of (historically i p) = Some window.H
head_of _ = None

pub node_head : Plain → Option WindowOp
node_head (node.Window op i a) = Some op
node_head _ = None

is_not : Formula → Bool
is_not (negation p) = true
is_not _ = false

node_truth : Plain → Option Bool
node_truth (node.Truth v) = Some v
node_truth _ = None

node_is_not : Plain → Bool
node_is_not (node.Not a) = true
node_is_not _ = false

-- what a node tells of its formula
record Tells (n : Plain) (p : Formula) : Type 0 where
  truth : as_truth p ≡ node_truth n
  window : head_of p ≡ node_head n
  negation : is_not p ≡ node_is_not n

by_same : (n : Plain) (p q : Formula) → ◌≡◌ {A = Tree} (formula p) (formula q) → Tells n p → Tells n q
by_same n p q e h = let same : p ≡ q = cc in subst (λ r. Tells n r) same h

tells : (ts : List Tree) (n : Plain) (p : Formula) → tree_of ts n ≡ formula p → Tells n p
unfolding as_truth head_of node_head is_not node_truth node_is_not
tells ts (node.Truth true) p e = by_same (node.Truth true) truth p e (record { truth = refl; window = refl; negation = refl })
tells ts (node.Truth false) p e = by_same (node.Truth false) falsity p e (record { truth = refl; window = refl; negation = refl })
tells ts (node.Number n) p e = absurd (cc)
tells ts (node.Signal s) p e = absurd (cc)
tells ts (node.Minus a) p e = absurd (cc)
tells ts (node.Arith op a b) p e = absurd (cc)
tells ts (node.Logic logic.And a b) p e = by_same (node.Logic logic.And a b) _ p e (record { truth = refl; window = refl; negation = refl })
tells ts (node.Window window.F i a) p e = by_same (node.Window window.F i a) _ p e (record { truth = refl; window = refl; negation = refl })
tells ts (node.Between between.U i a b) p e = by_same (node.Between between.U i a b) _ p e (record { truth = refl; window = refl; negation = refl })
tells ts x p e = by_same x _ p e (record { truth = refl; window = refl; negation = refl })

-- ---- truths

pub truth_told : (ts : List Tree) (v : Bool) (p : Formula) → tree_of ts (node.Truth v) ≡ formula p → Some v ≡ as_truth p
unfolding node_truth
truth_told ts v p e = sym (tells ts (node.Truth v) p e).truth

no_truth : (n : Plain) → ((v : Bool) → n ≡ node.Truth v → ⊥) → node_truth n ≡ None
unfolding node_truth
no_truth (node.Truth v) h = absurd (h v refl)
no_truth _ h = refl

pub none_told : (ts : List Tree) (n : Plain) (p : Formula) → tree_of ts n ≡ formula p → ((v : Bool) → n ≡ node.Truth v → ⊥) → None ≡ as_truth p
none_told ts n p e h = sym ((tells ts n p e).truth ∙ no_truth n h)

-- ---- negation

pub not_truth : (ts : List Tree) (v : Bool) (p : Formula) → tree_of ts (node.Truth v) ≡ formula p → constant_formula (not v) ≡ simple_not p
unfolding simple_not
not_truth ts true p e = let same : truth ≡ p = cc in ap simple_not same
not_truth ts false p e = let same : falsity ≡ p = cc in ap simple_not same

pub not_not : (ts : List Tree) (z : ℕ) (p : Formula) → tree_of ts (node.Not z) ≡ formula p → node_formula ts z ≡ simple_not p
unfolding simple_not
not_not ts z p e = let same : negation (node_formula ts z) ≡ p = cc in ap simple_not same

other_not : (p : Formula) → as_truth p ≡ None → is_not p ≡ false → negation p ≡ simple_not p
unfolding simple_not as_truth is_not
other_not truth h k = absurd (cc)
other_not falsity h k = absurd (cc)
other_not (negation p) h k = absurd (cc)
other_not _ h k = refl

no_not : (n : Plain) → ((z : ℕ) → n ≡ node.Not z → ⊥) → node_is_not n ≡ false
unfolding node_is_not
no_not (node.Not a) h = absurd (h a refl)
no_not _ h = refl

pub not_other : (ts : List Tree) (n : Plain) (p : Formula) → tree_of ts n ≡ formula p → ((v : Bool) → n ≡ node.Truth v → ⊥) → ((z : ℕ) → n ≡ node.Not z → ⊥) → negation p ≡ simple_not p
not_other ts n p e h k = other_not p ((tells ts n p e).truth ∙ no_truth n h) ((tells ts n p e).negation ∙ no_not n k)

-- ---- operators that look at one time

module _ (p q : Formula) where
  pub false_and : Some false ≡ as_truth p → p ≡ simple_and p q
  false_and h = rw (← h) (truth_is p false (sym h))

  pub true_or : Some true ≡ as_truth p → p ≡ simple_or p q
  true_or h = rw (← h) (truth_is p true (sym h))

  pub false_implies : Some false ≡ as_truth p → truth ≡ simple_implies p q
  false_implies h = rw (← h) refl

  module _ (h : None ≡ as_truth p) where
    pub and_false : Some false ≡ as_truth q → q ≡ simple_and p q
    and_false k = rw (← h, ← k) (truth_is q false (sym k))

    pub or_true : Some true ≡ as_truth q → q ≡ simple_or p q
    or_true k = rw (← h, ← k) (truth_is q true (sym k))

    pub implies_true : Some true ≡ as_truth q → q ≡ simple_implies p q
    implies_true k = rw (← h, ← k) (truth_is q true (sym k))

    module _ (k : None ≡ as_truth q) where
      pub and_stays : conjunction p q ≡ simple_and p q
      and_stays = rw (← h, ← k) refl

      pub or_stays : disjunction p q ≡ simple_or p q
      or_stays = rw (← h, ← k) refl

      pub implies_stays : implication p q ≡ simple_implies p q
      implies_stays = rw (← h, ← k) refl

      pub equals_stays : equivalence p q ≡ simple_equals p q
      equals_stays = rw (← h, ← k) refl

-- ---- temporal operators of one formula

keeps : (op : WindowOp) (i : Interval) (v : Bool) → keeps_truth op v ≡ true → of_truth v ≡ simple_window op i (of_truth v)
unfolding simple_finally simple_globally simple_once simple_historically
keeps window.O i true h = absurd (cc)
keeps window.H i false h = absurd (cc)
keeps window.F i true h = refl
keeps window.G i true h = refl
keeps _ i _ h = refl

pub window_keeps : (op : WindowOp) (i : Interval) (v : Bool) (p : Formula) → Some v ≡ as_truth p → keeps_truth op v ≡ true → p ≡ simple_window op i p
window_keeps op i v p h k = let same : p ≡ of_truth v = truth_is p v (sym h) in subst (λ q. q ≡ simple_window op i q) (sym same) (keeps op i v k)

head_windowed : (op : WindowOp) (i : Interval) (p : Formula) → head_of (windowed op i p) ≡ Some op
unfolding head_of
head_windowed window.F i p = refl
head_windowed _ i p = refl

apart : (op : WindowOp) (i : Interval) (p : Formula) → KeepsNone op (as_truth p) → ((j : Interval) (q : Formula) → p ≡ windowed op j q → ⊥) → windowed op i p ≡ simple_window op i p
unfolding as_truth
apart window.F i p = finally_cases (λ x y. KeepsNone window.F (as_truth x) → ((j : Interval) (q : Formula) → x ≡ finally j q → ⊥) → finally i x ≡ y) i
    (λ k n. absurd (cc)) (λ k n. absurd (cc)) (λ j z l k n. absurd (n j z refl)) (λ x k n. refl) p
apart window.G i p = globally_cases (λ x y. KeepsNone window.G (as_truth x) → ((j : Interval) (q : Formula) → x ≡ globally j q → ⊥) → globally i x ≡ y) i
    (λ k n. absurd (cc)) (λ k n. absurd (cc)) (λ j z l k n. absurd (n j z refl)) (λ x k n. refl) p
apart window.O i p = once_cases (λ x y. KeepsNone window.O (as_truth x) → ((j : Interval) (q : Formula) → x ≡ once j q → ⊥) → once i x ≡ y) i
    (λ k n. absurd (cc)) (λ j z l k n. absurd (n j z refl)) (λ x k n. refl) p
apart window.H i p = historically_cases (λ x y. KeepsNone window.H (as_truth x) → ((j : Interval) (q : Formula) → x ≡ historically j q → ⊥) → historically i x ≡ y) i
    (λ k n. absurd (cc)) (λ j z l k n. absurd (n j z refl)) (λ x k n. refl) p

-- under an operator of another kind a temporal operator stays
pub window_stays : (ts : List Tree) (op : WindowOp) (i : Interval) (n : Plain) (p : Formula) → tree_of ts n ≡ formula p → KeepsNone op (as_truth p) → (node_head n ≡ Some op → ⊥) →
    windowed op i p ≡ simple_window op i p
window_stays ts op i n p e k h =
    apart op i p k (λ j q same. h (sym (tells ts n p e).window ∙ (ap head_of same ∙ head_windowed op j q)))

no_window : (op : WindowOp) (n : Plain) → ((inner : WindowOp) (j : Interval) (z : ℕ) → n ≡ node.Window inner j z → ⊥) → node_head n ≡ Some op → ⊥
unfolding node_head
no_window op (node.Window inner j z) h e = h inner j z refl
no_window op _ h e = cc

pub window_over_none : (ts : List Tree) (op : WindowOp) (i : Interval) (n : Plain) (p : Formula) → tree_of ts n ≡ formula p → KeepsNone op (as_truth p) →
    ((inner : WindowOp) (j : Interval) (z : ℕ) → n ≡ node.Window inner j z → ⊥) → windowed op i p ≡ simple_window op i p
window_over_none ts op i n p e k h = window_stays ts op i n p e k (no_window op n h)

pub window_over_other : (ts : List Tree) (op inner : WindowOp) (i j : Interval) (z : ℕ) (p : Formula) → tree_of ts (node.Window inner j z) ≡ formula p → KeepsNone op (as_truth p) →
    (inner ≡ op → ⊥) → windowed op i p ≡ simple_window op i p
unfolding node_head
window_over_other ts op inner i j z p e k h = window_stays ts op i (node.Window inner j z) p e k (λ same. h (let one : inner ≡ op = cc in one))

over : (op : WindowOp) (i j : Interval) (q : Formula) → simple_window op i (windowed op j q) ≡ if_joined i j (windowed op (summed_interval i j) q) (windowed op i (windowed op j q))
unfolding simple_finally simple_globally simple_once simple_historically
over window.F i j q = refl
over _ i j q = refl

-- what the joined interval tells of the limit
taken : (b : Bool) (whole one : Interval) → Some whole ≡ (if b then Some one else None) → (b ≡ true) × (whole ≡ one)
taken true whole one h = let same : whole ≡ one = cc in (refl, same)
taken false whole one h = absurd (cc)

left : (b : Bool) (one : Interval) → None ≡ (if b then Some one else None) → b ≡ false
left true one h = absurd (cc)
left false one h = refl

same_formula : (p q : Formula) → ◌≡◌ {A = Tree} (formula p) (formula q) → p ≡ q
same_formula p q e = cc

-- two in a row are one, where the limit allows it, and stay else
pub window_joined : (ts : List Tree) (op : WindowOp) (i j whole : Interval) (z : ℕ) (p : Formula) → tree_of ts (node.Window op j z) ≡ formula p →
    Some whole ≡ (if nat_le (i.hi + j.hi) MAX_BOUND then Some (summed_interval i j) else None) → windowed op whole (node_formula ts z) ≡ simple_window op i p
window_joined ts op i j whole z p e h =
    let q : Formula = node_formula ts z in
    let w = taken (nat_le (i.hi + j.hi) MAX_BOUND) whole (summed_interval i j) h in
    let same : windowed op j q ≡ p = same_formula (windowed op j q) p e in
    let one : if_joined i j (windowed op (summed_interval i j) q) (windowed op i (windowed op j q)) ≡ windowed op (summed_interval i j) q =
    ap (λ b. if b then windowed op (summed_interval i j) q else windowed op i (windowed op j q)) w.0 in
    ap (λ k. windowed op k q) w.1 ∙ (sym one ∙ (sym (over op i j q) ∙ ap (simple_window op i) same))

pub window_far : (ts : List Tree) (op : WindowOp) (i j : Interval) (z : ℕ) (p : Formula) → tree_of ts (node.Window op j z) ≡ formula p →
    None ≡ (if nat_le (i.hi + j.hi) MAX_BOUND then Some (summed_interval i j) else None) → windowed op i p ≡ simple_window op i p
window_far ts op i j z p e h =
    let q : Formula = node_formula ts z in
    let w = left (nat_le (i.hi + j.hi) MAX_BOUND) (summed_interval i j) h in
    let same : windowed op j q ≡ p = same_formula (windowed op j q) p e in
    let two : if_joined i j (windowed op (summed_interval i j) q) (windowed op i (windowed op j q)) ≡ windowed op i (windowed op j q) =
    ap (λ b. if b then windowed op (summed_interval i j) q else windowed op i (windowed op j q)) w in
    subst (λ x. windowed op i x ≡ simple_window op i x) same (sym (over op i j q ∙ two))

-- ---- temporal operators between formulas

between_gives_truth : (op : BetweenOp) (i : Interval) (v : Bool) (p : Formula) → gives_truth op v ≡ true → of_truth v ≡ simple_between op i p (of_truth v)
unfolding as_truth
between_gives_truth between.S i true p h = absurd (cc)
between_gives_truth between.U i true p h = refl
between_gives_truth between.R i true p h = refl
between_gives_truth _ i _ p h = refl

pub between_gives : (op : BetweenOp) (i : Interval) (v : Bool) (p q : Formula) → Some v ≡ as_truth q → gives_truth op v ≡ true → q ≡ simple_between op i p q
between_gives op i v p q h k = let same : q ≡ of_truth v = truth_is q v (sym h) in subst (λ r. r ≡ simple_between op i p r) (sym same) (between_gives_truth op i v p k)

pub between_none : (op : BetweenOp) (i : Interval) (p q : Formula) → None ≡ as_truth q → ranged op i p q ≡ simple_between op i p q
between_none between.U i p q h = rw (← h) refl
between_none _ i p q h = rw (← h) refl

pub between_stays : (op : BetweenOp) (i : Interval) (v : Bool) (p q : Formula) → Some v ≡ as_truth q → gives_truth op v ≡ false → ranged op i p q ≡ simple_between op i p q
between_stays between.S i true p q h k = rw (← h) refl
between_stays _ i _ p q h k = absurd (cc)

-- what isn't a truth is none
pub none_left : (o : Option Bool) → ((v : Bool) → o ≡ Some v → ⊥) → None ≡ o
none_left None h = refl
none_left (Some v) h = absurd (h v refl)

pub false_not_true : (b : Bool) → b ≡ false → b ≡ true → ⊥
false_not_true true h k = cc
false_not_true false h k = cc

-- a joined interval is in bounds
pub window_sum : (i j whole : Interval) → IsBounded i → IsBounded j → Some whole ≡ (if nat_le (i.hi + j.hi) MAX_BOUND then Some (summed_interval i j) else None) → IsBounded whole
window_sum i j whole h k e =
    let w = taken (nat_le (i.hi + j.hi) MAX_BOUND) whole (summed_interval i j) e in
    let least : i.hi + j.hi ≤ MAX_BOUND = leb-true _ _ w.0 in
    subst IsBounded (sym w.1) (omega (arith, h.0, k.0), least)
