-- The known verdicts of a tree, by the operator at its top.

use Rattle.std.proofs.Common.{◌≡◌, ℕ, zero, suc, ◌+◌, ◌<◌, ◌≤◌, ◌⊎◌, inl, inr, Bool, true, false, Option, Some, None, List, [], ◌∷◌, ◌++◌, map, take, length, slice_get, IfSome, refl, sym, ap, subst, ◌∙◌, arith, Result, Ok, Err, IfOk, replicate, All, get_or-take, length-take}
use Rattle.std.proofs.lemmas.Bool.{cases_lt}
use Rattle.std.proofs.lemmas.List.{length_push}
use Rattle.mltl_base.specs.declared.interval.Interval.{Interval}
use Rattle.mltl_base.specs.declared.operators.LogicOp as logic_op
use Rattle.mltl_base.specs.declared.operators.WindowOp as window_op
use Rattle.mltl_base.specs.declared.operators.BetweenOp as between_op
use Rattle.mltl_base.specs.Atoms.{Row, Atom, holds}
use Rattle.mltl_base.specs.Formula.{Formula, truth, falsity, atom, negation, conjunction, disjunction, implication, equivalence, finally, globally, until, release, once, historically, since}
use Rattle.mltl_base.specs.Meaning.{sat}
use Rattle.mltl_base.specs.Verdicts.{known_front, kleene_over, verdicts, k_negation}
use Rattle.mltl_base.proofs.Order.{Below}
use Rattle.mltl_base.proofs.Settling.{verdicts_right}
use Rattle.mltl_base.proofs.Unique.{known_only}
use Rattle.mltl_base.proofs.Leaves as leaves
use Rattle.mltl_oracle.specs.declared.formula.Formula.{Formula as Tree}
use Rattle.mltl_oracle.specs.Shapes.{truth_formula, as_formula, logic, window_formula, between}
use Rattle.mltl_oracle.specs.Computing.{k_logic, k_window, k_between, ComputesAll, ComputesAtom}

pub truth_verdicts : (b : Bool) (rows : List Row) → verdicts rows (truth_formula b) ≡ map (λ r. b) rows
truth_verdicts true rows = leaves.truth_verdicts rows
truth_verdicts false rows = leaves.falsity_verdicts rows

pub atom_verdicts : (a : Atom) (rows : List Row) → verdicts rows (atom a) ≡ map (holds a) rows
atom_verdicts a rows = leaves.atom_verdicts rows a

-- the operands are reached through pointers: u and v are what these point to
pub not_verdicts : (p u : Tree) (rows : List Row) (ps : List Bool) → ps ≡ verdicts rows (as_formula u) → u ≡ p →
    verdicts rows (negation (as_formula p)) ≡ known_front (k_negation (slice_get ps)) (length rows)
unfolding verdicts kleene_over
not_verdicts p u rows ps e g = rw (e, g) refl

pub logic_verdicts : (op : logic_op.LogicOp) (p q u v : Tree) (rows : List Row) (ps qs : List Bool) → ps ≡ verdicts rows (as_formula u) → qs ≡ verdicts rows (as_formula v) → u ≡ p → v ≡ q →
    verdicts rows (logic op (as_formula p) (as_formula q)) ≡ known_front (k_logic op (slice_get ps) (slice_get qs)) (length rows)
unfolding verdicts kleene_over
logic_verdicts logic_op.TheVariants.And p q u v rows ps qs e f g h = rw (e, f, g, h) refl
logic_verdicts _ p q u v rows ps qs e f g h = rw (e, f, g, h) refl

pub window_verdicts : (op : window_op.WindowOp) (i : Interval) (p u : Tree) (rows : List Row) (ps : List Bool) → ps ≡ verdicts rows (as_formula u) → u ≡ p →
    verdicts rows (window_formula op i (as_formula p)) ≡ known_front (k_window op i (slice_get ps)) (length rows)
unfolding verdicts kleene_over
window_verdicts window_op.TheVariants.F i p u rows ps e g = rw (e, g) refl
window_verdicts _ i p u rows ps e g = rw (e, g) refl

pub between_verdicts : (op : between_op.BetweenOp) (i : Interval) (p q u v : Tree) (rows : List Row) (ps qs : List Bool) → ps ≡ verdicts rows (as_formula u) → qs ≡ verdicts rows (as_formula v) → u ≡ p → v ≡ q →
    verdicts rows (between op i (as_formula p) (as_formula q)) ≡ known_front (k_between op i (slice_get ps) (slice_get qs)) (length rows)
unfolding verdicts kleene_over
between_verdicts between_op.TheVariants.U i p q u v rows ps qs e f g h = rw (e, f, g, h) refl
between_verdicts between_op.TheVariants.R i p q u v rows ps qs e f g h = rw (e, f, g, h) refl
between_verdicts between_op.TheVariants.S i p q u v rows ps qs e f g h = rw (e, f, g, h) refl

-- a known verdict is the meaning
pub right_value : (rows : List Row) (p : Formula) (t : ℕ) (o : Option Bool) → o ≡ slice_get (verdicts rows p) t → IfSome o (λ v. v ≡ sat rows p t)
right_value rows p t o e = go o (subst (λ (x : Option Bool). Below x (Some (sat rows p t))) (sym e) (verdicts_right rows p t))
  where
    go : (o : Option Bool) → Below o (Some (sat rows p t)) → IfSome o (λ v. v ≡ sat rows p t)
    go None h = tt
    go (Some v) h = cc

-- the values that a loop has found: one at each time before t
pub record FoundUpTo {X : Type 0} (k : ℕ → Option X) (t : ℕ) (vs : List X) : Type 0 where
  pub count : length vs ≡ t
  pub values : (s : ℕ) → s < length vs → k s ≡ slice_get vs s

push_get : {X : Type 0} (vs : List X) (v : X) (s : ℕ) → s < length vs → slice_get (vs ++ v ∷ []) s ≡ slice_get vs s
push_get [] v s l = absurd (omega arith)
push_get (x ∷ vs) v zero l = refl
push_get (x ∷ vs) v (suc s) l = push_get vs v s (omega arith)

push_last : {X : Type 0} (vs : List X) (v : X) (s : ℕ) → s ≡ length vs → slice_get (vs ++ v ∷ []) s ≡ Some v
push_last [] v s e = rw e refl
push_last (x ∷ vs) v zero e = absurd (omega arith)
push_last (x ∷ vs) v (suc s) e = push_last vs v s (omega arith)

pub found_more : {X : Type 0} (k : ℕ → Option X) (t : ℕ) (vs ws : List X) (v : X) → FoundUpTo k t vs → Some v ≡ k t → ws ≡ vs ++ v ∷ [] → FoundUpTo k (t + 1) ws
found_more k t vs ws v h e q =
    rw q (record { count = let c = h.count in let g = length_push vs v in omega arith; values = λ s l. go s l (cases_lt s t) })
  where
    go : (s : ℕ) → s < length (vs ++ v ∷ []) → (s < t) ⊎ (t ≤ s) → k s ≡ slice_get (vs ++ v ∷ []) s
    go s l (inl c) = h.values s (let n = h.count in omega arith) ∙ sym (push_get vs v s (let n = h.count in omega arith))
    go s l (inr c) =
        let n = h.count in
        let m = length_push vs v in
        let d : s ≡ t = omega arith in
        ap k d ∙ (sym e ∙ sym (push_last vs v s (omega arith)))

pub found_end : {X : Type 0} (k : ℕ → Option X) (n t : ℕ) (vs : List X) → FoundUpTo k t vs → n ≡ t → vs ≡ known_front k n
found_end k n t vs h e = known_only k n vs (let c = h.count in omega arith) h.values (λ l. absurd (let c = h.count in omega arith))

pub found_stop : {X : Type 0} (k : ℕ → Option X) (n t : ℕ) (vs : List X) → FoundUpTo k t vs → t < n → None ≡ k t → vs ≡ known_front k n
found_stop k n t vs h l e = known_only k n vs (let c = h.count in omega arith) h.values (λ m. ap k h.count ∙ sym e)

-- an answer that is one list is another that is the same
pub ok_same : {X E : Type 0} (r : Result (List X) E) (x y : List X) → IfOk r (λ vs. vs ≡ x) → y ≡ x → IfOk r (λ vs. vs ≡ y)
ok_same (Ok vs) x y h e = h ∙ sym e
ok_same (Err w) x y h e = tt

-- a truth for each row
pub truth_replicated : (b : Bool) (rows : List Row) → verdicts rows (truth_formula b) ≡ replicate (length rows) b
truth_replicated b rows = truth_verdicts b rows ∙ go rows
  where
    go : (rows : List Row) → map (λ r. b) rows ≡ replicate (length rows) b
    go [] = refl
    go (r ∷ rows) = ap (◌∷◌ b) (go rows)

take_within : {X : Type 0} (n : ℕ) (xs : List X) (k : ℕ) → k < length (take n xs) → k < length xs
take_within n xs k l = let e = length-take n xs in omega arith

take_short : {X : Type 0} (n : ℕ) (xs : List X) (k : ℕ) → k < length (take n xs) → k < n
take_short n xs k l = let e = length-take n xs in omega arith

-- what can be computed on all rows can be on the first of them
all_first : {X : Type 0} (P : X → Type 0) (n : ℕ) (xs : List X) → All P xs → All P (take n xs)
all_first P n xs h k d l =
    let m : k < length xs = take_within n xs k l in
    let e : k < n = take_short n xs k l in
    subst P (sym (get_or-take n xs k d e)) (h k d m)

pub computes_first : (n : ℕ) (rows : List Row) (p : Formula) → ComputesAll rows p → ComputesAll (take n rows) p
computes_first n rows truth h = tt
computes_first n rows falsity h = tt
computes_first n rows (atom a) h = all_first (λ row. ComputesAtom row a) n rows h
computes_first n rows (negation p) h = computes_first n rows p h
computes_first n rows (conjunction p q) h = (computes_first n rows p h.0, computes_first n rows q h.1)
computes_first n rows (disjunction p q) h = (computes_first n rows p h.0, computes_first n rows q h.1)
computes_first n rows (implication p q) h = (computes_first n rows p h.0, computes_first n rows q h.1)
computes_first n rows (equivalence p q) h = (computes_first n rows p h.0, computes_first n rows q h.1)
computes_first n rows (finally i p) h = computes_first n rows p h
computes_first n rows (globally i p) h = computes_first n rows p h
computes_first n rows (until i p q) h = (computes_first n rows p h.0, computes_first n rows q h.1)
computes_first n rows (release i p q) h = (computes_first n rows p h.0, computes_first n rows q h.1)
computes_first n rows (once i p) h = computes_first n rows p h
computes_first n rows (historically i p) h = computes_first n rows p h
computes_first n rows (since i p q) h = (computes_first n rows p h.0, computes_first n rows q h.1)
