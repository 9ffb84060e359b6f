-- Expressions, kinds and truths of a program whose reads of columns are changed by a function of instructions.
use Rattle.std.proofs.Common.{◌≡◌, ℕ, ◌+◌, ◌<◌, zero, suc, Bool, Option, Some, None, List, [], ◌∷◌, ◌++◌, length, take, map, slice_get, slice_index_or, refl, ap, ap₂, sym, ◌∙◌, arith, add-zero}
use Rattle.std.proofs.lemmas.List.{map_push, take-map}
use Rattle.mltl_base.specs.declared.operators.BzOp.{BzOp}
use Rattle.mltl_base.specs.declared.operators.BzOp.TheVariants.{Column, IsTrue, Const, Neg, Add, Sub, Mul, Div, Rem, Eq, Lt, Le}
use Rattle.mltl_base.specs.declared.program.StoredSignal.{StoredSignal}
use Rattle.mltl_base.specs.Atoms.{Term, column, constant, negative, plus, minus, times, quotient, remainder, Atom, is_true, equal, less, at_most, different, greater, at_least}
use Rattle.mltl_base.specs.Programs.{Expression, whole, truth, expression_of, expressions_after, expressions, term_at}
use Rattle.mltl_base.specs.Ranges.{divided, left_over, lessened, multiplied, negated, over as over_one, over_both, over_divisor, range, summed}
use Rattle.obs_verify.specs.declared.fault.VerifyFault.{VerifyFault}
use Rattle.obs_verify.specs.Bound.{bound_op, moved}
use Rattle.obs_verify.specs.WellFormed.{first_in, is_truth, is_whole, earlier_of}

-- a test of what stands at a place is kept by a map that keeps it of each member
kept_test : {X : Type 0} (test : Option X → Bool) (f : X → X) → ((x : X) → test (Some (f x)) ≡ test (Some x)) → (xs : List X) (i : ℕ) → test (slice_get (map f xs) i) ≡ test (slice_get xs i)
kept_test test f each [] i = refl
kept_test test f each (x ∷ xs) zero = each x
kept_test test f each (x ∷ xs) (suc i) = kept_test test f each xs i

whole_kept : (signals : List StoredSignal) (columns : List ℕ) (op : BzOp) → is_whole (Some (bound_op signals columns op)) ≡ is_whole (Some op)
whole_kept signals columns (Column c) = refl
whole_kept signals columns _ = refl

truth_kept : (signals : List StoredSignal) (columns : List ℕ) (op : BzOp) → is_truth (Some (bound_op signals columns op)) ≡ is_truth (Some op)
truth_kept signals columns (Column c) = refl
truth_kept signals columns _ = refl

pub truth_at_kept : (signals : List StoredSignal) (columns : List ℕ) (ops : List BzOp) (a : ℕ) → is_truth (slice_get (map (bound_op signals columns) ops) a) ≡ is_truth (slice_get ops a)
truth_at_kept signals columns ops a = kept_test is_truth (bound_op signals columns) (truth_kept signals columns) ops a

pub whole_before_kept : (signals : List StoredSignal) (columns : List ℕ) (ops : List BzOp) (i a : ℕ)
    → is_whole (slice_get (take i (map (bound_op signals columns) ops)) a) ≡ is_whole (slice_get (take i ops) a)
whole_before_kept signals columns ops i a =
    ap (λ os. is_whole (slice_get os a)) (take-map (bound_op signals columns) i ops) ∙ kept_test is_whole (bound_op signals columns) (whole_kept signals columns) (take i ops) a

-- an expression over other columns
unfoldable pub over : (ℕ → ℕ) → Term → Term
over g (column c) = column (g c)
over g (constant n) = constant n
over g (negative a) = negative (over g a)
over g (plus a b) = plus (over g a) (over g b)
over g (minus a b) = minus (over g a) (over g b)
over g (times a b) = times (over g a) (over g b)
over g (quotient a b) = quotient (over g a) (over g b)
over g (remainder a b) = remainder (over g a) (over g b)

unfoldable pub atom_over : (ℕ → ℕ) → Atom → Atom
atom_over g (is_true c) = is_true (g c)
atom_over g (equal a b) = equal (over g a) (over g b)
atom_over g (less a b) = less (over g a) (over g b)
atom_over g (at_most a b) = at_most (over g a) (over g b)
atom_over g (different a b) = different (over g a) (over g b)
atom_over g (greater a b) = greater (over g a) (over g b)
atom_over g (at_least a b) = at_least (over g a) (over g b)

unfoldable pub both_over : (ℕ → ℕ) → Expression → Expression
both_over g (whole e) = whole (over g e)
both_over g (truth a) = truth (atom_over g a)

range_over : (g : ℕ → ℕ) (e : Term) → range (over g e) ≡ range e
unfolding range over
range_over g (negative a) = ap (over_one negated) (range_over g a)
range_over g (plus a b) = ap₂ (over_both summed) (range_over g a) (range_over g b)
range_over g (minus a b) = ap₂ (over_both lessened) (range_over g a) (range_over g b)
range_over g (times a b) = ap₂ (over_both multiplied) (range_over g a) (range_over g b)
range_over g (quotient a b) = ap₂ (over_divisor divided) (range_over g a) (range_over g b)
range_over g (remainder a b) = ap₂ (over_divisor left_over) (range_over g a) (range_over g b)
range_over g _ = refl

term_over : (g : ℕ → ℕ) (es : List Expression) (a : ℕ) → term_at (map (both_over g) es) a ≡ over g (term_at es a)
unfolding both_over over
term_over g [] a = refl
term_over g (whole e ∷ es) zero = refl
term_over g (truth t ∷ es) zero = refl
term_over g (e ∷ es) (suc a) = term_over g es a

expression_over : (signals : List StoredSignal) (columns : List ℕ) (before : List Expression) (op : BzOp)
    → expression_of (map (both_over (moved signals columns)) before) (bound_op signals columns op) ≡ both_over (moved signals columns) (expression_of before op)
unfolding both_over over atom_over
expression_over signals columns before (Neg a) = ap (λ x. whole (negative x)) (term_over (moved signals columns) before a)
expression_over signals columns before (Add a b) = let x = term_over (moved signals columns) before a in let y = term_over (moved signals columns) before b in cc
expression_over signals columns before (Sub a b) = let x = term_over (moved signals columns) before a in let y = term_over (moved signals columns) before b in cc
expression_over signals columns before (Mul a b) = let x = term_over (moved signals columns) before a in let y = term_over (moved signals columns) before b in cc
expression_over signals columns before (Div a b) = let x = term_over (moved signals columns) before a in let y = term_over (moved signals columns) before b in cc
expression_over signals columns before (Rem a b) = let x = term_over (moved signals columns) before a in let y = term_over (moved signals columns) before b in cc
expression_over signals columns before (Eq a b) = let x = term_over (moved signals columns) before a in let y = term_over (moved signals columns) before b in cc
expression_over signals columns before (Lt a b) = let x = term_over (moved signals columns) before a in let y = term_over (moved signals columns) before b in cc
expression_over signals columns before (Le a b) = let x = term_over (moved signals columns) before a in let y = term_over (moved signals columns) before b in cc
expression_over signals columns before _ = refl

pub expressions_over : (signals : List StoredSignal) (columns : List ℕ) (before : List Expression) (ops : List BzOp)
    → expressions_after (map (both_over (moved signals columns)) before) (map (bound_op signals columns) ops) ≡ map (both_over (moved signals columns)) (expressions_after before ops)
unfolding expressions_after
expressions_over signals columns before [] = refl
expressions_over signals columns before (op ∷ ops) =
    ap (λ es. expressions_after es (map (bound_op signals columns) ops))
    (ap (λ e. map (both_over (moved signals columns)) before ++ e ∷ []) (expression_over signals columns before op) ∙ sym (map_push (both_over (moved signals columns)) before (expression_of before op)))
    ∙ expressions_over signals columns (before ++ expression_of before op ∷ []) ops

-- ranges stay
pub range_kept : (signals : List StoredSignal) (columns : List ℕ) (ops : List BzOp) (i : ℕ)
    → range (term_at (expressions (map (bound_op signals columns) ops)) i) ≡ range (term_at (expressions ops) i)
range_kept signals columns ops i =
    ap (λ es. range (term_at es i)) (expressions_over signals columns [] ops) ∙ ap range (term_over (moved signals columns) (expressions ops) i) ∙ range_over (moved signals columns) (term_at (expressions ops) i)

-- no fault, where no member has one
pub all_none : {X : Type 0} (rule : ℕ → X → Option VerifyFault) (xs : List X) (k : ℕ) → ((i : ℕ) (d : X) → i < length xs → rule (k + i) (slice_index_or xs i d) ≡ None) → first_in rule k xs ≡ None
unfolding first_in
all_none rule [] k each = refl
all_none rule (x ∷ xs) k each =
    ap (λ o. earlier_of o (first_in rule (suc k) xs)) (ap (λ n. rule n x) (sym (add-zero k)) ∙ each 0 x (omega arith))
    ∙ all_none rule xs (suc k) (λ i d inside. let place : suc k + i ≡ k + suc i = omega arith in ap (λ n. rule n (slice_index_or xs i d)) place ∙ each (suc i) d (omega arith))

-- rules that agree
pub first_same : {X : Type 0} (rule rule' : ℕ → X → Option VerifyFault) → ((i : ℕ) (x : X) → rule i x ≡ rule' i x) → (xs : List X) (k : ℕ) → first_in rule k xs ≡ first_in rule' k xs
unfolding first_in
first_same rule rule' each [] k = refl
first_same rule rule' each (x ∷ xs) k = ap (λ o. earlier_of o (first_in rule (suc k) xs)) (each k x) ∙ ap (earlier_of (rule' k x)) (first_same rule rule' each xs (suc k))
