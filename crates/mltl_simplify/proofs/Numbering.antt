-- Numbers of whole numbers without signals and without a fault.

use Rattle.std.proofs.Common.{◌≡◌, ◌≢◌, ℕ, ℤ, pos, neg_ℤ, Bool, true, false, ◌||◌, Option, Some, None, [], refl, sym, subst, ap₂, ◌∙◌, arith}
use Rattle.std.specs.Prelude.{Ok, Err, if◌then◌else◌, FitsSigned}
use Rattle.std.specs.Int.{w64}
use Rattle.std.proofs.lemmas.Int.{ints}
use Rattle.mltl_base.specs.declared.operators.ArithOp as arith
use Rattle.mltl_base.specs.declared.operators.CompareOp as compare
use Rattle.mltl_base.specs.Atoms.{Term, column, constant, negative, plus, minus, times, quotient, remainder, value, holds}
use Rattle.mltl_base.specs.Formula.{Formula, atom}
use Rattle.mltl_base.specs.Ranges.{Range, Ranged, range, negated, summed, lessened, multiplied, divided, left_over, over_divisor, FitsTerm}
use Rattle.mltl_base.proofs.Ranging.{HasRange, value_fits_word, divisor_not_zero}
use Rattle.c2po_ast.specs.Faults.{why_none, term_fault, formula_fault}
use Rattle.c2po_ast.specs.Nodes.{arithmetic, comparison, constant_formula}
use Rattle.c2po_ast.proofs.NoFaults.{neither, over_none, both_none, divisor_none}
use Rattle.mltl_simplify.specs.Numbers.{number_of, computed_number, compared_numbers, numbers_compare, CanDivideBy, IsNegated, IsComputed}
use Rattle.mltl_simplify.specs.Simplify.{reads_signal, has_signal, of_truth, simp}

-- the number is known, where there is no fault
abbrev pub IsKnown : Option ℤ → Term → Type 0
IsKnown x a = term_fault a ≡ None → x ≡ number_of a

ranged : (r : Ranged) → why_none r ≡ None → HasRange r
ranged (Ok r) h = record { the = r; is = refl }
ranged (Err why) h = absurd (cc)

-- no row has no signals that don't fit
fits_none : (a : Term) → FitsTerm [] a
unfolding FitsTerm
fits_none (column c) = (omega (arith, ints))
fits_none (constant n) = tt
fits_none (negative a) = fits_none a
fits_none (plus a b) = (fits_none a, fits_none b)
fits_none (minus a b) = (fits_none a, fits_none b)
fits_none (times a b) = (fits_none a, fits_none b)
fits_none (quotient a b) = (fits_none a, fits_none b)
fits_none (remainder a b) = (fits_none a, fits_none b)

fits : (a : Term) → term_fault a ≡ None → FitsSigned w64 (value a [])
fits a h = let r = ranged (range a) h in value_fits_word [] a r.the (fits_none a) r.is

-- operands of a whole number without a fault have none
operands : (op : arith.ArithOp) (a b : Term) → term_fault (arithmetic op a b) ≡ None → (term_fault a ≡ None) × (term_fault b ≡ None)
unfolding range
operands arith.TheVariants.Add a b h = both_none summed (range a) (range b) h
operands arith.TheVariants.Sub a b h = both_none lessened (range a) (range b) h
operands arith.TheVariants.Mul a b h = both_none multiplied (range a) (range b) h
operands arith.TheVariants.Div a b h = divisor_none divided (range a) (range b) h
operands arith.TheVariants.Rem a b h = divisor_none left_over (range a) (range b) h

-- a divisor isn't 0
by_divisor : (f : Range → ℤ → Range) (a b : Term) → why_none (over_divisor f (range a) (range b)) ≡ None → value b [] ≢ pos 0
by_divisor f a b h =
    let r = ranged (over_divisor f (range a) (range b)) h in
    divisor_not_zero f [] (range a) b r.the (fits_none b) r.is

can_divide : (op : arith.ArithOp) (a b : Term) → term_fault (arithmetic op a b) ≡ None → CanDivideBy op (value b [])
unfolding range
can_divide arith.TheVariants.Div a b h = by_divisor divided a b h
can_divide arith.TheVariants.Rem a b h = by_divisor left_over a b h
can_divide _ a b h = tt

value_by : (op : arith.ArithOp) (a b : Term) → value (arithmetic op a b) [] ≡ computed_number op (value a []) (value b [])
unfolding value
value_by arith.TheVariants.Add a b = refl
value_by _ a b = refl

reads_by : (op : arith.ArithOp) (a b : Term) → reads_signal (arithmetic op a b) ≡ (reads_signal a || reads_signal b)
unfolding reads_signal
reads_by arith.TheVariants.Add a b = refl
reads_by _ a b = refl

-- ---- numbers that are found

pub constant_known : (n : ℤ) → IsKnown (Some n) (constant n)
unfolding reads_signal value
constant_known n h = refl

pub column_known : (s : ℕ) → IsKnown None (column s)
unfolding reads_signal
column_known s h = refl

pub negated_known : (a : Term) (x found : Option ℤ) → IsKnown x a → IsNegated x found → IsKnown found (negative a)
unfolding range value reads_signal
negated_known a x found known is h =
    let none : term_fault a ≡ None = over_none negated (range a) h in
    go (reads_signal a) (subst (λ y. IsNegated y found) (known none) is)
  where
    go : (b : Bool) → IsNegated (if b then None else Some (value a [])) found → found ≡ (if b then None else Some (neg_ℤ (value a [])))
    go true n = n
    go false n = n (fits (negative a) h)

pub computed_known : (op : arith.ArithOp) (a b : Term) (x y found : Option ℤ) → IsKnown x a → IsKnown y b → IsComputed op x y found → IsKnown found (arithmetic op a b)
computed_known op a b x y found known_x known_y is h =
    let none = operands op a b h in
    let word : FitsSigned w64 (computed_number op (value a []) (value b [])) = subst (λ z. FitsSigned w64 z) (value_by op a b) (fits (arithmetic op a b) h) in
    go (reads_signal a) (reads_signal b) (subst (λ v. IsComputed op v (number_of b) found) (known_x none.0) (subst (λ v. IsComputed op x v found) (known_y none.1) is)) word
    ∙ sym (ap₂ (λ t v. if t then None else Some v) (reads_by op a b) (value_by op a b))
  where
    go : (s t : Bool) → IsComputed op (if s then None else Some (value a [])) (if t then None else Some (value b [])) found → FitsSigned w64 (computed_number op (value a []) (value b [])) →
        found ≡ (if s || t then None else Some (computed_number op (value a []) (value b [])))
    go true t n w = n
    go false true n w = n
    go false false n w = n (can_divide op a b h, w)

-- ---- comparisons

has_by : (op : compare.CompareOp) (a b : Term) → has_signal (comparison op a b) ≡ (reads_signal a || reads_signal b)
unfolding has_signal
has_by compare.TheVariants.Eq a b = refl
has_by _ a b = refl

holds_by : (op : compare.CompareOp) (a b : Term) → holds (comparison op a b) [] ≡ numbers_compare op (value a []) (value b [])
unfolding holds
holds_by compare.TheVariants.Eq a b = refl
holds_by _ a b = refl

both_faultless : (op : compare.CompareOp) (a b : Term) → formula_fault (atom (comparison op a b)) ≡ None → (term_fault a ≡ None) × (term_fault b ≡ None)
unfolding formula_fault
both_faultless compare.TheVariants.Eq a b h = neither (term_fault a) (term_fault b) h
both_faultless _ a b h = neither (term_fault a) (term_fault b) h

pub constant_is : (v : Bool) → constant_formula v ≡ of_truth v
constant_is true = refl
constant_is false = refl

-- the formula that a comparison becomes, by what is found of its numbers
abbrev pub by_found : Option Bool → Formula → Formula
by_found (Some v) p = constant_formula v
by_found None p = p

pub compared_simple : (op : compare.CompareOp) (a b : Term) (x y : Option ℤ) → IsKnown x a → IsKnown y b → formula_fault (atom (comparison op a b)) ≡ None →
    by_found (compared_numbers op x y) (atom (comparison op a b)) ≡ simp (atom (comparison op a b))
unfolding simp
compared_simple op a b x y known_x known_y h =
    let none = both_faultless op a b h in
    ap₂ (λ v w. by_found (compared_numbers op v w) (atom (comparison op a b))) (known_x none.0) (known_y none.1)
    ∙ (go (reads_signal a) (reads_signal b)
    ∙ sym (ap₂ (λ t v. if t then atom (comparison op a b) else of_truth v) (has_by op a b) (holds_by op a b)))
  where
    go : (s t : Bool) → by_found (compared_numbers op (if s then None else Some (value a [])) (if t then None else Some (value b []))) (atom (comparison op a b))
        ≡ (if s || t then atom (comparison op a b) else of_truth (numbers_compare op (value a []) (value b [])))
    go true t = refl
    go false true = refl
    go false false = constant_is (numbers_compare op (value a []) (value b []))
