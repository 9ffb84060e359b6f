-- The expression of an instruction, over those of the instructions before it.
use Rattle.std.proofs.Common.{◌≡◌, ℕ, ◌+◌, ◌<◌, ◌≤◌, zero, suc, List, [], ◌∷◌, ◌++◌, Option, Some, None, length, take, slice_get, refl, ap, ap₂, sym, ◌∙◌, arith, subst, add-zero, zero-add, true, false, inl, inr, pos, Ok}
use Rattle.std.proofs.lemmas.Bool.{cases_lt}
use Rattle.std.proofs.lemmas.List.{take_at, take-take, length_push, take_all, length-take, get_or_append_left, get_or_push}
use Rattle.std.proofs.lemmas.Option.{slice_get_past}
use Rattle.mltl_base.proofs.Members.{get_after}
use Rattle.mltl_base.specs.declared.interval.Part.TheVariants.{Bz}
use Rattle.mltl_base.specs.declared.operators.BzOp.{BzOp}
use Rattle.mltl_base.specs.declared.operators.BzOp.TheVariants.{Column, IsTrue, Const, Neg, Add, Sub, Mul, Div, Rem, Eq, Lt, Le}
use Rattle.mltl_base.specs.declared.program.Program.{Program}
use Rattle.mltl_base.specs.Ranges.{Range, Ranged, divided, left_over, lessened, multiplied, negated, over, over_both, over_divisor, range, range_from, summed}
use Rattle.obs_verify.specs.declared.fault.VerifyFault.{VerifyFault}
use Rattle.obs_verify.specs.declared.fault.VerifyFault.TheVariants.{Operand}
use Rattle.obs_verify.specs.InstructionRanges.{AreRanges, ReadsBefore, range_at, range_over}
use Rattle.obs_verify.specs.WellFormed.{bz_fault, has_operands, is_whole, is_whole_before, no_range_fault}
use Rattle.obs_verify.proofs.RuleLaws.{and_left, and_right}
use Rattle.mltl_base.specs.Programs.{Expression, expression_of, expressions_after, expressions, term_at, expression_term}

-- the expressions before stay
pub front : (before : List Expression) (ops : List BzOp) → take (length before) (expressions_after before ops) ≡ before
unfolding expressions_after
front before [] = take_all (length before) before (omega arith)
front before (op ∷ ops) =
    let more : List Expression = before ++ expression_of before op ∷ [] in
    let longer : length before ≤ length more = omega (arith, length_push before (expression_of before op)) in
    sym (take-take (length before) (length more) (expressions_after more ops) longer) ∙ ap (take (length before)) (front more ops) ∙ take_at before (expression_of before op ∷ []) (length before) refl

-- a place in the front of a list
pub slice_get-take : {X : Type 0} (n : ℕ) (xs : List X) (i : ℕ) → i < n → slice_get (take n xs) i ≡ slice_get xs i
slice_get-take zero xs i h = absurd (omega arith)
slice_get-take (suc n) (x ∷ xs) (suc i) h = slice_get-take n xs i (omega arith)
slice_get-take _ _ _ h = refl

-- the expression of a further instruction
pub expression_after : (before : List Expression) (ops : List BzOp) (j : ℕ) (op : BzOp) → slice_get ops j ≡ Some op
    → slice_get (expressions_after before ops) (length before + j) ≡ Some (expression_of (take (length before + j) (expressions_after before ops)) op)
unfolding expressions_after
expression_after before [] j op h = absurd (cc)
expression_after before (o ∷ ops) zero op h =
    let more : List Expression = before ++ expression_of before o ∷ [] in
    let all : List Expression = expressions_after more ops in
    let same : o ≡ op = cc in
    let longer : length before < length more = omega (arith, length_push before (expression_of before o)) in
    let here : slice_get all (length before) ≡ Some (expression_of before o) =
    sym (slice_get-take (length more) all (length before) longer) ∙ ap (λ es. slice_get es (length before)) (front more ops) ∙ get_after before [] (expression_of before o) in
    let P : ℕ → Type 0 = λ n. slice_get all n ≡ Some (expression_of (take n all) op) in
    subst P (sym (add-zero (length before)))
    (here ∙ ap (λ es. Some (expression_of es o)) (sym (front before (o ∷ ops))) ∙ ap (λ p. Some (expression_of (take (length before) all) p)) same)
expression_after before (o ∷ ops) (suc j) op h =
    let more : List Expression = before ++ expression_of before o ∷ [] in
    let place : length more + j ≡ length before + suc j = omega (arith, length_push before (expression_of before o)) in
    let P : ℕ → Type 0 = λ n. slice_get (expressions_after more ops) n ≡ Some (expression_of (take n (expressions_after more ops)) op) in
    subst P place (expression_after more ops j op h)

-- the expression of instruction i
pub expression_at : (ops : List BzOp) (i : ℕ) (op : BzOp) → slice_get ops i ≡ Some op → slice_get (expressions ops) i ≡ Some (expression_of (take i (expressions ops)) op)
expression_at ops i op h =
    let P : ℕ → Type 0 = λ n. slice_get (expressions ops) n ≡ Some (expression_of (take n (expressions ops)) op) in
    subst P (zero-add i) (expression_after [] ops i op h)

-- the whole number of an earlier instruction
pub term_at-take : (es : List Expression) (i a : ℕ) → a < i → term_at (take i es) a ≡ term_at es a
term_at-take es i a h = ap expression_term (slice_get-take i es a h)

-- an instruction that gives a whole number is one of those before
pub whole_inside : (program : Program) (i a : ℕ) → is_whole_before program i a ≡ true → a < i
whole_inside program i a h = elim (cases_lt a i) [
  | inl inside ↦ inside
  | inr past ↦ absurd (let none : slice_get (take i program.bz) a ≡ None = slice_get_past (take i program.bz) a (omega (arith, length-take i program.bz)) in
      let never : is_whole_before program i a ≡ false = ap is_whole none in cc)
]

pub reads_before : (program : Program) (i : ℕ) (op : BzOp) → has_operands program i op ≡ true → ReadsBefore i op
reads_before program i (Column c) h = tt
reads_before program i (IsTrue c) h = tt
reads_before program i (Const n) h = tt
reads_before program i (Neg a) h = whole_inside program i a h
reads_before program i _ h = (whole_inside program i _ (and_left _ _ h), whole_inside program i _ (and_right _ _ h))

operand : (bz : List BzOp) (ranges : List Range) (a : ℕ) → AreRanges bz ranges → a < length ranges
    → range_at ranges a ≡ range (term_at (take (length ranges) (expressions bz)) a)
operand bz ranges a known inside = sym (ap range (term_at-take (expressions bz) (length ranges) a inside) ∙ known.each a inside)

-- the range of an instruction over those before is that of its expression
range_of_expression : (bz : List BzOp) (ranges : List Range) (op : BzOp) → AreRanges bz ranges → ReadsBefore (length ranges) op
    → range_over ranges op ≡ range (expression_term (Some (expression_of (take (length ranges) (expressions bz)) op)))
unfolding range
range_of_expression bz ranges (Neg a) known reads = ap (over negated) (operand bz ranges a known reads)
range_of_expression bz ranges (Add a b) known reads = ap₂ (over_both summed) (operand bz ranges a known reads.0) (operand bz ranges b known reads.1)
range_of_expression bz ranges (Sub a b) known reads = ap₂ (over_both lessened) (operand bz ranges a known reads.0) (operand bz ranges b known reads.1)
range_of_expression bz ranges (Mul a b) known reads = ap₂ (over_both multiplied) (operand bz ranges a known reads.0) (operand bz ranges b known reads.1)
range_of_expression bz ranges (Div a b) known reads = ap₂ (over_divisor divided) (operand bz ranges a known reads.0) (operand bz ranges b known reads.1)
range_of_expression bz ranges (Rem a b) known reads = ap₂ (over_divisor left_over) (operand bz ranges a known reads.0) (operand bz ranges b known reads.1)
range_of_expression bz ranges _ known reads = refl

pub range_same : (bz : List BzOp) (ranges : List Range) (op : BzOp) → AreRanges bz ranges → ReadsBefore (length ranges) op → slice_get bz (length ranges) ≡ Some op
    → range_over ranges op ≡ range (term_at (expressions bz) (length ranges))
range_same bz ranges op known reads here =
    range_of_expression bz ranges op known reads ∙ ap (λ e. range (expression_term e)) (sym (expression_at bz (length ranges) op here))

-- one range more
pub ranges_push : (bz : List BzOp) (ranges ranges' : List Range) (r : Range) → ranges' ≡ ranges ++ r ∷ [] → AreRanges bz ranges → range (term_at (expressions bz) (length ranges)) ≡ Ok r → AreRanges bz ranges'
ranges_push bz ranges ranges' r is known here =
    let P : List Range → Type 0 = AreRanges bz in
    subst P (sym is) (record {
      each = λ k inside. elim (cases_lt k (length ranges)) [
        | inl old ↦ known.each k old ∙ sym (ap (λ x. Ok x) (get_or_append_left ranges (r ∷ []) (range_from (pos 0) (pos 0)) k old))
        | inr new ↦ let at : length ranges ≡ k = omega (arith, length_push ranges r) in
            ap (λ n. range (term_at (expressions bz) n)) (sym at) ∙ here ∙ sym (ap (λ x. Ok x) (get_or_push ranges r (range_from (pos 0) (pos 0)) k at))
      ];
    })

pub bz_range : (program : Program) (i : ℕ) (op : BzOp) (ranged : Ranged) → has_operands program i op ≡ true → range (term_at (expressions program.bz) i) ≡ ranged → bz_fault program i op ≡ no_range_fault i ranged
bz_range program i op ranged h k = rw (h, k) refl

-- both, from the range over the ranges before
pub record IsRanged (program : Program) (i : ℕ) (op : BzOp) (ranged : Ranged) : Type 0 where
  pub range_is : range (term_at (expressions program.bz) i) ≡ ranged
  pub fault_is : bz_fault program i op ≡ no_range_fault i ranged

pub op_ranged : (program : Program) (ranges : List Range) (op : BzOp) (ranged : Ranged) → has_operands program (length ranges) op ≡ true → AreRanges program.bz ranges → slice_get program.bz (length ranges) ≡ Some op
    → range_over ranges op ≡ ranged → IsRanged program (length ranges) op ranged
op_ranged program ranges op ranged may known here found =
    let same : range (term_at (expressions program.bz) (length ranges)) ≡ ranged = sym (range_same program.bz ranges op known (reads_before program (length ranges) op may) here) ∙ found in
    record { range_is = same; fault_is = bz_range program (length ranges) op ranged may same }

-- the rule of an instruction whose number is known otherwise
pub bz_rule : (program : Program) (n i : ℕ) (op : BzOp) (found : Option VerifyFault) → n ≡ i → bz_fault program n op ≡ found → bz_fault program i op ≡ found
bz_rule program n i op found same h = subst (λ (m : ℕ). bz_fault program m op ≡ found) same h
