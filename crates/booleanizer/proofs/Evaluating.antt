-- The numbers that the Booleanizer computes are those of the expressions of its instructions.
use Rattle.std.proofs.Common.{◌≡◌, ◌≢◌, ℕ, zero, suc, ◌+◌, ◌<◌, ◌≤◌, List, [], ◌∷◌, ◌++◌, length, get_or, set, take, map, Option, Some, None, refl, sym, ap, subst, ◌∙◌, arith}
use Rattle.std.specs.Prelude.{ℤ, pos, slice_get, FitsSigned, neg_ℤ, ◌+ℤ◌, ◌-ℤ◌, ◌*ℤ◌, int_div}
use Rattle.std.specs.Int.{w64}
use Rattle.std.proofs.lemmas.List.{take_more, take_more_set, map-append, length-append, length-take}
use Rattle.std.proofs.lemmas.Option.{same_Some}
use Rattle.mltl_base.specs.declared.operators.BzOp.{BzOp}
use Rattle.mltl_base.specs.declared.operators.BzOp.TheVariants.{Column, IsTrue, Const, Neg, Add, Sub, Mul, Div, Rem, Eq, Lt, Le}
use Rattle.mltl_base.specs.Atoms.{Row, value, holds}
use Rattle.mltl_base.specs.Programs.{Expression, whole, truth, expression_of, expressions_after, expressions, term_at, expression_term}
use Rattle.obs_verify.specs.Soundness.{IsWhole, IsWholeExpression}
use Rattle.booleanizer.specs.Evaluation.{number_on, numbers_on, value_at, Computable, AllCompute, number_at, result_of, CanApply}

-- ---- the expressions of the first instructions

expressions-push : (before : List Expression) (xs : List BzOp) (x : BzOp) → expressions_after before (xs ++ x ∷ []) ≡ expressions_after before xs ++ expression_of (expressions_after before xs) x ∷ []
unfolding expressions_after
expressions-push before [] x = refl
expressions-push before (y ∷ ys) x = expressions-push (before ++ expression_of before y ∷ []) ys x

length-expressions : (before : List Expression) (xs : List BzOp) → length (expressions_after before xs) ≡ length before + length xs
unfolding expressions_after
length-expressions before [] = omega arith
length-expressions before (x ∷ xs) = omega (arith, length-expressions (before ++ expression_of before x ∷ []) xs, length-append before (expression_of before x ∷ []))

can_at-from : (row : Row) (before : List Expression) (ops : List BzOp) (i : ℕ) (op : BzOp) → AllCompute row before ops → i < length ops → op ≡ get_or ops i op → Computable row (expressions_after before (take i ops)) op
unfolding AllCompute expressions_after
can_at-from row before [] i op h lt is = absurd (omega arith)
can_at-from row before (x ∷ xs) zero op h lt is = subst (λ y. Computable row before y) (sym is) h.0
can_at-from row before (x ∷ xs) (suc i) op h lt is = can_at-from row (before ++ expression_of before x ∷ []) xs i op h.1 (omega arith) is

-- instruction i can be computed over the expressions of those before it
pub can_at : (row : Row) (ops : List BzOp) (i : ℕ) (op : BzOp) → AllCompute row [] ops → i < length ops → op ≡ get_or ops i op → Computable row (expressions (take i ops)) op
can_at row ops i op h lt is = can_at-from row [] ops i op h lt is

-- ---- numbers that are those of expressions

-- the first numbers are those of the expressions
pub record Agree (row : Row) (before : List Expression) (numbers : List ℤ) : Type 0 where
  pub same : take (length before) numbers ≡ map (number_on row) before
  pub room : length before ≤ length numbers

read : (row : Row) (before : List Expression) (numbers : List ℤ) (a : ℕ) (e : Expression) → take (length before) numbers ≡ map (number_on row) before → length before ≤ length numbers → slice_get before a ≡ Some e
    → (number_at numbers a ≡ number_on row e) × (a < length numbers)
read row [] numbers a e same room found = absurd cc
read row (x ∷ xs) [] a e same room found = absurd (omega arith)
read row (x ∷ xs) (n ∷ ns) zero e same room found =
    let head : n ≡ number_on row x = cc in
    (head ∙ ap (number_on row) (same_Some x e found), omega arith)
read row (x ∷ xs) (n ∷ ns) (suc a) e same room found =
    let rest : take (length xs) ns ≡ map (number_on row) xs = cc in
    let r = read row xs ns a e rest (omega arith) found in
    (r.0, omega (arith, r.1))

record ReadsWhole (row : Row) (before : List Expression) (numbers : List ℤ) (a : ℕ) : Type 0 where
  is : number_at numbers a ≡ value_at row before a
  lt : a < length numbers

whole-read-of : (row : Row) (before : List Expression) (numbers : List ℤ) (a : ℕ) → Agree row before numbers → (o : Option Expression) → slice_get before a ≡ o → IsWholeExpression o → ReadsWhole row before numbers a
whole-read-of row before numbers a agree None e h = absurd h
whole-read-of row before numbers a agree (Some (truth b)) e h = absurd h
whole-read-of row before numbers a agree (Some (whole t)) e h =
    let r = read row before numbers a (whole t) agree.same agree.room e in
    let term : term_at before a ≡ t = ap expression_term e in
    record { is = r.0 ∙ ap (λ x. value x row) (sym term); lt = r.1 }

whole-read : (row : Row) (before : List Expression) (numbers : List ℤ) (a : ℕ) → Agree row before numbers → IsWhole before a → ReadsWhole row before numbers a
whole-read row before numbers a agree h = whole-read-of row before numbers a agree (slice_get before a) refl h

module _ (row : Row) (before : List Expression) (numbers : List ℤ) (agree : Agree row before numbers) where
  at : (a : ℕ) → IsWhole before a → ReadsWhole row before numbers a
  at a h = whole-read row before numbers a agree h

  both : (a b : ℕ) (f : ℤ → ℤ → ℤ) → IsWhole before a → IsWhole before b → f (number_at numbers a) (number_at numbers b) ≡ f (value_at row before a) (value_at row before b)
  both a b f p q = λ i. f ((at a p).is i) ((at b q).is i)

  fits : (a b : ℕ) (f : ℤ → ℤ → ℤ) → IsWhole before a → IsWhole before b → FitsSigned w64 (f (value_at row before a) (value_at row before b)) → FitsSigned w64 (f (number_at numbers a) (number_at numbers b))
  fits a b f p q h = subst (λ z. FitsSigned w64 z) (sym (both a b f p q)) h

  not-zero : (b : ℕ) → IsWhole before b → value_at row before b ≢ pos 0 → number_at numbers b ≢ pos 0
  not-zero b q h = λ e. h (sym (at b q).is ∙ e)

  pub can_apply : (op : BzOp) → Computable row before op → CanApply row numbers op
  can_apply (Column c) h = h
  can_apply (IsTrue c) h = h
  can_apply (Const n) h = tt
  can_apply (Neg a) h = ((at a h.0).lt, subst (λ z. FitsSigned w64 z) (ap neg_ℤ (sym (at a h.0).is)) h.1)
  can_apply (Add a b) h = (((at a h.0.0).lt, (at b h.0.1).lt), fits a b ◌+ℤ◌ h.0.0 h.0.1 h.1)
  can_apply (Sub a b) h = (((at a h.0.0).lt, (at b h.0.1).lt), fits a b ◌-ℤ◌ h.0.0 h.0.1 h.1)
  can_apply (Mul a b) h = (((at a h.0.0).lt, (at b h.0.1).lt), fits a b ◌*ℤ◌ h.0.0 h.0.1 h.1)
  can_apply (Div a b) h = (((at a h.0.0).lt, (at b h.0.1).lt), not-zero b h.0.1 h.1, fits a b int_div h.0.0 h.0.1 h.2)
  can_apply (Rem a b) h = (((at a h.0.0).lt, (at b h.0.1).lt), not-zero b h.0.1 h.1)
  can_apply (Eq a b) h = ((at a h.0).lt, (at b h.1).lt)
  can_apply (Lt a b) h = ((at a h.0).lt, (at b h.1).lt)
  can_apply (Le a b) h = ((at a h.0).lt, (at b h.1).lt)

  pub result_is : (op : BzOp) → Computable row before op → result_of row numbers op ≡ number_on row (expression_of before op)
  unfolding value holds
  result_is (Neg a) h = rw (at a h.0).is refl
  result_is (Add a b) h = rw ((at a h.0.0).is, (at b h.0.1).is) refl
  result_is (Sub a b) h = rw ((at a h.0.0).is, (at b h.0.1).is) refl
  result_is (Mul a b) h = rw ((at a h.0.0).is, (at b h.0.1).is) refl
  result_is (Div a b) h = rw ((at a h.0.0).is, (at b h.0.1).is) refl
  result_is (Rem a b) h = rw ((at a h.0.0).is, (at b h.0.1).is) refl
  result_is (Eq a b) h = rw ((at a h.0).is, (at b h.1).is) refl
  result_is (Lt a b) h = rw ((at a h.0).is, (at b h.1).is) refl
  result_is (Le a b) h = rw ((at a h.0).is, (at b h.1).is) refl
  result_is _ h = refl

-- ---- the loop

-- the first i numbers are those of the first i instructions
abbrev pub Computed : Row → List BzOp → List ℤ → ℕ → Type 0
Computed row ops numbers i = take i numbers ≡ numbers_on row (take i ops)

length-first : (ops : List BzOp) (i : ℕ) → i ≤ length ops → length (expressions (take i ops)) ≡ i
length-first ops i le = omega (arith, length-expressions [] (take i ops), length-take i ops)

pub agree-at : (row : Row) (ops : List BzOp) (numbers : List ℤ) (i : ℕ) → i ≤ length ops → length numbers ≡ length ops → Computed row ops numbers i → Agree row (expressions (take i ops)) numbers
agree-at row ops numbers i le len done =
    let n = length-first ops i le in
    record { same = ap (λ k. take k numbers) n ∙ done; room = omega (arith, n) }

pub computed-more : (row : Row) (ops : List BzOp) (numbers : List ℤ) (i : ℕ) (op : BzOp) (z : ℤ) → i < length ops → length numbers ≡ length ops → op ≡ get_or ops i op → AllCompute row [] ops
    → z ≡ result_of row numbers op → Computed row ops numbers i → Computed row ops (set numbers i z) (i + 1)
computed-more row ops numbers i op z lt len is can z-is done =
    let before = expressions (take i ops) in
    let here : z ≡ number_on row (expression_of before op) = z-is ∙ result_is row before numbers (agree-at row ops numbers i (omega arith) len done) op (can_at row ops i op can lt is) in
    let first : take (i + 1) ops ≡ take i ops ++ op ∷ [] = rw (take_more ops i op lt, ← is) refl in
    take_more_set numbers i z (omega arith)
    ∙ (λ k. done k ++ here k ∷ [])
    ∙ sym (map-append (number_on row) before (expression_of before op ∷ []))
    ∙ ap (map (number_on row)) (sym (expressions-push [] (take i ops) op))
    ∙ ap (numbers_on row) (sym first)

-- a member of a list, whatever stands for those past its end
pub own-default : {A : Type 0} (xs : List A) (i : ℕ) (d : A) → i < length xs → get_or xs i d ≡ get_or xs i (get_or xs i d)
own-default [] i d lt = absurd (omega arith)
own-default (x ∷ xs) zero d lt = refl
own-default (x ∷ xs) (suc i) d lt = own-default xs i d (omega arith)

-- before the first instruction nothing is computed
pub none-computed : (row : Row) → [] ≡ numbers_on row []
unfolding expressions_after
none-computed row = refl
