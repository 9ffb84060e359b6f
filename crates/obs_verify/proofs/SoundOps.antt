-- Instructions of the Booleanizer in which the rule finds no fault are sound.
use Rattle.std.proofs.Common.{◌≡◌, ℕ, ◌+◌, ◌<◌, zero, suc, true, false, Bool, Option, Some, None, List, [], ◌∷◌, ◌++◌, Ok, Err, length, take, slice_get, slice_index_or, refl, ap, sym, ◌∙◌, arith, subst, zero-add}
use Rattle.std.specs.Prelude.{◌&&◌, IsOk}
use Rattle.std.proofs.lemmas.Bool.{ltb-true}
use Rattle.std.proofs.lemmas.List.{length_push, take_all}
use Rattle.mltl_base.specs.declared.operators.BzOp.{BzOp}
use Rattle.mltl_base.specs.declared.operators.BzOp.TheVariants.{Column, IsTrue, Const, Neg, Add, Sub, Mul, Div, Rem, Eq, Lt, Le}
use Rattle.mltl_base.specs.declared.program.Program.{Program}
use Rattle.mltl_base.specs.Programs.{Expression, expression_of, expressions_after, expressions, expression_term}
use Rattle.mltl_base.specs.Ranges.{Ranged, divisor, wide, range}
use Rattle.obs_verify.specs.Soundness.{SoundOps, AreWhole, SoundOp, IsWhole, IsWholeExpression}
use Rattle.obs_verify.specs.WellFormed.{IsWellFormed, bz_fault, first_in, has_operands, is_column_of, is_whole, is_whole_before, no_range_fault}
use Rattle.obs_verify.proofs.ExpressionLaws.{expression_at, front}
use Rattle.obs_verify.proofs.RuleLaws.{and_left, and_right, or_none, unless_true}
use Rattle.obs_verify.proofs.SoundLaws.{each}

-- the expressions of the first instructions
first_expressions : (before : List Expression) (ops : List BzOp) (i : ℕ) → expressions_after before (take i ops) ≡ take (length before + i) (expressions_after before ops)
unfolding expressions_after
first_expressions before [] zero = sym (take_all (length before + 0) before (omega arith))
first_expressions before [] (suc i) = sym (take_all (length before + suc i) before (omega arith))
first_expressions before (op ∷ ops) zero = sym (ap (λ n. take n (expressions_after before (op ∷ ops))) (omega arith) ∙ front before (op ∷ ops))
first_expressions before (op ∷ ops) (suc i) =
    let more : List Expression = before ++ expression_of before op ∷ [] in
    let place : length more + i ≡ length before + suc i = omega (arith, length_push before (expression_of before op)) in
    first_expressions more ops i ∙ ap (λ n. take n (expressions_after more ops)) place

-- an instruction that gives a whole number has one as its expression
whole_of_op : (before : List Expression) (op : BzOp) → is_whole (Some op) ≡ true → IsWholeExpression (Some (expression_of before op))
whole_of_op before (IsTrue c) h = absurd (cc)
whole_of_op before (Eq a b) h = absurd (cc)
whole_of_op before (Lt a b) h = absurd (cc)
whole_of_op before (Le a b) h = absurd (cc)
whole_of_op before _ h = tt

whole_in : (ops : List BzOp) (a : ℕ) (o : Option BzOp) → slice_get ops a ≡ o → is_whole o ≡ true → IsWhole (expressions ops) a
whole_in ops a None at h = absurd (cc)
whole_in ops a (Some op) at h = subst IsWholeExpression (sym (expression_at ops a op at)) (whole_of_op (take a (expressions ops)) op h)

whole_at : (program : Program) (i a : ℕ) → is_whole_before program i a ≡ true → IsWhole (expressions (take i program.bz)) a
whole_at program i a h = whole_in (take i program.bz) a (slice_get (take i program.bz) a) refl h

both_whole : (program : Program) (i a b : ℕ) → (is_whole_before program i a && is_whole_before program i b) ≡ true → AreWhole (expressions (take i program.bz)) a b
both_whole program i a b h = (whole_at program i a (and_left _ _ h), whole_at program i b (and_right _ _ h))

column_within : (program : Program) (c : ℕ) (t : Bool) → is_column_of program c t ≡ true → c < program.width
column_within program c t h = ltb-true c program.width (and_left _ _ h)

-- a range without a fault is there
has_range : (i : ℕ) (ranged : Ranged) → no_range_fault i ranged ≡ None → IsOk ranged
has_range i (Ok r) h = refl
has_range i (Err divisor) h = absurd (cc)
has_range i (Err wide) h = absurd (cc)

sound_op : (program : Program) (i : ℕ) (op : BzOp) → has_operands program i op ≡ true → IsOk (range (expression_term (Some (expression_of (expressions (take i program.bz)) op)))) → SoundOp program.width (expressions (take i program.bz)) op
sound_op program i (Column c) h ok = column_within program c false h
sound_op program i (IsTrue c) h ok = column_within program c true h
sound_op program i (Const n) h ok = tt
sound_op program i (Neg a) h ok = (whole_at program i a h, ok)
sound_op program i (Add a b) h ok = (both_whole program i a b h, ok)
sound_op program i (Sub a b) h ok = (both_whole program i a b h, ok)
sound_op program i (Mul a b) h ok = (both_whole program i a b h, ok)
sound_op program i (Div a b) h ok = (both_whole program i a b h, ok)
sound_op program i (Rem a b) h ok = (both_whole program i a b h, ok)
sound_op program i (Eq a b) h ok = both_whole program i a b h
sound_op program i (Lt a b) h ok = both_whole program i a b h
sound_op program i (Le a b) h ok = both_whole program i a b h

-- instructions that are sound one by one
from_each_sound : (width : ℕ) (before : List Expression) (ops : List BzOp) → ((i : ℕ) (op : BzOp) → slice_get ops i ≡ Some op → SoundOp width (expressions_after before (take i ops)) op) → SoundOps width before ops
unfolding SoundOps expressions_after
from_each_sound width before [] all = tt
from_each_sound width before (op ∷ ops) all = (all 0 op refl, from_each_sound width (before ++ expression_of before op ∷ []) ops (λ i o at. all (suc i) o at))

-- a place that holds something
place_of : {X : Type 0} (xs : List X) (i : ℕ) (x d : X) → slice_get xs i ≡ Some x → (i < length xs) × (slice_index_or xs i d ≡ x)
place_of [] i x d at = absurd (cc)
place_of (y ∷ ys) zero x d at = (omega arith, cc)
place_of (y ∷ ys) (suc i) x d at = let p = place_of ys i x d at in (omega (arith, p.0), p.1)

sound_at : (program : Program) → first_in (bz_fault program) 0 program.bz ≡ None → (i : ℕ) (op : BzOp) → slice_get program.bz i ≡ Some op → SoundOp program.width (expressions (take i program.bz)) op
sound_at program none i op at =
    let place = place_of program.bz i op op at in
    let here = or_none _ _ (subst (λ (o : BzOp). bz_fault program i o ≡ None) place.1 (each (bz_fault program) program.bz none i op place.0)) in
    let P : List Expression → Type 0 = λ es. IsOk (range (expression_term (Some (expression_of es op)))) in
    let Q : Option Expression → Type 0 = λ o. IsOk (range (expression_term o)) in
    sound_op program i op (unless_true _ _ here.0)
    (subst P (ap (λ n. take n (expressions program.bz)) (sym (zero-add i)) ∙ sym (first_expressions [] program.bz i)) (subst Q (expression_at program.bz i op at) (has_range i _ here.1)))

pub all_sound : (program : Program) → IsWellFormed program → SoundOps program.width [] program.bz
all_sound program good =
    let h1 = or_none _ _ good in
    let h2 = or_none _ _ h1.1 in
    let h3 = or_none _ _ h2.1 in
    from_each_sound program.width [] program.bz (sound_at program h3.0)
