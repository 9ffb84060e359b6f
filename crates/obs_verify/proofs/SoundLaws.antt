-- What programs have in which rules find no fault.
use Rattle.std.proofs.Common.{◌≡◌, ℕ, ◌+◌, ◌<◌, ◌≤◌, zero, suc, Option, Some, None, List, [], ◌∷◌, All, length, slice_index, slice_index_or, refl, ap, sym, ◌∙◌, arith, subst, zero-add, add-zero, true}
use Rattle.std.proofs.lemmas.Bool.{le-leb, ltb-true, leb-true, lt-leb}
use Rattle.std.proofs.lemmas.List.Elements.{All-head, All-tail}
use Rattle.mltl_base.specs.declared.interval.Engine.TheVariants as engine
use Rattle.mltl_base.specs.declared.operators.FtOp as ft
use Rattle.mltl_base.specs.declared.operators.PtOp as pt
use Rattle.mltl_base.specs.declared.program.Out as out
use Rattle.mltl_base.specs.declared.program.Program.{Program}
use Rattle.mltl_base.specs.Queues.{AreInOrder, IsAfterOperands, HasBounds, HasPastBounds, IsFirstLate, ReportsInstructions}
use Rattle.obs_verify.specs.declared.fault.VerifyFault.{VerifyFault}
use Rattle.obs_verify.specs.declared.fault.VerifyFault.TheVariants.{TooLate}
use Rattle.obs_verify.specs.WellFormed.{first_in, ft_fault, pt_fault, late_fault, output_fault, has_future_operands, has_future_window, has_past_window, reports_within}
use Rattle.obs_verify.proofs.RuleLaws.{and_left, and_right, none_of_all, or_none, unless_true}

-- the rule of each member, from its place in the list
pub each : {X : Type 0} (rule : ℕ → X → Option VerifyFault) (xs : List X) → first_in rule 0 xs ≡ None → (i : ℕ) (d : X) → i < length xs → rule i (slice_index_or xs i d) ≡ None
each {X} rule xs none i d inside = subst (λ (n : ℕ). rule n (slice_index_or xs i d) ≡ None) (zero-add i) (none_of_all rule xs 0 none i d inside)

after : (program : Program) (i : ℕ) (op : ft.FtOp) → has_future_operands program i op ≡ true → IsAfterOperands i op
after program i (ft.TheVariants.Not g) h = ltb-true g i h
after program i (ft.TheVariants.And l r) h = (ltb-true l i (and_left _ _ h), ltb-true r i (and_right _ _ h))
after program i (ft.TheVariants.Until l r w) h = (ltb-true l i (and_left _ _ h), ltb-true r i (and_right _ _ h))
after program i _ h = tt

pub in_order : (program : Program) → first_in (ft_fault program) 0 program.ft ≡ None → AreInOrder program.ft
in_order program none i op inside = after program i (slice_index_or program.ft i op) (unless_true _ _ (or_none _ _ (each (ft_fault program) program.ft none i op inside)).0)

window : (op : ft.FtOp) → has_future_window op ≡ true → HasBounds 1048576 op
window (ft.TheVariants.Until l r w) h = (leb-true w.lo w.hi (and_left _ _ h), leb-true w.hi 1048576 (and_right _ _ h))
window _ h = tt

pub bounded : (program : Program) → first_in (ft_fault program) 0 program.ft ≡ None → All (HasBounds 1048576) program.ft
bounded program none i op inside = window (slice_index_or program.ft i op) (unless_true _ _ (or_none _ _ (each (ft_fault program) program.ft none i op inside)).1)

past_window : (op : pt.PtOp) → has_past_window op ≡ true → HasPastBounds 1048576 op
past_window (pt.TheVariants.Since l r w) h = (leb-true w.lo w.hi (and_left _ _ h), leb-true w.hi 1048576 (and_right _ _ h))
past_window _ h = tt

pub bounded_past : (program : Program) → first_in (pt_fault program) 0 program.pt ≡ None → All (HasPastBounds 1048576) program.pt
bounded_past program none i op inside = past_window (slice_index_or program.pt i op) (unless_true _ _ (or_none _ _ (each (pt_fault program) program.pt none i op inside)).1)

reports : (fts pts : ℕ) (output : out.Out) → reports_within fts pts output ≡ true → ReportsInstructions fts output
reports fts pts (out.TheVariants.Formula engine.Ft g name) h = ltb-true g fts h
reports fts pts (out.TheVariants.Contract engine.Ft l r name) h = (ltb-true l fts (and_left _ _ h), ltb-true r fts (and_right _ _ h))
reports fts pts _ h = tt

pub reported : (program : Program) → first_in (output_fault program) 0 program.outs ≡ None → All (ReportsInstructions (length program.ft)) program.outs
reported program none k output inside = reports (length program.ft) (length program.pt) (slice_index_or program.outs k output) (unless_true _ _ (each (output_fault program) program.outs none k output inside))

-- delays within the limit, and the first above it
late_none : (delays : List ℕ) (k : ℕ) → All (λ rows. rows ≤ 16777216) delays → first_in late_fault k delays ≡ None
unfolding first_in
late_none [] k small = refl
late_none (d ∷ delays) k small = rw (le-leb d 16777216 (All-head (λ rows. rows ≤ 16777216) d delays small)) (late_none delays (suc k) (All-tail (λ rows. rows ≤ 16777216) d delays small))

pub none_late : (delays : List ℕ) → All (λ rows. rows ≤ 16777216) delays → first_in late_fault 0 delays ≡ None
none_late delays small = late_none delays 0 small

late_some : (delays : List ℕ) (k i : ℕ) → i < length delays → 16777216 < slice_index delays i → ((j : ℕ) → j < i → slice_index delays j ≤ 16777216) → first_in late_fault k delays ≡ Some (TooLate (k + i))
unfolding first_in
late_some [] k i inside late earlier = absurd (omega arith)
late_some (d ∷ delays) k zero inside late earlier = rw (lt-leb d 16777216 late) (ap (λ n. Some (TooLate n)) (sym (add-zero k)))
late_some (d ∷ delays) k (suc i) inside late earlier =
    let place : suc k + i ≡ k + suc i = omega arith in
    rw (le-leb d 16777216 (earlier 0 (omega arith))) (late_some delays (suc k) i (omega arith) late (λ j below. earlier (suc j) (omega arith)) ∙ ap (λ n. Some (TooLate n)) place)

pub first_late : (delays : List ℕ) (i : ℕ) → IsFirstLate 16777216 delays i → first_in late_fault 0 delays ≡ Some (TooLate i)
first_late delays i first = late_some delays 0 i first.exists first.late first.earlier ∙ ap (λ n. Some (TooLate n)) (zero-add i)
