-- What the engines rely on, from rules that find no fault.
use Rattle.std.proofs.Common.{◌≡◌, ℕ, ◌<◌, ◌≤◌, true, Option, Some, None, List, All, length, sum, take, slice_get, slice_index_or, refl, ap, sym, ◌∙◌, arith, subst}
use Rattle.std.proofs.lemmas.Bool.{eqb-true, leb-true, ltb-true}
use Rattle.std.proofs.lemmas.List.{ext_get_or, length-map}
use Rattle.std.proofs.lemmas.List.FromFn.{length-map-range_with_len}
use Rattle.mltl_base.specs.declared.interval.Engine.TheVariants as engine
use Rattle.mltl_base.specs.declared.interval.Part.{Part}
use Rattle.mltl_base.specs.declared.interval.Part.TheVariants.{Ft, Pt}
use Rattle.mltl_base.specs.declared.operators.BzOp as bz
use Rattle.mltl_base.specs.declared.operators.FtOp as ft
use Rattle.mltl_base.specs.declared.operators.PtOp as pt
use Rattle.mltl_base.specs.declared.program.Out as out
use Rattle.mltl_base.specs.declared.program.Program.{Program}
use Rattle.mltl_base.specs.Programs.{Expression, expression_of, expressions}
use Rattle.mltl_base.specs.Queues.{NamesInstructions, box_counts, boxes_of, queue_length, queue_lengths, slot_count}
use Rattle.obs_verify.specs.Layout.{HasLayout}
use Rattle.obs_verify.specs.Running.{IsAfterPastOperands, IsTruthExpression, RunsFuture, RunsPast}
use Rattle.obs_verify.specs.WellFormed.{IsWellFormed, bz_fault, first_in, ft_fault, has_future_operands, has_past_operands, is_truth, output_fault, pt_fault, reports_within, size_fault, slots_fault}
use Rattle.obs_verify.proofs.ExpressionLaws.{expression_at}
use Rattle.obs_verify.proofs.RuleLaws.{and_left, and_right, or_none, unless_true}
use Rattle.obs_verify.proofs.SoundLaws.{bounded, bounded_past, each, in_order}

-- the rules of a well-formed program
record AreKept (program : Program) : Type 0 where
  bz : first_in (bz_fault program) 0 program.bz ≡ None
  ft : first_in (ft_fault program) 0 program.ft ≡ None
  pt : first_in (pt_fault program) 0 program.pt ≡ None
  outs : first_in (output_fault program) 0 program.outs ≡ None
  slots : slots_fault program ≡ None
  ft_sizes : first_in (size_fault Ft (queue_lengths program.ft program.outs)) 0 program.sizes.ft ≡ None
  pt_sizes : first_in (size_fault Pt (box_counts program.pt)) 0 program.sizes.pt ≡ None

rules : (program : Program) → IsWellFormed program → AreKept program
rules program good =
    let h1 = or_none _ _ good in
    let h2 = or_none _ _ h1.1 in
    let h3 = or_none _ _ h2.1 in
    let h4 = or_none _ _ h3.1 in
    let h5 = or_none _ _ h4.1 in
    let h6 = or_none _ _ h5.1 in
    let h7 = or_none _ _ h6.1 in
    let h8 = or_none _ _ h7.1 in
    let h9 = or_none _ _ h8.1 in
    record { bz = h3.0; ft = h4.0; pt = h6.0; outs = h7.0; slots = h8.0; ft_sizes = h9.0; pt_sizes = h9.1 }

-- sizes that are those needed, one by one
stored : (part : Part) (needed sizes : List ℕ) → length sizes ≡ length needed → first_in (size_fault part needed) 0 sizes ≡ None → sizes ≡ needed
stored part needed sizes same none =
    ext_get_or 0 sizes needed same (λ i inside. eqb-true _ _ (unless_true _ _ (each (size_fault part needed) sizes none i 0 inside)))

-- the needed slots and boxes, within their limit
slots_within : (program : Program) → slots_fault program ≡ None → slot_count program.ft program.pt program.outs ≤ 16777216
slots_within program none = leb-true _ _ (unless_true _ _ none)

-- an instruction that gives a truth has a truth as its expression
truth_of_op : (before : List Expression) (op : bz.BzOp) → is_truth (Some op) ≡ true → IsTruthExpression (Some (expression_of before op))
truth_of_op before (bz.TheVariants.IsTrue c) h = tt
truth_of_op before (bz.TheVariants.Eq a b) h = tt
truth_of_op before (bz.TheVariants.Lt a b) h = tt
truth_of_op before (bz.TheVariants.Le a b) h = tt
truth_of_op before _ h = absurd (cc)

truth_in : (ops : List bz.BzOp) (k : ℕ) (o : Option bz.BzOp) → slice_get ops k ≡ o → is_truth o ≡ true → IsTruthExpression (slice_get (expressions ops) k)
truth_in ops k None at h = absurd (cc)
truth_in ops k (Some op) at h = subst IsTruthExpression (sym (expression_at ops k op at)) (truth_of_op (take k (expressions ops)) op h)

truth_loaded : (ops : List bz.BzOp) (k : ℕ) → is_truth (slice_get ops k) ≡ true → IsTruthExpression (slice_get (expressions ops) k)
truth_loaded ops k h = truth_in ops k (slice_get ops k) refl h

-- what a Load names
future_load : (program : Program) (i k : ℕ) (op : ft.FtOp) → op ≡ ft.TheVariants.Load k → has_future_operands program i op ≡ true → is_truth (slice_get program.bz k) ≡ true
future_load program i k op is h = subst (λ (o : ft.FtOp). has_future_operands program i o ≡ true) is h

past_load : (program : Program) (i k : ℕ) (op : pt.PtOp) → op ≡ pt.TheVariants.Load k → has_past_operands program i op ≡ true → is_truth (slice_get program.bz k) ≡ true
past_load program i k op is h = subst (λ (o : pt.PtOp). has_past_operands program i o ≡ true) is h

pub runs_future : (program : Program) → HasLayout program → IsWellFormed program → RunsFuture program
runs_future program layout good =
    let kept = rules program good in
    let sizes : program.sizes.ft ≡ queue_lengths program.ft program.outs =
    stored Ft (queue_lengths program.ft program.outs) program.sizes.ft (layout.ft_sizes ∙ sym (length-map-range_with_len (queue_length program.ft program.outs) 0 (length program.ft))) kept.ft_sizes in
    let most = slots_within program kept.slots in
    record {
      order = in_order program kept.ft;
      bounds = bounded program kept.ft;
      sizes = sizes;
      few = omega (arith, ap sum sizes, most);
      loads = λ i k inside is.
          let none = each (ft_fault program) program.ft kept.ft i ft.TheVariants.True inside in
          truth_loaded program.bz k (future_load program i k (slice_index_or program.ft i ft.TheVariants.True) is (unless_true _ _ (or_none _ _ none).0));
    }

past_after : (program : Program) (i : ℕ) (op : pt.PtOp) → has_past_operands program i op ≡ true → IsAfterPastOperands i op
past_after program i pt.TheVariants.True h = tt
past_after program i (pt.TheVariants.Load a) h = tt
past_after program i (pt.TheVariants.Not g) h = ltb-true g i h
past_after program i (pt.TheVariants.And l r) h = (ltb-true l i (and_left _ _ h), ltb-true r i (and_right _ _ h))
past_after program i (pt.TheVariants.Since l r w) h = (ltb-true l i (and_left _ _ h), ltb-true r i (and_right _ _ h))

pub runs_past : (program : Program) → HasLayout program → IsWellFormed program → RunsPast program
runs_past program layout good =
    let kept = rules program good in
    let operands = λ (i : ℕ) (inside : i < length program.pt). unless_true _ _ (or_none _ _ (each (pt_fault program) program.pt kept.pt i pt.TheVariants.True inside)).0 in
    let sizes : program.sizes.pt ≡ box_counts program.pt =
    stored Pt (box_counts program.pt) program.sizes.pt (layout.pt_sizes ∙ sym (length-map program.pt boxes_of)) kept.pt_sizes in
    let most = slots_within program kept.slots in
    record {
      order = λ i inside. past_after program i (slice_index_or program.pt i pt.TheVariants.True) (operands i inside);
      bounds = bounded_past program kept.pt;
      sizes = sizes;
      few = omega (arith, ap sum sizes, most);
      loads = λ i k inside is. truth_loaded program.bz k (past_load program i k (slice_index_or program.pt i pt.TheVariants.True) is (operands i inside));
    }

-- outputs
named : (fts pts : ℕ) (output : out.Out) → reports_within fts pts output ≡ true → NamesInstructions fts pts output
named fts pts (out.TheVariants.Formula engine.Ft g name) h = ltb-true g fts h
named fts pts (out.TheVariants.Formula engine.Pt g name) h = ltb-true g pts h
named fts pts (out.TheVariants.Contract engine.Ft l r name) h = (ltb-true l fts (and_left _ _ h), ltb-true r fts (and_right _ _ h))
named fts pts (out.TheVariants.Contract engine.Pt l r name) h = (ltb-true l pts (and_left _ _ h), ltb-true r pts (and_right _ _ h))

pub all_named : (program : Program) → IsWellFormed program → All (NamesInstructions (length program.ft) (length program.pt)) program.outs
all_named program good k output inside =
    named (length program.ft) (length program.pt) (slice_index_or program.outs k output) (unless_true _ _ (each (output_fault program) program.outs (rules program good).outs k output inside))
