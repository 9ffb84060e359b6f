use Rattle.std.proofs.Common.{◌≡◌, ℕ, ◌+◌, ◌≤◌, ℤ, List, length, slice_index, arith, ap, subst, sym, ◌∙◌}
use Rattle.std.specs.List.{slice_get}
use Rattle.std.proofs.lemmas.List.{length-map}
use Rattle.mltl_base.specs.Lending.{with_members}
use Rattle.mltl_base.proofs.FixedMembers.{with_members_is}
use Rattle.mltl_base.specs.declared.operators.FtOp.{FtOp}
use Rattle.mltl_base.specs.declared.program.Program.{Program}
use Rattle.mltl_base.specs.Atoms.{Row}
use Rattle.mltl_base.specs.Programs.{expressions}
use Rattle.obs_verify.specs.Running.{IsTruthExpression}
use Rattle.obs_verify.proofs.Truths.{truth_within}
use Rattle.obs_verify.proofs.RunLaws.{runs_future}
use Rattle.booleanizer.specs.Evaluation.{number_on}
use Rattle.scq_ring.specs.declared.Slot.{Slot}
use Rattle.ft_engine.specs.declared.queue.Queue.{Queue}
use Rattle.ft_engine.specs.Plans.{plan_of}
use Rattle.ft_engine.specs.Queues.{op_at, size_in, work_before}
use Rattle.ft_engine.specs.Running.{row_work}
use Rattle.ft_engine.specs.Standing.{slots_at}
use Rattle.ft_engine.proofs.Standings.{paced_sound, work_by_sizes}
use Rattle.ft_engine.proofs.Taking.{paced_as, row_stands, took_as}
use Rattle.ft_engine.proofs.engine.Ft.row.Goals as goal

pub row_of-requires-clause-loaded : goal.row_of-requires-clause-loaded
row_of-requires-clause-loaded g c = λ i k i_in loads.
    let program : Program = c.args.checked.now in
    let runs = runs_future program c.program-program.ensures.layout c.program-program.ensures.well_formed in
    let ops : c.as_slice.result.now ≡ program.ft = c.as_slice.ensures ∙ ap (λ (p : Program). p.ft) c.program-program.ensures.program in
    let there : IsTruthExpression (slice_get (expressions program.bz) k) =
    runs.loads i k (omega (arith, ap (λ (xs : List FtOp). length xs) ops)) (ap (λ (xs : List FtOp). op_at xs i) (sym ops) ∙ loads) in
    let row : Row = c.requires.given.0 in
    omega (arith, truth_within (expressions program.bz) k there, ap (λ (ns : List ℤ). length ns) c.requires.given.1, length-map (expressions program.bz) (number_on row))

pub row_of-requires-clause-ready : goal.row_of-requires-clause-ready
row_of-requires-clause-ready g c =
    let program : Program = c.args.checked.now in
    let ops : c.as_slice.result.now ≡ program.ft = c.as_slice.ensures ∙ ap (λ (p : Program). p.ft) c.program-program.ensures.program in (
      plan_of program.ft program.outs,
      length c.requires.stands.0,
      c.requires.stands.2,
      paced_as _ _ _ _ _ _ _ _ ops c.as_mut_slice.ensures.value c.as_mut_slice-2.ensures.value c.requires.stands.1.paced,
    )

pub invariant_of-self : goal.invariant_of-self
invariant_of-self g c =
    let program : Program = c.args.checked.now in
    let plan = plan_of program.ft program.outs in
    let old = c.args.self.now in
    let n : ℕ = length c.requires.stands.0 in
    let ops : c.as_slice.result.now ≡ program.ft = c.as_slice.ensures ∙ ap (λ (p : Program). p.ft) c.program-program.ensures.program in
    let queues : with_members old.queues c.row_of.new.queues ≡ c.row_of.new.queues = with_members_is old.queues c.row_of.new.queues (c.row_of.auto.queues ∙ ap length c.as_mut_slice.ensures.value) in
    let slab : with_members old.slab c.row_of.new.slab ≡ c.row_of.new.slab = with_members_is old.slab c.row_of.new.slab (c.row_of.auto.slab ∙ ap length c.as_mut_slice-2.ensures.value) in
    let took =
    took_as plan _ _ c.args.bz.now n _ _ _ _ _ _ _ _ (sym ops) (sym c.as_mut_slice.ensures.value) (sym c.as_mut_slice-2.ensures.value) queues slab
    (record { paced = c.row_of.ensures.paced plan n c.requires.stands.2; verdicts = λ truth before after. c.row_of.ensures.verdicts plan truth n before after }) in
    record { sound = paced_sound plan program.ft _ _ (n + 1) (took.paced c.requires.stands.1.paced) }

pub returns-clause-stands : goal.returns-clause-stands
returns-clause-stands g c = λ rows row few given stands.
    let program : Program = c.args.checked.now in
    let runs = runs_future program c.program-program.ensures.layout c.program-program.ensures.well_formed in
    let plan = plan_of program.ft program.outs in
    let old = c.args.self.now in
    let ops : c.as_slice.result.now ≡ program.ft = c.as_slice.ensures ∙ ap (λ (p : Program). p.ft) c.program-program.ensures.program in
    let queues : with_members old.queues c.row_of.new.queues ≡ c.row_of.new.queues = with_members_is old.queues c.row_of.new.queues (c.row_of.auto.queues ∙ ap length c.as_mut_slice.ensures.value) in
    let slab : with_members old.slab c.row_of.new.slab ≡ c.row_of.new.slab = with_members_is old.slab c.row_of.new.slab (c.row_of.auto.slab ∙ ap length c.as_mut_slice-2.ensures.value) in
    row_stands program rows row old _ c.args.bz.now runs few given
    (took_as plan _ _ c.args.bz.now _ _ _ _ _ _ _ _ _ (sym ops) (sym c.as_mut_slice.ensures.value) (sym c.as_mut_slice-2.ensures.value) queues slab
    (record { paced = c.row_of.ensures.paced plan (length rows) few; verdicts = λ truth before after. c.row_of.ensures.verdicts plan truth (length rows) before after }))
    (ap (λ (xs : List Slot). length xs) slab ∙ c.row_of.auto.slab ∙ ap (λ (xs : List Slot). length xs) c.as_mut_slice-2.ensures.value)
    stands

pub returns-clause-counted : goal.returns-clause-counted
unfolding slots_at
returns-clause-counted g c =
    let program : Program = c.args.checked.now in
    let runs = runs_future program c.program-program.ensures.layout c.program-program.ensures.well_formed in
    let queues : List Queue = c.args.self.now.queues in
    let ops : c.as_slice.result.now ≡ program.ft = c.as_slice.ensures ∙ ap (λ (p : Program). p.ft) c.program-program.ensures.program in
    let same : work_before program.ft (size_in queues) (length program.ft) ≡ row_work program =
    work_by_sizes program.ft (size_in queues) (λ i. slice_index program.sizes.ft i) (length program.ft) runs.order (omega arith) c.requires.stands.1.sizes in
    let P : List FtOp → List Queue → Type 0 = λ xs qs. c.row_of.new.steps ≤ c.args.steps.now + work_before xs (size_in qs) (length xs) in
    let counted : P program.ft queues = subst (λ (xs : List FtOp). P xs queues) ops (subst (λ (qs : List Queue). P c.as_slice.result.now qs) c.as_mut_slice.ensures.value c.row_of.ensures.counted) in
    omega (arith, same, counted)
