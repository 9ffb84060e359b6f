use Rattle.std.proofs.Common.{◌≡◌, ℕ, ◌+◌, ◌<◌, ◌≤◌, ◌^◌, ℤ, List, length, sum_by, arith, ap, sym, subst, ◌∙◌}
use Rattle.std.specs.List.{slice_get}
use Rattle.std.proofs.lemmas.List.{length-map}
use Rattle.std.proofs.lemmas.List.Elements.{All-get_or}
use Rattle.mltl_base.specs.Lending.{with_members}
use Rattle.mltl_base.proofs.FixedMembers.{with_members_is}
use Rattle.mltl_base.specs.declared.limits.TheConstants.{MAX_BOUND}
use Rattle.mltl_base.specs.declared.operators.PtOp.{PtOp}
use Rattle.mltl_base.specs.declared.operators.PtOp.TheVariants.{True}
use Rattle.mltl_base.specs.declared.program.Program.{Program}
use Rattle.mltl_base.specs.Atoms.{Row}
use Rattle.mltl_base.specs.Programs.{expressions}
use Rattle.mltl_base.specs.Queues.{HasPastBounds, boxes_of}
use Rattle.booleanizer.specs.Evaluation.{number_on}
use Rattle.pt_boxes.specs.declared.boxes.Span.{Span}
use Rattle.pt_boxes.specs.Nodes.{op_at}
use Rattle.obs_verify.specs.Running.{ArePastInOrder, IsTruthExpression}
use Rattle.pt_boxes.specs.Running.{row_work}
use Rattle.pt_boxes.proofs.Standings.{rows_of}
use Rattle.obs_verify.proofs.Truths.{truth_within}
use Rattle.obs_verify.proofs.RunLaws.{runs_past}
use Rattle.pt_boxes.proofs.Taking.{kept_as, row_stands, takes_as, work_by_boxes}
use Rattle.pt_boxes.proofs.engine.Pt.row.Goals as goal

pub row_of-requires-clause-loaded : goal.row_of-requires-clause-loaded
row_of-requires-clause-loaded g c = λ i k i_in loads.
    let program : Program = c.args.checked.now in
    let runs = runs_past program c.program-program.ensures.layout c.program-program.ensures.well_formed in
    let ops : c.as_slice.result.now ≡ program.pt = c.as_slice.ensures ∙ ap (λ (p : Program). p.pt) c.program-program.ensures.program in
    let there : IsTruthExpression (slice_get (expressions program.bz) k) =
    runs.loads i k (omega (arith, ap (λ (xs : List PtOp). length xs) ops)) (ap (λ (xs : List PtOp). op_at xs i) (sym ops) ∙ loads) in
    let row : Row = c.requires.given.0 in
    omega (arith, truth_within (expressions program.bz) k there, ap (λ (ns : List ℤ). length ns) c.requires.given.1, length-map (expressions program.bz) (number_on row))

pub row_of-requires-clause-order : goal.row_of-requires-clause-order
row_of-requires-clause-order g c =
    let program : Program = c.args.checked.now in
    let runs = runs_past program c.program-program.ensures.layout c.program-program.ensures.well_formed in
    subst (λ (xs : List PtOp). ArePastInOrder xs) (sym (c.as_slice.ensures ∙ ap (λ (p : Program). p.pt) c.program-program.ensures.program)) runs.order

pub row_of-requires-clause-bounded : goal.row_of-requires-clause-bounded
row_of-requires-clause-bounded g c =
    let program : Program = c.args.checked.now in
    let runs = runs_past program c.program-program.ensures.layout c.program-program.ensures.well_formed in
    let ops : c.as_slice.result.now ≡ program.pt = c.as_slice.ensures ∙ ap (λ (p : Program). p.pt) c.program-program.ensures.program in
    subst (λ (xs : List PtOp). (i : ℕ) → i < length xs → HasPastBounds MAX_BOUND (op_at xs i)) (sym ops)
    (λ i i_in. All-get_or (HasPastBounds MAX_BOUND) program.pt i True i_in runs.bounds)

pub row_of-requires-clause-early : goal.row_of-requires-clause-early
row_of-requires-clause-early g c =
    let few : length c.requires.stands.0 < 2 ^ 40 = c.requires.stands.2 in
    omega (arith, rows_of c.args.checked.now c.requires.stands.0 c.args.self.now c.requires.stands.1)

pub row_of-requires-clause-kept : goal.row_of-requires-clause-kept
row_of-requires-clause-kept g c =
    let ops = c.as_slice.ensures ∙ ap (λ (p : Program). p.pt) c.program-program.ensures.program in
    kept_as _ _ _ _ _ _ _ _ ops (rows_of c.args.checked.now c.requires.stands.0 c.args.self.now c.requires.stands.1) c.as_mut_slice.ensures.value c.as_mut_slice-2.ensures.value c.requires.stands.1.seated

pub overflow_add-self : goal.overflow_add-self
overflow_add-self g c =
    let few : length c.requires.stands.0 < 2 ^ 40 = c.requires.stands.2 in
    omega (arith, rows_of c.args.checked.now c.requires.stands.0 c.args.self.now c.requires.stands.1)

pub returns-clause-stands : goal.returns-clause-stands
returns-clause-stands g c = λ rows row few given stands.
    let program : Program = c.args.checked.now in
    let runs = runs_past program c.program-program.ensures.layout c.program-program.ensures.well_formed in
    let old = c.args.self.now in
    let ops : c.as_slice.result.now ≡ program.pt = c.as_slice.ensures ∙ ap (λ (p : Program). p.pt) c.program-program.ensures.program in
    let taken : old.rows ≡ length rows = rows_of program rows old stands in
    let nodes : with_members old.nodes c.row_of.new.nodes ≡ c.row_of.new.nodes = with_members_is old.nodes c.row_of.new.nodes (c.row_of.auto.nodes ∙ ap length c.as_mut_slice.ensures.value) in
    let slab : with_members old.slab c.row_of.new.slab ≡ c.row_of.new.slab = with_members_is old.slab c.row_of.new.slab (c.row_of.auto.slab ∙ ap length c.as_mut_slice-2.ensures.value) in
    row_stands program rows row old _ c.args.bz.now runs given (ap (λ (k : ℕ). k + 1) taken)
    (takes_as _ _ c.args.bz.now _ _ _ _ _ _ _ _ _ _ (sym ops) (sym taken) (sym c.as_mut_slice.ensures.value) (sym c.as_mut_slice-2.ensures.value) nodes slab
    (record { kept = c.row_of.ensures.kept; table = c.row_of.ensures.table }))
    (ap (λ (xs : List Span). length xs) slab ∙ c.row_of.auto.slab ∙ ap (λ (xs : List Span). length xs) c.as_mut_slice-2.ensures.value)
    stands

pub returns-clause-counted : goal.returns-clause-counted
returns-clause-counted g c =
    let program : Program = c.args.checked.now in
    let runs = runs_past program c.program-program.ensures.layout c.program-program.ensures.well_formed in
    let ops : c.as_slice.result.now ≡ program.pt = c.as_slice.ensures ∙ ap (λ (p : Program). p.pt) c.program-program.ensures.program in
    let work : row_work program ≡ sum_by (λ (op : PtOp). boxes_of op + 2) program.pt = ap (λ (ns : List ℕ). sum_by (λ (size : ℕ). size + 2) ns) runs.sizes ∙ work_by_boxes program.pt in
    let P : List PtOp → Type 0 = λ xs. c.row_of.new.steps ≤ c.args.steps.now + sum_by (λ (op : PtOp). boxes_of op + 2) xs in
    let counted : P program.pt = subst P ops c.row_of.ensures.counted in
    omega (arith, work, counted)
