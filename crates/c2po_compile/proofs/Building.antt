-- The image of sound outputs within the limits is well-formed.

use Rattle.std.proofs.Common.{◌≡◌, ℕ, ◌<◌, ◌≤◌, ◌^◌, true, None, Result, Err, List, [], All, Any, length, slice_index_or, refl, sym, ap, ap₂, subst, ◌∙◌, arith, inr}
use Rattle.std.proofs.lemmas.Bool.{le-leb, ltb-true}
use Rattle.std.proofs.lemmas.List.{length-map}
use Rattle.std.proofs.lemmas.List.FromFn.{length-map-range_with_len}
use Rattle.mltl_base.specs.declared.interval.Engine.{Engine}
use Rattle.mltl_base.specs.declared.interval.Engine.TheVariants as engine
use Rattle.mltl_base.specs.declared.interval.Part.TheVariants.{Ft, Pt}
use Rattle.mltl_base.specs.declared.operators.BzOp.{BzOp}
use Rattle.mltl_base.specs.declared.operators.FtOp.{FtOp}
use Rattle.mltl_base.specs.declared.operators.PtOp.{PtOp}
use Rattle.mltl_base.specs.declared.program.Columns.{Columns}
use Rattle.mltl_base.specs.declared.program.Graph.{Graph}
use Rattle.mltl_base.specs.declared.program.Out.{Out}
use Rattle.mltl_base.specs.declared.program.Out.TheVariants as out
use Rattle.mltl_base.specs.declared.program.Program.{Program}
use Rattle.mltl_base.specs.declared.program.StoredSignal.{StoredSignal}
use Rattle.mltl_base.specs.Formula.{Core, catom}
use Rattle.mltl_base.specs.Programs.{expressions}
use Rattle.mltl_base.specs.Queues.{NamesInstructions, box_counts, boxes_of, queue_length, queue_lengths, slot_count, worst_delays}
use Rattle.mltl_base.specs.Subformulas.{Asked, HasListsOf, IsGraphOf, formulas_of, all_cores, cores_for, subformulas, bz_expressions, bz_instruction, ft_instruction, pt_instruction, ft_list, pt_list}
use Rattle.mltl_base.proofs.Unfolding.{Deep, Each, IsClosedAfter, fold_all, fold_closed}
use Rattle.mltl_base.proofs.Booleans.{HasAtom, fold_have, fold_whole}
use Rattle.mltl_base.proofs.Graphs.{bz_list_unfolds}
use Rattle.c2po_ast.specs.declared.nodes.Expanded.{Expanded}
use Rattle.c2po_ast.specs.Nodes.{trees}
use Rattle.c2po_ast.specs.Outputs.{asked, asked_by, asked_in, asked_over}
use Rattle.mltl_base.specs.declared.signal.Signal.{Signal}
use Rattle.mltl_base.proofs.Picking.{all_listed, cores_atoms, cores_of_engine}
use Rattle.core_graph.specs.declared.graph.GraphFault.{GraphFault}
use Rattle.core_graph.specs.declared.graph.GraphFault.TheVariants as core
use Rattle.core_graph.specs.Limits.{AreFew, AreMany}
use Rattle.delay_sizes.specs.Sizing.{IsSizable}
use Rattle.obs_verify.specs.declared.fault.VerifyFault.TheVariants.{Width, TooManySlots}
use Rattle.obs_verify.specs.Layout.{HasLayout}
use Rattle.obs_verify.specs.WellFormed.{IsWellFormed, bz_fault, first_in, ft_fault, output_fault, pt_fault, reports_within}
use Rattle.obs_verify.proofs.RuleLaws.{and_left, and_right, unless_true}
use Rattle.obs_verify.proofs.SoundLaws.{bounded, bounded_past, each, in_order, none_late}
use Rattle.obs_verify.proofs.WellBound.{both_none}
use Rattle.c2po_compile.specs.declared.build_fault.BuildFault.{BuildFault}
use Rattle.c2po_compile.specs.declared.build_fault.BuildFault.TheVariants.{TooManyNodes, TooLate, TooManySlots as TooManySlots', Memory}
use Rattle.mltl_base.specs.Kinds.{kinds_of}
use Rattle.c2po_compile.specs.Conditions.{IsBuildable}
use Rattle.c2po_compile.specs.Images.{IsImageOf, stored_signals}
use Rattle.c2po_compile.specs.BuildLimits.{IsReason, IsSizeReason, IsWithinLimits, graph_limit, slots_needed}
use Rattle.c2po_compile.proofs.Parts.{AtCore, fold_expressions_all}
use Rattle.c2po_compile.proofs.Cores.{deep_then, each_then}
use Rattle.c2po_compile.proofs.Reading.{IsReadable}
use Rattle.c2po_compile.proofs.Windows.{IsWindowed, trees_windowed}
use Rattle.c2po_compile.proofs.Outputs.{IsFit, asked_windowed, cores_fit}
use Rattle.c2po_compile.proofs.Columns.{few_columns, length-stored_signals, of_kinds, passes, signals_none}
use Rattle.c2po_compile.proofs.Rules.{bz_none, ft_none, outs_none, pt_none, sizes_none}

-- a program that is the image of a specification, its sizes aside
pub record IsDraft (spec : Expanded) (signals : List Signal) (columns : Columns) (program : Program) : Type 0 where
  pub version : program.version ≡ 2
  pub width : program.width ≡ columns.width
  pub lists : HasListsOf (asked_in columns.of_signal spec) program
  pub kept : program.signals ≡ stored_signals signals columns.of_signal

-- the draft of a graph
abbrev pub drafted : List Signal → Columns → Graph → Program
drafted signals columns graph = record {
  version = 2;
  width = columns.width;
  bz = graph.bz;
  ft = graph.ft;
  pt = graph.pt;
  outs = graph.outs;
  sizes = record { ft = []; pt = [] };
  signals = stored_signals signals columns.of_signal;
}

pub is_draft : (spec : Expanded) (signals : List Signal) (columns : Columns) (graph : Graph) → IsGraphOf (asked_in columns.of_signal spec) graph → IsDraft spec signals columns (drafted signals columns graph)
is_draft spec signals columns graph h = record {
  version = refl;
  width = refl;
  lists = record { bz = h.bz; ft = h.ft; pt = h.pt; reports = h.reports };
  kept = refl;
}

at_core : (program : Program) (p : Core) → IsFit program p → AtCore (IsReadable program) p
at_core program (catom a) h = h
at_core program _ h = tt

names : (fts pts : ℕ) (output : Out) → reports_within fts pts output ≡ true → NamesInstructions fts pts output
names fts pts (out.Formula engine.Ft g name) h = ltb-true g fts h
names fts pts (out.Formula engine.Pt g name) h = ltb-true g pts h
names fts pts (out.Contract engine.Ft l r name) h = (ltb-true l fts (and_left _ _ h), ltb-true r fts (and_right _ _ h))
names fts pts (out.Contract engine.Pt l r name) h = (ltb-true l pts (and_left _ _ h), ltb-true r pts (and_right _ _ h))

module _ (spec : Expanded) (signals : List Signal) (columns : Columns) (program : Program) (ready : IsBuildable spec signals columns) (draft : IsDraft spec signals columns program) where
  outs : List Asked
  outs = asked_in columns.of_signal spec

  below : All (λ c. c < program.width) columns.of_signal
  below = subst (λ (w : ℕ). All (λ c. c < w) columns.of_signal) (sym draft.width) ready.below

  windows : Each (λ a. Each IsWindowed (formulas_of a.output)) (asked spec)
  windows = asked_windowed (trees spec.nodes) spec.outs (trees_windowed (length signals) spec.nodes ready.sound.nodes)

  cores : Each (Deep (IsFit program)) (all_cores outs)
  unfolding outs
  cores =
      cores_fit program (kinds_of signals) columns.of_signal (of_kinds program signals columns.of_signal draft.kept ready.one_each below) (asked spec) ready.kinds ready.faultless windows

  readable : Each (IsReadable program) (bz_expressions outs)
  readable = fold_expressions_all (IsReadable program) (all_cores outs) []
      (each_then (Deep (IsFit program)) (Deep (AtCore (IsReadable program))) (deep_then (IsFit program) (AtCore (IsReadable program)) (at_core program)) (all_cores outs) cores) tt

  fit : (e : Engine) → Each (IsFit program) (subformulas e outs)
  fit e = fold_all (IsFit program) (cores_for e outs) [] (cores_of_engine (Deep (IsFit program)) e outs cores) tt

  atoms : (e : Engine) → Each (HasAtom (bz_expressions outs)) (subformulas e outs)
  atoms e = fold_all (HasAtom (bz_expressions outs)) (cores_for e outs) [] (cores_of_engine (Deep (HasAtom (bz_expressions outs))) e outs (fold_have (all_cores outs) [])) tt

  closed : (e : Engine) → IsClosedAfter [] (subformulas e outs)
  closed e = fold_closed (cores_for e outs) [] tt

  bz_rule : first_in (bz_fault program) 0 program.bz ≡ None
  unfolding outs
  bz_rule =
      ap (first_in (bz_fault program) 0) draft.lists.bz
      ∙ bz_none program (bz_expressions outs) draft.lists.bz (ap expressions draft.lists.bz ∙ bz_list_unfolds outs) [] (bz_expressions outs) refl (fold_whole (all_cores outs) [] (cores_atoms outs) tt) readable

  pub ft_rule : first_in (ft_fault program) 0 program.ft ≡ None
  unfolding outs
  ft_rule =
      ap (first_in (ft_fault program) 0) draft.lists.ft
      ∙ ft_none program (bz_expressions outs) draft.lists.bz (subformulas engine.Ft outs) [] (subformulas engine.Ft outs) refl (closed engine.Ft) (atoms engine.Ft) (fit engine.Ft)

  pub pt_rule : first_in (pt_fault program) 0 program.pt ≡ None
  unfolding outs
  pt_rule =
      ap (first_in (pt_fault program) 0) draft.lists.pt
      ∙ pt_none program (bz_expressions outs) draft.lists.bz (subformulas engine.Pt outs) [] (subformulas engine.Pt outs) refl (closed engine.Pt) (atoms engine.Pt) (fit engine.Pt)

  ft_count : length program.ft ≡ length (subformulas engine.Ft outs)
  unfolding outs
  ft_count = ap length draft.lists.ft ∙ length-map (subformulas engine.Ft outs) (ft_instruction (bz_expressions outs) (subformulas engine.Ft outs))

  pt_count : length program.pt ≡ length (subformulas engine.Pt outs)
  unfolding outs
  pt_count = ap length draft.lists.pt ∙ length-map (subformulas engine.Pt outs) (pt_instruction (bz_expressions outs) (subformulas engine.Pt outs))

  out_rule : first_in (output_fault program) 0 program.outs ≡ None
  unfolding outs
  out_rule = ap (first_in (output_fault program) 0) draft.lists.reports ∙ outs_none program outs ft_count pt_count 0 outs (all_listed outs)

  pub named : All (NamesInstructions (length program.ft) (length program.pt)) program.outs
  named k output inside =
      names (length program.ft) (length program.pt) (slice_index_or program.outs k output) (unless_true _ _ (each (output_fault program) program.outs out_rule k output inside))

  -- few instructions, and few of all else
  module _ (few : AreFew (asked_in columns.of_signal spec)) where
    pub few_ft : length program.ft ≤ 65536
    unfolding outs
    few_ft = let most : length (subformulas engine.Ft outs) ≤ 65536 = few.ft in omega (arith, ft_count)

    pub few_pt : length program.pt ≤ 65536
    unfolding outs
    few_pt = let most : length (subformulas engine.Pt outs) ≤ 65536 = few.pt in omega (arith, pt_count)

    few_bz : length program.bz ≤ 65536
    unfolding outs
    few_bz =
        let most : length (bz_expressions outs) ≤ 65536 = few.bz in
        let count : length program.bz ≡ length (bz_expressions outs) = ap length draft.lists.bz ∙ length-map (bz_expressions outs) (bz_instruction (bz_expressions outs)) in
        omega arith

    few_outs : length program.outs < 2 ^ 32
    few_outs =
        let by : length program.outs ≡ length (asked_in columns.of_signal spec) = ap length draft.lists.reports ∙ length-map (asked_in columns.of_signal spec) _ in
        let over : length (asked_in columns.of_signal spec) ≡ length (asked spec) = length-map (asked spec) (asked_over columns.of_signal) in
        let from : length (asked spec) ≡ length spec.outs = length-map spec.outs (asked_by (trees spec.nodes)) in
        let most : length spec.outs < 2 ^ 32 = ready.sound.few_outs in
        omega arith

    few_signals : length program.signals < 2 ^ 32
    few_signals =
        let by : length program.signals ≡ length signals = ap length draft.kept ∙ length-stored_signals signals columns.of_signal ready.one_each in
        let most : length columns.of_signal ≤ columns.width = few_columns columns.of_signal columns.width ready.different ready.below in
        omega (arith, ready.one_each, ready.narrow)

    module _ (queues : program.sizes.ft ≡ queue_lengths program.ft program.outs) (boxes : program.sizes.pt ≡ box_counts program.pt) where
      pub layout : HasLayout program
      layout = record {
        ft_sizes = ap length queues ∙ length-map-range_with_len (queue_length program.ft program.outs) 0 (length program.ft);
        pt_sizes = ap length boxes ∙ length-map program.pt boxes_of;
        few_bz = omega (arith, few_bz);
        few_ft = omega (arith, few_ft);
        few_pt = omega (arith, few_pt);
        few_outs = few_outs;
        few_signals = few_signals;
        version = inr draft.version;
      }

      pub well_formed : All (λ rows. rows ≤ 16777216) (worst_delays program.ft) → slot_count program.ft program.pt program.outs ≤ 16777216 → IsWellFormed program
      well_formed in_time fits =
          both_none _ _ (passes _ Width (le-leb program.width 65536 (omega (arith, draft.width, ready.narrow))))
          (both_none _ _ (signals_none program signals columns.of_signal draft.kept ready.one_each below ready.different ready.named)
          (both_none _ _ bz_rule
          (both_none _ _ ft_rule
          (both_none _ _ (none_late (worst_delays program.ft) in_time)
          (both_none _ _ pt_rule
          (both_none _ _ out_rule
          (both_none _ _ (passes _ TooManySlots (le-leb (slot_count program.ft program.pt program.outs) 16777216 fits))
          (both_none _ _ (sizes_none Ft (queue_lengths program.ft program.outs) program.sizes.ft queues)
          (sizes_none Pt (box_counts program.pt) program.sizes.pt boxes)))))))))

-- the graph of a specification that can be built is fit to be sized
pub sizable : (spec : Expanded) (signals : List Signal) (columns : Columns) (graph : Graph) → IsBuildable spec signals columns → IsGraphOf (asked_in columns.of_signal spec) graph → AreFew (asked_in columns.of_signal spec) → IsSizable graph
sizable spec signals columns graph ready h few =
    let program : Program = drafted signals columns graph in
    let draft : IsDraft spec signals columns program = is_draft spec signals columns graph h in
    record {
      few_ft = omega (arith, few_ft spec signals columns program ready draft few);
      few_pt = omega (arith, few_pt spec signals columns program ready draft few);
      in_order = in_order program (ft_rule spec signals columns program ready draft);
      bounded = bounded program (ft_rule spec signals columns program ready draft);
      bounded_past = bounded_past program (pt_rule spec signals columns program ready draft);
      named = named spec signals columns program ready draft;
    }

-- the program of a graph, its sizes and the stored signals
pub record IsBuilt (spec : Expanded) (signals : List Signal) (columns : Columns) (program : Program) : Type 0 where
  pub layout : HasLayout program
  pub well_formed : IsWellFormed program
  pub image : IsImageOf signals columns (asked spec) program

pub built : (spec : Expanded) (signals : List Signal) (columns : Columns) (program : Program) → IsBuildable spec signals columns → IsDraft spec signals columns program → AreFew (asked_in columns.of_signal spec)
    → program.sizes.ft ≡ queue_lengths program.ft program.outs → program.sizes.pt ≡ box_counts program.pt
    → All (λ rows. rows ≤ 16777216) (worst_delays program.ft) → slot_count program.ft program.pt program.outs ≤ 16777216 → IsBuilt spec signals columns program
built spec signals columns program ready draft few queues boxes in_time fits = record {
  layout = layout spec signals columns program ready draft few queues boxes;
  well_formed = well_formed spec signals columns program ready draft few queues boxes in_time fits;
  image = record { version = draft.version; width = draft.width; lists = draft.lists; queues = queues; boxes = boxes; inputs = draft.kept };
}

-- why there is no graph
pub graph_reason : (asks : List Asked) (fault : GraphFault) → (◌≡◌ {A = Result Graph GraphFault} (Err fault) (Err core.TooManyNodes) → AreMany asks) → IsReason asks (graph_limit fault)
graph_reason asks core.TooManyNodes many = many refl
graph_reason asks core.Memory many = tt

-- why a graph has no sizes, as a limit of the outputs
pub reason : (asks : List Asked) (graph : Graph) (fault : BuildFault) → IsGraphOf asks graph → AreFew asks → IsSizeReason graph fault → IsReason asks fault
reason asks graph TooManyNodes h few none = absurd none
reason asks graph TooLate h few late = (few, subst (λ (ops : List FtOp). Any (λ rows. 16777216 < rows) (worst_delays ops)) h.ft late)
reason asks graph TooManySlots' h few large =
    let same : slot_count graph.ft graph.pt graph.outs ≡ slots_needed asks =
    ap (λ (ops : List FtOp). slot_count ops graph.pt graph.outs) h.ft
    ∙ (ap (λ (ops : List PtOp). slot_count (ft_list asks) ops graph.outs) h.pt ∙ ap (λ (os : List Out). slot_count (ft_list asks) (pt_list asks) os) h.reports) in
    (few, subst (λ (ops : List FtOp). All (λ rows. rows ≤ 16777216) (worst_delays ops)) h.ft large.0, subst (λ (n : ℕ). 16777216 < n) same large.1)
reason asks graph Memory h few none = tt

-- the image of what can be built within the limits keeps the verifier's rules
pub image_built : (spec : Expanded) (signals : List Signal) (columns : Columns) (program : Program) → IsBuildable spec signals columns → IsWithinLimits (asked_in columns.of_signal spec) → IsImageOf signals columns (asked spec) program
    → IsBuilt spec signals columns program
image_built spec signals columns program ready limits image =
    let asks : List Asked = asked_in columns.of_signal spec in
    let draft : IsDraft spec signals columns program = record { version = image.version; width = image.width; lists = image.lists; kept = image.inputs } in
    let slots : slot_count program.ft program.pt program.outs ≡ slots_needed asks =
    ap (λ (ops : List FtOp). slot_count ops program.pt program.outs) image.lists.ft
    ∙ (ap (λ (ops : List PtOp). slot_count (ft_list asks) ops program.outs) image.lists.pt ∙ ap (λ (os : List Out). slot_count (ft_list asks) (pt_list asks) os) image.lists.reports) in
    built spec signals columns program ready draft limits.few image.queues image.boxes
    (subst (λ (ops : List FtOp). All (λ rows. rows ≤ 16777216) (worst_delays ops)) (sym image.lists.ft) limits.in_time)
    (subst (λ (n : ℕ). n ≤ 16777216) (sym slots) limits.fits)

pub image_well_formed : (spec : Expanded) (signals : List Signal) (columns : Columns) (program : Program) → IsBuildable spec signals columns → IsWithinLimits (asked_in columns.of_signal spec) → IsImageOf signals columns (asked spec) program
    → IsWellFormed program
image_well_formed spec signals columns program ready limits image = (image_built spec signals columns program ready limits image).well_formed

pub image_layout : (spec : Expanded) (signals : List Signal) (columns : Columns) (program : Program) → IsBuildable spec signals columns → IsWithinLimits (asked_in columns.of_signal spec) → IsImageOf signals columns (asked spec) program
    → HasLayout program
image_layout spec signals columns program ready limits image = (image_built spec signals columns program ready limits image).layout

-- there is one image
made : ℕ → ℕ → List BzOp → List FtOp → List PtOp → List Out → List ℕ → List ℕ → List StoredSignal → Program
made version width bz ft pt reports queues boxes signals = record {
  version = version;
  width = width;
  bz = bz;
  ft = ft;
  pt = pt;
  outs = reports;
  sizes = record { ft = queues; pt = boxes };
  signals = signals;
}

made_once : (p q : Program) → p.version ≡ q.version → p.width ≡ q.width → p.bz ≡ q.bz → p.ft ≡ q.ft → p.pt ≡ q.pt → p.outs ≡ q.outs → p.sizes.ft ≡ q.sizes.ft → p.sizes.pt ≡ q.sizes.pt → p.signals ≡ q.signals →
    made p.version p.width p.bz p.ft p.pt p.outs p.sizes.ft p.sizes.pt p.signals ≡ made q.version q.width q.bz q.ft q.pt q.outs q.sizes.ft q.sizes.pt q.signals
made_once p q version width bz ft pt reports queues boxes signals = cc

same_program : (p q : Program) → p.version ≡ q.version → p.width ≡ q.width → p.bz ≡ q.bz → p.ft ≡ q.ft → p.pt ≡ q.pt → p.outs ≡ q.outs → p.sizes.ft ≡ q.sizes.ft → p.sizes.pt ≡ q.sizes.pt → p.signals ≡ q.signals → p ≡ q
unfolding made
same_program p q version width bz ft pt reports queues boxes signals = made_once p q version width bz ft pt reports queues boxes signals

pub image_once : (signals : List Signal) (columns : Columns) (asks : List Asked) (p q : Program) → IsImageOf signals columns asks p → IsImageOf signals columns asks q → p ≡ q
image_once signals columns asks p q h g =
    let ft : p.ft ≡ q.ft = h.lists.ft ∙ sym g.lists.ft in
    let pt : p.pt ≡ q.pt = h.lists.pt ∙ sym g.lists.pt in
    let reports : p.outs ≡ q.outs = h.lists.reports ∙ sym g.lists.reports in
    same_program p q (h.version ∙ sym g.version) (h.width ∙ sym g.width) (h.lists.bz ∙ sym g.lists.bz) ft pt reports
    (h.queues ∙ (ap₂ queue_lengths ft reports ∙ sym g.queues)) (h.boxes ∙ (ap box_counts pt ∙ sym g.boxes)) (h.inputs ∙ sym g.inputs)
