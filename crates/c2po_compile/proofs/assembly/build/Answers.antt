-- The program is the image, and so it is well-formed.
use Rattle.std.proofs.Common.{◌∙◌, ◌≤◌, All, ap₂, refl, subst}
use Rattle.std.proofs.lemmas.Result.{err_from_is_err_and}
use Rattle.mltl_base.specs.declared.program.Program.{Program}
use Rattle.mltl_base.specs.Queues.{worst_delays}
use Rattle.c2po_ast.specs.Outputs.{asked_in}
use Rattle.c2po_compile.specs.Images.{stored_signals}
use Rattle.c2po_compile.proofs.Building.{IsDraft, IsBuilt, sizable, built, graph_reason, reason}
use Rattle.c2po_compile.proofs.assembly.build.Goals as goal

pub timing_of-requires : goal.timing_of-requires
timing_of-requires c = sizable c.args.spec.now c.args.signals.now c.args.columns.now c.in_ok-graph.graph c.requires c.in_ok-graph.ensures.graph c.in_ok-graph.ensures.few

pub returns-in_err-graph-clause-refused : goal.returns-in_err-graph-clause-refused
returns-in_err-graph-clause-refused c =
    let e = err_from_is_err_and c.from_residual.result c.from_residual.ensures.1 in
    rw (e.1, e.2) (graph_reason (asked_in c.args.columns.now.of_signal c.args.spec.now) c.in_err-graph.field-0.0 c.in_err-graph.ensures.too_many)

pub returns-in_err-timing-clause-refused : goal.returns-in_err-timing-clause-refused
returns-in_err-timing-clause-refused c =
    let e = err_from_is_err_and c.from_residual-in_err-timing.result c.from_residual-in_err-timing.ensures.1 in
    rw (e.1, e.2) (reason (asked_in c.args.columns.now.of_signal c.args.spec.now) c.in_ok-graph.graph c.in_err-timing.field-0.0 c.in_ok-graph.ensures.graph c.in_ok-graph.ensures.few c.in_err-timing.ensures.refused)

pub of-requires : goal.of-requires
of-requires c =
    let found = c.in_ok-timing.timing in
    let program : Program = record {
      version = 2;
      width = c.args.columns.now.width;
      bz = c.in_ok-graph.graph.bz;
      ft = c.in_ok-graph.graph.ft;
      pt = c.in_ok-graph.graph.pt;
      outs = c.in_ok-graph.graph.outs;
      sizes = found.sizes;
      signals = c.in_ok-stored.stored;
    } in
    let draft : IsDraft c.args.spec.now c.args.signals.now c.args.columns.now program = record {
      version = refl;
      width = refl;
      lists = record { bz = c.in_ok-graph.ensures.graph.bz; ft = c.in_ok-graph.ensures.graph.ft; pt = c.in_ok-graph.ensures.graph.pt; reports = c.in_ok-graph.ensures.graph.reports };
      kept = c.in_ok-stored.ensures ∙ ap₂ stored_signals c.as_slice.ensures c.as_slice-2.ensures;
    } in
    let in_time : All (λ rows. rows ≤ 16777216) (worst_delays program.ft) = subst (All (λ rows. rows ≤ 16777216)) c.in_ok-timing.ensures.worst c.in_ok-timing.ensures.in_time in
    let all : IsBuilt c.args.spec.now c.args.signals.now c.args.columns.now program =
    built c.args.spec.now c.args.signals.now c.args.columns.now program c.requires draft c.in_ok-graph.ensures.few c.in_ok-timing.ensures.sizes.ft c.in_ok-timing.ensures.sizes.pt in_time c.in_ok-timing.ensures.fits in
    record {
      layout = all.layout;
      well_formed = all.well_formed;
      best = c.in_ok-timing.ensures.best;
      worst = c.in_ok-timing.ensures.worst;
      in_time = c.in_ok-timing.ensures.in_time;
    }
