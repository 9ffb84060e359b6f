use Rattle.std.proofs.Common.{Option, Some, ap, length, subst, sym, ◌∙◌}
use Rattle.mltl_base.specs.declared.program.Program.{Program}
use Rattle.r2u2_monitor.specs.declared.state.State.{State}
use Rattle.r2u2_monitor.specs.Bursts.{most_reports}
use Rattle.r2u2_monitor.specs.Monitoring.{program_of, taken_by}
use Rattle.r2u2_monitor.specs.Work.{row_work}
use Rattle.r2u2_c.specs.Queries.{MirrorsMonitor, open_names, open_signals, open_width}
use Rattle.r2u2_c.proofs.c_monitor.R2u2.of.Goals as goal

pub invariant_of-result : goal.invariant_of-result
invariant_of-result c = record {
  told = subst (λ (o : Option State). MirrorsMonitor o c.rows_taken-rows.result c.width_in-width.result c.outputs_in-outputs.result c.signals_in-signals.result c.row_work-steps.result c.most_reports-most.result) (sym c.with.ensures)
      (record {
        rows = c.rows_taken-rows.ensures.taken ∙ ap taken_by c.deref.ensures;
        width = c.width_in-width.ensures ∙ ap (λ (s : State). open_width (Some s)) c.deref-2.ensures;
        outputs = c.outputs_in-outputs.ensures ∙ ap (λ (s : State). length (open_names (Some s))) c.deref-3.ensures;
        signals = c.signals_in-signals.ensures ∙ ap (λ (s : State). length (open_signals (Some s))) c.deref-4.ensures;
        steps = c.row_work-steps.ensures ∙ ap (λ (p : Program). row_work p) c.checked.ensures.program ∙ ap (λ (s : State). row_work (program_of s)) c.deref-5.ensures;
        reports = c.most_reports-most.ensures.most ∙ ap (λ (p : Program). most_reports p) c.checked-2.ensures.program ∙ ap (λ (s : State). most_reports (program_of s)) c.deref-6.ensures;
      });
}
