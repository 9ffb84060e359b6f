-- What may be read of a monitor without it, after a call.

use Rattle.std.specs.Prelude.{⊤}
use Rattle.std.proofs.Common.{◌≡◌, ℕ, Option, Some, Result, Ok, Err, length, sym, ap, subst, ◌∙◌}
use Rattle.std.specs.Prelude.{OnErr, OnOk}
use Rattle.mltl_base.specs.declared.program.Program.{Program}
use Rattle.mltl_base.specs.Atoms.{Row}
use Rattle.mltl_base.specs.Programs.{output_names}
use Rattle.r2u2_monitor.specs.declared.row_fault.RowFault.{RowFault}
use Rattle.r2u2_monitor.specs.declared.state.State.{State}
use Rattle.r2u2_monitor.specs.Bursts.{most_reports}
use Rattle.r2u2_monitor.specs.Monitoring.{TakesRow, program_of, taken_by}
use Rattle.r2u2_monitor.specs.Work.{row_work}
use Rattle.r2u2_c.specs.Queries.{MirrorsMonitor}

-- where its program stays, with the number of rows that it has now
pub told_after : (m n : State) (before : Option State) (taken now columns outs stored work most : ℕ) → before ≡ Some m → MirrorsMonitor before taken columns outs stored work most
    → program_of n ≡ program_of m → now ≡ taken_by n → MirrorsMonitor (Some n) now columns outs stored work most
told_after m n before taken now columns outs stored work most is told same as_many =
    let old : MirrorsMonitor (Some m) taken columns outs stored work most = subst (λ (o : Option State). MirrorsMonitor o taken columns outs stored work most) is told in
    record {
      rows = as_many;
      width = old.width ∙ ap (λ (p : Program). p.width) (sym same);
      outputs = old.outputs ∙ ap (λ (p : Program). length (output_names p)) (sym same);
      signals = old.signals ∙ ap (λ (p : Program). length p.signals) (sym same);
      steps = old.steps ∙ ap (λ (p : Program). row_work p) (sym same);
      reports = old.reports ∙ ap (λ (p : Program). most_reports p) (sym same);
    }

-- a row that was taken or not leaves the program
pub program_kept : (taken : Result ⊤ RowFault) (row : Row) (m n : State) → OnOk taken (TakesRow row m n) → OnErr taken (n ≡ m) → program_of n ≡ program_of m
program_kept (Ok t) row m n takes same = takes.program
program_kept (Err fault) row m n takes same = ap program_of same
