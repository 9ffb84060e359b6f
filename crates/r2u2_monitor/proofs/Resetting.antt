-- What runs in a monitor, once it begins again.

use Rattle.std.proofs.Common.{◌≡◌, ℕ, List, [], replicate, length, arith, ap, sym, subst, ◌∙◌}
use Rattle.std.specs.Prelude.{slice_index}
use Rattle.std.proofs.lemmas.List.{length-replicate}
use Rattle.mltl_base.specs.declared.program.Program.{Program}
use Rattle.mltl_base.specs.Atoms.{Row}
use Rattle.obs_verify.specs.Layout.{HasLayout}
use Rattle.obs_verify.specs.WellFormed.{IsWellFormed}
use Rattle.ft_engine.specs.Standing as future
use Rattle.pt_boxes.specs.Standing as past
use Rattle.contract_status.specs.Open.{ArePlaced, known_counts_of}
use Rattle.contract_status.proofs.Moving.{counts_at_start}
use Rattle.r2u2_monitor.specs.declared.running.Running.{Running}
use Rattle.r2u2_monitor.specs.Running.{HasTaken, IsDrained}
use Rattle.r2u2_monitor.proofs.LastRows.{none_before}
use Rattle.r2u2_monitor.proofs.Taking.{drained_at_start}

-- next times of 0 are those before the first row
counts_of_start : (program : Program) (next_times : List ℕ) → next_times ≡ replicate (length program.outs) 0 → next_times ≡ known_counts_of program []
counts_of_start program next_times start = start ∙ counts_at_start program

placed_at_start : (program : Program) (next_times : List ℕ) → next_times ≡ replicate (length program.outs) 0 → ArePlaced program [] next_times
placed_at_start program next_times start = record {
  count = ap (λ (ns : List ℕ). length ns) start ∙ length-replicate (length program.outs) 0;
  known = λ k inside. omega (arith, ap (λ (ns : List ℕ). slice_index ns k) (counts_of_start program next_times start));
  recent = λ before row is. absurd (none_before before row is);
}

module _ (old new : Running) (rows : List Row) (taken : HasTaken old rows) (same : new.checked ≡ old.checked) (start : new.outs ≡ replicate (length old.outs) 0) (none : new.taken ≡ 0) where
  start_of : new.outs ≡ replicate (length new.checked.outs) 0
  start_of = start ∙ ap (λ (n : ℕ). replicate n 0) (taken.stand.placed.count ∙ ap (λ (p : Program). length p.outs) (sym same))

  -- it stands for no rows, and nothing is open
  pub begun : future.FtHasTaken old.checked [] new.ft → past.PtHasTaken old.checked [] new.pt → HasTaken new []
  begun ahead behind = record {
    layout = subst HasLayout (sym same) taken.layout;
    formed = subst IsWellFormed (sym same) taken.formed;
    fit = λ k d inside. absurd (omega arith);
    stand = record {
      future = subst (λ (p : Program). future.FtHasTaken p [] new.ft) (sym same) ahead;
      past = subst (λ (p : Program). past.PtHasTaken p [] new.pt) (sym same) behind;
      placed = placed_at_start new.checked new.outs start_of;
      count = sym none;
    };
  }

  pub begun_drained : IsDrained new
  begun_drained = drained_at_start new none (counts_of_start new.checked new.outs start_of)
