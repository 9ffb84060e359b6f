use Rattle.std.proofs.Common.{◌≡◌, ℕ, List, length, ap, ◌∙◌, arith}
use Rattle.mltl_base.specs.Queues.{worst_delays}
use Rattle.r2u2_monitor.proofs.Delays.{one_each}
use Rattle.r2u2_monitor.proofs.queries.delay_of_formula.Goals as goal

pub bounds-as_slice-i : goal.bounds-as_slice-i
bounds-as_slice-i c =
    let same : c.as_slice.result.now ≡ worst_delays c.args.checked.now.ft = c.as_slice.ensures ∙ c.delays.ensures.worst in
    omega (arith, c.requires c.in-Ft.is, one_each c.args.checked.now, ap (λ (ns : List ℕ). length ns) same)
