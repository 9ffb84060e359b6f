use Rattle.std.proofs.Common.{◌≡◌, ℕ, List, length, ap, ◌∙◌, arith}
use Rattle.mltl_base.specs.Queues.{best_delays, worst_delays}
use Rattle.r2u2_monitor.proofs.Delays.{one_best_each, one_each}
use Rattle.r2u2_monitor.proofs.bursts.most_of_future.Goals as goal

pub bounds-worsts-i : goal.bounds-worsts-i
bounds-worsts-i c =
    let same : c.as_slice-worsts.result.now ≡ worst_delays c.args.checked.now.ft = c.as_slice-worsts.ensures ∙ c.delays.ensures.worst in
    omega (arith, one_each c.args.checked.now, ap (λ (ns : List ℕ). length ns) same)

pub bounds-worsts-j : goal.bounds-worsts-j
bounds-worsts-j c =
    let same : c.as_slice-worsts.result.now ≡ worst_delays c.args.checked.now.ft = c.as_slice-worsts.ensures ∙ c.delays.ensures.worst in
    omega (arith, one_each c.args.checked.now, ap (λ (ns : List ℕ). length ns) same)

pub bounds-as_slice-i : goal.bounds-as_slice-i
bounds-as_slice-i c =
    let same : c.as_slice.result.now ≡ best_delays c.args.checked.now.ft = c.as_slice.ensures ∙ c.delays-2.ensures.best in
    omega (arith, one_best_each c.args.checked.now, ap (λ (ns : List ℕ). length ns) same)
