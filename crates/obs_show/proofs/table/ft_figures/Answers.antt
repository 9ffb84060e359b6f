use Rattle.std.proofs.Common.{◌≡◌, [], length, arith, ap, ◌∙◌}
use Rattle.mltl_base.specs.Queues.{best_of, worst_of, best_delays, worst_delays}
use Rattle.delay_sizes.proofs.DelayLaws.{length-numbered_after}
use Rattle.obs_show.proofs.table.ft_figures.Goals as goal

pub offset_bounds-best-i : goal.offset_bounds-best-i
offset_bounds-best-i c = omega (arith, c.requires, c.program.ensures.layout.few_ft)

pub bounds-best-i : goal.bounds-best-i
bounds-best-i c =
    let same : c.as_slice-best.result.now ≡ best_delays c.args.checked.now.ft = c.as_slice-best.ensures ∙ c.delays.ensures.best in
    omega (arith, c.requires, ap length same, length-numbered_after best_of [] c.args.checked.now.ft)

pub bounds-worst-i : goal.bounds-worst-i
bounds-worst-i c =
    let same : c.as_slice-worst.result.now ≡ worst_delays c.args.checked.now.ft = c.as_slice-worst.ensures ∙ c.delays-2.ensures.worst in
    omega (arith, c.requires, ap length same, length-numbered_after worst_of [] c.args.checked.now.ft)
