use Rattle.std.proofs.Common.{◌≤◌, ap, arith, length, take}
use Rattle.std.proofs.lemmas.List.{length-take}
use Rattle.mltl_base.specs.declared.program.Program.{Program}
use Rattle.r2u2_monitor.specs.Bursts.{most_reports}
use Rattle.r2u2_monitor.specs.Monitoring.{program_of}
use Rattle.r2u2_monitor.proofs.Giving.{few_given, steps_over}
use Rattle.r2u2_monitor.proofs.monitor.Monitor.step.Goals as goal

pub returns-in-Ok-clause-steps_over : goal.returns-in-Ok-clause-steps_over
returns-in-Ok-clause-steps_over g c =
    steps_over c.args.style c.args.row.now _ c.args.self.now c.try_take.new.self c.next_many.new.self c.in-Ok.ensures.takes c.next_many.ensures.returns

pub returns-in-Ok-clause-counted : goal.returns-in-Ok-clause-counted
returns-in-Ok-clause-counted g c =
    let told = take c.next_many.result c.next_many.new.reports in
    let few : length told ≤ most_reports (program_of c.args.self.now) =
    few_given c.args.style c.args.row.now told c.args.self.now c.try_take.new.self c.next_many.new.self c.in-Ok.ensures.represents c.in-Ok.ensures.takes c.in-Ok.ensures.few c.next_many.ensures.returns in
    let same = ap (λ (p : Program). length p.outs) c.in-Ok.ensures.takes.program in
    omega (arith, few, same, length-take c.next_many.result c.next_many.new.reports, c.try_take.ensures.counted, c.next_many.ensures.counted)
