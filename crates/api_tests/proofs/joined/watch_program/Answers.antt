use Rattle.std.proofs.Common.{ap}
use Rattle.tool_io.specs.MemHost.{Held}
use Rattle.api_tests.proofs.Runs.{ran_from}
use Rattle.api_tests.proofs.joined.watch_program.Goals as goal

pub returns-then-has_read-clause-ran : goal.returns-then-has_read-clause-ran
returns-then-has_read-clause-ran c =
    ran_from c.args.watching.now c.run_over-status.result c.args.watcher.now.host c.put_program.new.self.host c.run_over-status.new.watcher.host
    (ap (λ (host : Held). host.faults) c.put_program.ensures.rest) c.run_over-status.ensures

pub returns-else-has_read-clause-ran : goal.returns-else-has_read-clause-ran
returns-else-has_read-clause-ran c =
    ran_from c.args.watching.now c.run_over-status.result c.args.watcher.now.host c.put_program.new.self.host c.run_over-status.new.watcher.host
    (ap (λ (host : Held). host.faults) c.put_program.ensures.rest) c.run_over-status.ensures
