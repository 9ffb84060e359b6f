use Rattle.api_tests.proofs.Runs.{ran_is}
use Rattle.api_tests.proofs.joined.run_over.Goals as goal

pub returns : goal.returns
returns c =
    ran_is c.args.watching.now c.r2u2_main.result c.r2u2_main.new.kept c.args.watcher.now.host c.r2u2_main.new.host.host c.requires c.r2u2_main.ensures.cause c.r2u2_main.ensures.log
