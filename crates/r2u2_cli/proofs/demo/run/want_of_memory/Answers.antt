use Rattle.r2u2_cli.proofs.DemoCompiles.{never_refused}
use Rattle.r2u2_cli.proofs.demo.run.want_of_memory.Goals as goal

pub unreachable-requires : goal.unreachable-requires
unreachable-requires c = never_refused c.args.fault c.requires c.in_default.not-Memory
