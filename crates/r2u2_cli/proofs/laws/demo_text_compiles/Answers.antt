use Rattle.std.proofs.Common.{ap}
use Rattle.std.specs.Result.{is_ok}
use Rattle.r2u2_cli.proofs.DemoCompiles.{compiles, outputs_are}
use Rattle.r2u2_cli.proofs.laws.demo_text_compiles.Goals as goal

pub returns-clause-compiles : goal.returns-clause-compiles
returns-clause-compiles c = ap is_ok compiles

pub returns-clause-outputs : goal.returns-clause-outputs
returns-clause-outputs c = outputs_are
