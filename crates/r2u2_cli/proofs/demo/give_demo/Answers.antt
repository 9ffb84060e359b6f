use Rattle.std.proofs.Common.{refl}
use Rattle.tool_io.proofs.LogLaws.{OnLog-map, OnLog-none}
use Rattle.r2u2_cli.specs.Demo.{KeepsDemo}
use Rattle.r2u2_cli.proofs.AskedRuns.{demo_told}
use Rattle.r2u2_cli.proofs.demo.give_demo.Goals as goal

pub returns-in-Ok-clause-log : goal.returns-in-Ok-clause-log
returns-in-Ok-clause-log g c =
    let demo = c.in-Ok.demo in
    let keeps : KeepsDemo c.args.seed c.args.rows c.give_summary.new.kept = record { monitor = demo.monitor; is = c.give_summary.ensures.kept; program = c.in-Ok.ensures.program; stands = c.in-Ok.ensures.stands; drained = c.in-Ok.ensures.drained } in
    OnLog-map _ _ _ c.give_summary.ensures.log
    (λ events told. demo_told c.give_summary.result c.args.seed c.args.rows demo.summary.items c.give_summary.new.kept events c.in-Ok.ensures.summary keeps told)

pub returns-in-Err-clause-log : goal.returns-in-Err-clause-log
returns-in-Err-clause-log g c = OnLog-none _ _ (refl, c.requires.none_kept)
