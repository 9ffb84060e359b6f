use Rattle.std.proofs.Common.{subst, sym, option_map}
use Rattle.tool_io.proofs.LogLaws.{OnLog-map}
use Rattle.c2po_cli.specs.Phases.{PutLog}
use Rattle.c2po_cli.proofs.MakeRuns.{put_plain}
use Rattle.c2po_cli.proofs.output.write_out.Goals as goal

pub returns-in-None-clause-log : goal.returns-in-None-clause-log
returns-in-None-clause-log g c =
    OnLog-map _ _ _ c.give.ensures.log
    (λ events has. subst (λ out. PutLog c.give.result (option_map (λ name. name.now) out) c.args.bytes.now events) (sym c.in-None.is) (put_plain c.give.result c.args.bytes.now events has))
