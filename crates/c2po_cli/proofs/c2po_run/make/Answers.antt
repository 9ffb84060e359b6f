use Rattle.std.proofs.Common.{subst}
use Rattle.tool_io.proofs.LogLaws.{OnLog-map, OnLog-then}
use Rattle.c2po_cli.specs.Asking.{make_of}
use Rattle.c2po_cli.specs.Phases.{PutLog}
use Rattle.c2po_cli.proofs.MakeRuns.{make_refused, make_written}
use Rattle.c2po_cli.proofs.c2po_run.make.Goals as goal

pub returns-in-Ok-clause-log : goal.returns-in-Ok-clause-log
returns-in-Ok-clause-log g c =
    OnLog-then _ _ _ _ c.in-Ok.ensures.log c.write_out.ensures.log
    (λ first second gathered put. make_written (make_of c.args.asked.now) c.in-Ok.bytes.items c.write_out.result first second gathered
    (subst (λ bytes. PutLog c.write_out.result (make_of c.args.asked.now).out bytes second) c.deref.ensures.value put))

pub returns-in-Err-clause-log : goal.returns-in-Err-clause-log
returns-in-Err-clause-log g c =
    OnLog-map _ _ _ c.in-Err.ensures.log (λ events refused. make_refused (make_of c.args.asked.now) c.in-Err.status events refused)
