use Rattle.std.proofs.Common.{refl}
use Rattle.tool_io.proofs.LogLaws.{OnLog-map}
use Rattle.r2u2_cli.proofs.trace_run.watch_loaded.Goals as goal

pub returns-clause-log : goal.returns-clause-log
returns-clause-log g c =
    OnLog-map _ _ _ c.watch_asked-watched.ensures.log
    (λ events watch. record {
      cut = c.watch_asked-watched.new.cut;
      monitor = c.watch_asked-watched.new.monitor;
      ended_so = c.watch_asked-watched.result;
      is = c.status_after.ensures.status;
      watch = watch;
      kept_is = refl;
    })
