use Rattle.tool_words.proofs.PhaseLaws.{no_call_cause}
use Rattle.r2u2_cli.proofs.trace_run.run_bytes.Goals as goal

pub returns-in-Err-clause-cause : goal.returns-in-Err-clause-cause
returns-in-Err-clause-cause g c = no_call_cause c.in-Err.status (g.H.Host.faults c.args.host.now) c.in-Err.ensures.no_call
