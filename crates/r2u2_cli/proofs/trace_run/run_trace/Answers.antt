use Rattle.tool_io.specs.declared.host.Place.TheVariants.{Trace}
use Rattle.tool_words.specs.R2u2Words.{run_of}
use Rattle.tool_io.proofs.LogLaws.{OnLog-map}
use Rattle.tool_words.proofs.PhaseLaws.{OnLog-attached, OnLog-missed}
use Rattle.r2u2_cli.proofs.TraceRuns.{trace_ran, trace_missed}
use Rattle.r2u2_cli.proofs.trace_run.run_trace.Goals as goal

pub returns-in-Failed-clause-log : goal.returns-in-Failed-clause-log
returns-in-Failed-clause-log g c bytes opens =
    OnLog-map _ _ _ (OnLog-missed _ _ Trace c.args.asked.now.trace.now c.in-Failed.ensures.log) (λ events has. rw c.requires.none_kept (trace_missed (run_of c.args.asked.now) bytes events has))

pub returns-clause-log : goal.returns-clause-log
returns-clause-log g c bytes opens =
    OnLog-map _ _ _ (OnLog-attached _ _ _ Trace c.args.asked.now.trace.now _ c.in_default.ensures.log (c.run_lines.ensures.log bytes opens)) (λ events has. trace_ran (run_of c.args.asked.now) bytes _ _ events has.0 has.1 has.2)
