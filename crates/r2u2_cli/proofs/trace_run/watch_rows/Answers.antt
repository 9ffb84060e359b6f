use Rattle.std.proofs.Common.{subst, inr}
use Rattle.tool_io.proofs.LogLaws.{OnLog-map}
use Rattle.tool_words.specs.R2u2Words.{run_of}
use Rattle.r2u2_cli.specs.Phases.{RanLoop}
use Rattle.r2u2_cli.proofs.trace_run.watch_rows.Goals as goal

pub returns-in-Ok-clause-log : goal.returns-in-Ok-clause-log
returns-in-Ok-clause-log g c =
    OnLog-map _ _ _ c.watch_loaded.ensures.log
    (λ events ran. inr (subst (λ program. RanLoop program (run_of c.args.asked.now) c.args.cut.now c.watch_loaded.result c.watch_loaded.new.kept events) c.in-Ok.ensures.program ran))
