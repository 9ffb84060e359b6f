use Rattle.tool_words.specs.R2u2Words.{run_of}
use Rattle.tool_io.proofs.LogLaws.{OnLog-map, OnLog-then}
use Rattle.r2u2_cli.proofs.FileRuns.{run_unread, run_file_ran}
use Rattle.r2u2_cli.proofs.r2u2_run.run_file.Goals as goal

pub returns-in-Ok-clause-log : goal.returns-in-Ok-clause-log
returns-in-Ok-clause-log g c =
    OnLog-then _ _ _ _ c.in-Ok.ensures.log c.run_bytes.ensures.log
    (λ first second read ran. run_file_ran (run_of c.args.asked.now) c.in-Ok.bytes _ _ first second read ran)

pub returns-in-Err-clause-log : goal.returns-in-Err-clause-log
returns-in-Err-clause-log g c =
    OnLog-map _ _ _ c.in-Err.ensures.log (λ events read. rw c.requires.none_kept (run_unread (run_of c.args.asked.now) c.in-Err.status events read))
