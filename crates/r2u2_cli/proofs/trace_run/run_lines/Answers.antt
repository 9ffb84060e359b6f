use Rattle.tool_words.specs.R2u2Words.{run_of}
use Rattle.tool_io.proofs.LogLaws.{OnLog-none, OnLog-map, OnLog-then}
use Rattle.r2u2_cli.proofs.OpenLaws.{opens_unrefused}
use Rattle.r2u2_cli.proofs.LineRuns.{lines_ran, lines_stopped, lines_unmade}
use Rattle.r2u2_cli.proofs.trace_run.run_lines.Goals as goal

pub returns-in-Err-clause-log : goal.returns-in-Err-clause-log
returns-in-Err-clause-log g c bytes opens = OnLog-none _ _ (rw c.requires.none_kept (lines_unmade (run_of c.args.asked.now) bytes))

pub returns-in-Ok-read_first_line-clause-log : goal.returns-in-Ok-read_first_line-clause-log
returns-in-Ok-read_first_line-clause-log g c bytes opens =
    OnLog-then _ _ _ _ c.in-Ok-read_first_line.ensures.log (c.run_rows.ensures.log bytes opens)
    (λ first second read rows. lines_ran (run_of c.args.asked.now) bytes _ _ _ first second (opens_unrefused c.args.opened c.args.asked.now.kind bytes opens) read.0 read.1 rows)

pub returns-in-Err-read_first_line-clause-log : goal.returns-in-Err-read_first_line-clause-log
returns-in-Err-read_first_line-clause-log g c bytes opens =
    OnLog-map _ _ _ c.in-Err-read_first_line.ensures.log
    (λ events read. rw c.requires.none_kept (lines_stopped (run_of c.args.asked.now) bytes _ _ events (opens_unrefused c.args.opened c.args.asked.now.kind bytes opens) read))
