use Rattle.std.proofs.Common.{ap, sym, ◌∙◌, length}
use Rattle.mltl_base.specs.declared.program.Program.{Program}
use Rattle.trace_feed.specs.Readings.{readings_of}
use Rattle.r2u2_monitor.specs.declared.state.State.{State}
use Rattle.r2u2_monitor.specs.Bytes.{monitor_bytes}
use Rattle.r2u2_monitor.proofs.Holding.{holds_what_it_takes}
use Rattle.r2u2_monitor.proofs.Keeping.{sound_at_start, stands_at_start}
use Rattle.r2u2_monitor.proofs.monitor.Monitor.load.Goals as goal

pub returns-clause-stands : goal.returns-clause-stands
returns-clause-stands c = stands_at_start _ c.in_ok-running.ensures.stands

pub invariant_of-result : goal.invariant_of-result
invariant_of-result c =
    let running = c.in_ok-running.ensures in
    let numbers = running.numbers ∙ ap (λ (p : Program). length p.bz) (sym running.program) in
    let rows = c.in_ok-read.ensures in
    let width = ap (λ (p : Program). p.width) (sym running.program) in
    record {
      sound = sound_at_start _ running.stands running.taken numbers (rows.read ∙ width);
      resumes = λ rows future past count known. c.start.ensures c.in_ok-running.running.checked rows c.in_ok-running.running.outs;
      readings = rows.readings ∙ ap readings_of (sym running.program);
    }

pub returns-clause-bytes : goal.returns-clause-bytes
returns-clause-bytes c =
    let running = c.in_ok-running.ensures in
    let numbers = running.numbers ∙ ap (λ (p : Program). length p.bz) (sym running.program) in
    let rows = c.in_ok-read.ensures in
    let width = ap (λ (p : Program). p.width) (sym running.program) in
    let monitor : State = record { running = c.in_ok-running.running; last = c.of-last.result.numbers; read = c.in_ok-read.read } in
    holds_what_it_takes monitor (sound_at_start monitor running.stands running.taken numbers (rows.read ∙ width))
    ∙ ap (λ (p : Program). monitor_bytes p) running.program
