use Rattle.std.proofs.Common.{slice_get, ap, ◌∙◌}
use Rattle.std.specs.Prelude.{option_map}
use Rattle.mltl_base.specs.declared.program.Program.{Program}
use Rattle.mltl_base.specs.Programs.{outputs}
use Rattle.mltl_base.specs.Reports.{delay}
use Rattle.r2u2_c.proofs.Calls.{delay_told, is_open_as}
use Rattle.r2u2_c.proofs.queries.r2u2_delay.Goals as goal

pub returns-in-Some-clause-delay : goal.returns-in-Some-clause-delay
returns-in-Some-clause-delay c =
    delay_told c.get.result.now c.args.it.now.handle.value c.args.k c.delay_of.result c.unwrap_or-delay.result
    (is_open_as c.get.result.now c.in-Some.held.monitor.value c.args.it.now.handle.value c.in-Some.ensures.taken c.get.ensures)
    (c.delay_of.ensures ∙ ap (λ (p : Program). option_map delay (slice_get (outputs p) c.args.k)) c.checked.ensures.program) c.unwrap_or-delay.ensures
