-- A definition without a fault is known after it.
use Rattle.std.proofs.Common.{◌≡◌, Ok, rules}
use Rattle.c2po_types.proofs.Parts.{ok_before}
use Rattle.c2po_types.proofs.progress.Progress.step_define.Goals as goal

pub returns-clause-reached : goal.returns-clause-reached
returns-clause-reached c =
    let was : c.define.result ≡ Ok c.in_ok-fault.fault = ok_before c.define.result c.map_err.result _ c.in_ok-fault.fault c.map_err.ensures.cases c.in_ok-fault.was in
    search (rules, was)
