use Rattle.std.proofs.Common.{◌∙◌, ap, sym, Ok}
use Rattle.std.proofs.lemmas.Result.{IfOk-at_ok, IfOk-weaker}
use Rattle.c2po_types.proofs.Parts.{ok_before}
use Rattle.r2u2_cli.proofs.demo.run.demo_monitor.Goals as goal

pub returns-clause-program : goal.returns-clause-program
returns-clause-program c =
    let made = ok_before c.compile.result c.map_err.result _ c.in_ok-checked.checked c.map_err.ensures.cases c.in_ok-checked.was in
    IfOk-weaker c.load.result _ _ (λ monitor is. IfOk-at_ok _ made c.compile.ensures.program ∙ ap Ok (sym is)) c.load.ensures.program
