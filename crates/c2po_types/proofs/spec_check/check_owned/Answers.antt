use Rattle.std.proofs.Common.{◌∙◌, sym, ap, map}
use Rattle.c2po_ast.specs.ItemShape.{item_shape}
use Rattle.c2po_types.specs.Signals.{signals_of}
use Rattle.c2po_types.specs.Reaching.{state_of}
use Rattle.c2po_types.specs.FirstFault.{first_fault}
use Rattle.c2po_types.proofs.SignalLaws.{checked-signals}
use Rattle.c2po_types.proofs.Outcome.{no_fault}
use Rattle.c2po_types.proofs.spec_check.check_owned.Goals as goal

pub of-requires-clause-signals : goal.of-requires-clause-signals
of-requires-clause-signals c =
    let p = c.in_ok-progress.ensures in
    checked-signals (map item_shape c.as_slice.result.now) (state_of c.in_ok-progress.progress p.0) p.2
    ∙ ap (λ items. signals_of (map item_shape items)) c.as_slice.ensures

pub of-requires-clause-faultless : goal.of-requires-clause-faultless
of-requires-clause-faultless c =
    let p = c.in_ok-progress.ensures in
    ap (λ items. first_fault (map item_shape items)) (sym c.as_slice.ensures)
    ∙ no_fault (map item_shape c.as_slice.result.now) (state_of c.in_ok-progress.progress p.0) p.2
