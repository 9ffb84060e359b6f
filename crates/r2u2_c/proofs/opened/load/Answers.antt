use Rattle.std.proofs.Common.{sym, subst}
use Rattle.std.specs.Prelude.{Ok}
use Rattle.r2u2_c.specs.Opening.{Starts}
use Rattle.r2u2_c.proofs.opened.load.Goals as goal

pub returns : goal.returns
returns c = record {
  starts =
      subst (Starts (Ok c.args.checked)) (sym c.in_ok-new.ensures.ok)
      (record { program = c.in_ok-monitor.ensures.program; stands = c.in_ok-monitor.ensures.stands; drained = c.in_ok-monitor.ensures.drained }, c.in_ok-monitor.ensures.bytes);
}
