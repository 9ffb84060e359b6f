use Rattle.std.proofs.Common.{◌≡◌, ◌↔◌, List, [], subst}
use Rattle.std.specs.Prelude.{IsTrue}
use Rattle.mltl_base.specs.declared.report.Style.{Style}
use Rattle.mltl_base.specs.Atoms.{Row}
use Rattle.r2u2_monitor.specs.declared.state.State.{State}
use Rattle.r2u2_monitor.specs.Monitoring.{IsDrained, Stands, open_in}
use Rattle.r2u2_monitor.proofs.Telling.{tells_drained}
use Rattle.r2u2_monitor.proofs.monitor.Monitor.drained_in.Goals as goal

pub returns-clause-drained : goal.returns-clause-drained
returns-clause-drained g c =
    let some = c.self.invariant.sound.some in
    subst (λ (monitor : State). IsTrue c.is_drained.result ↔ IsDrained monitor) c.self.view_is
    (tells_drained c.is_drained.result c.self.inside.running c.is_drained.ensures.open (some.0, some.1.taken))

pub returns-clause-open : goal.returns-clause-open
returns-clause-open g c =
    subst (λ (monitor : State). (style : Style) (rows : List Row) → Stands monitor rows → IsTrue c.is_drained.result ↔ (open_in style monitor rows ≡ [])) c.self.view_is
    (λ style rows stands. c.is_drained.ensures.open style rows stands.taken)

pub returns-clause-represents : goal.returns-clause-represents
returns-clause-represents g c = subst (λ (monitor : State). (rows : List Row) × Stands monitor rows) c.self.view_is c.self.invariant.sound.some
