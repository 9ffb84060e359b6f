use Rattle.std.proofs.Common.{◌+◌, ◌*◌}
use Rattle.set_expand.proofs.Heading.{LeadsTo}
use Rattle.set_expand.proofs.names.Names.+heading.Given as goal

abbrev pub decreases-follow : goal.decreases-follow
decreases-follow l = 2 * l.levels

abbrev pub decreases-step : goal.decreases-step
decreases-step l = 2 * l.levels + 1

abbrev pub invariant-follow-loop : goal.invariant-follow-loop
invariant-follow-loop l = LeadsTo l.self l.scope l.e l.found
