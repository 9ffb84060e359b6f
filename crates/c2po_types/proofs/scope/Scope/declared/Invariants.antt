use Rattle.std.proofs.Common.{◌≡◌}
use Rattle.c2po_types.specs.Scopes.{visible}
use Rattle.c2po_types.proofs.scope.Scope.declared.Given as goal

-- what is left of the scope has the same declarations
abbrev pub invariant-loop-rest : goal.invariant-loop-rest
invariant-loop-rest l = (visible l.rest).declared ≡ (visible l.self).declared
