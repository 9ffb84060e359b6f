use Rattle.std.proofs.Common.{◌≡◌}
use Rattle.c2po_types.specs.Scopes.{visible, meaning_of}
use Rattle.c2po_types.proofs.scope.Scope.meaning.Given as goal

-- what is left of the scope gives the name the same meaning
abbrev pub invariant-loop-rest : goal.invariant-loop-rest
invariant-loop-rest l = meaning_of l.name (visible l.rest) ≡ meaning_of l.name (visible l.self)
