use Rattle.std.proofs.Common.{◌≡◌, drop}
use Rattle.c2po_types.specs.Checking.{in_turn}
use Rattle.c2po_types.specs.Items.{with_signal}
use Rattle.c2po_types.proofs.declarations.Declarations.declare_signals.Given as goal

-- what is left to be declared makes the whole of what is declared
abbrev pub invariant-loop-name : goal.invariant-loop-name
invariant-loop-name l = in_turn (with_signal l.line l.truth) (drop l.name-index l.names) l.self ≡ in_turn (with_signal l.line l.truth) l.names l.fn.self
