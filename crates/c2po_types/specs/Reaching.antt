-- The state that the check has reached.

use Rattle.std.specs.Prelude.{◌≡◌, ℕ, Ok, Err, ⊤}
use Rattle.c2po_types.specs.declared.unfold_fault.UnfoldFault.{UnfoldFault}
use Rattle.c2po_types.specs.declared.unfold_fault.UnfoldFault.TheVariants as unfolded
use Rattle.c2po_types.specs.declared.unfold_fault.UnfoldFault.TheVariants.{Heavy}
use Rattle.c2po_types.specs.declared.fault.TypeFault.{TypeFault}
use Rattle.c2po_types.specs.declared.fault.TypeFault.TheVariants.{Wide, Memory}
use Rattle.c2po_types.specs.Checking.{Checked, Fails}
use Rattle.c2po_types.specs.Environment.{Env}
use Rattle.c2po_types.specs.Holding.{StandsFor}
use Rattle.c2po_types.specs.declared.progress.Progress.{Progress}
use Rattle.c2po_types.specs.Stepwise.{State}

-- the state of the check, if the unfolding represents this environment
abbrev pub state_of : Progress → Env → State
state_of p env = record { declared = p.declared; labels = p.labels; values = env; total = p.total }

-- the check reaches the state that the definition finds, or its fault
abbrev pub Reaches : Checked ⊤ → Progress → Checked State → Type 0
Reaches (Ok done) p found = (env : Env) × StandsFor p.values env × (found ≡ Ok (state_of p env))
Reaches (Err fault) p found = Fails fault found

-- the check of all items reaches the state that the definition finds, or its fault
abbrev pub Comes : Checked Progress → Checked State → Type 0
Comes (Ok p) found = Reaches (Ok tt) p found
Comes (Err fault) found = Fails fault found

-- the fault of an item that isn't unfolded
abbrev pub unfold_fault : ℕ → UnfoldFault → TypeFault
unfold_fault line Heavy = Wide line
unfold_fault line unfolded.Memory = Memory
