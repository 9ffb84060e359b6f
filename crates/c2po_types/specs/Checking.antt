-- Results of checks: a value, or the first fault.

use Rattle.std.specs.Prelude.{◌≡◌, List, [], ◌∷◌, Option, Some, None, Result, Ok, Err, ⊤}
use Rattle.c2po_types.specs.declared.fault.TypeFault.{TypeFault}
use Rattle.c2po_types.specs.declared.fault.TypeFault.TheVariants.{Memory}

-- The result of a check: a value, or the first fault.
abbrev pub Checked : Type 0 → Type 0
Checked X = Result X TypeFault

-- the fault that a check has found, if any
abbrev pub fault_of : {X : Type 0} → Checked X → Option TypeFault
fault_of (Ok x) = None
fault_of (Err fault) = Some fault

infixl 10 ◌>>=◌
-- the second check continues with the value of the first; the first fault is the result
abbrev pub ◌>>=◌ : {X Y : Type 0} → Checked X → (X → Checked Y) → Checked Y
(Ok x) >>= f = f x
(Err fault) >>= f = Err fault

-- the steps over a list are taken in order, until the first fault
abbrev pub in_turn : {X S : Type 0} → (X → S → Checked S) → List X → S → Checked S
in_turn step [] s = Ok s
in_turn step (x ∷ xs) s = step x s >>= in_turn step xs

-- The fault is the fault that the definition finds, unless it is out of memory.
abbrev pub Fails : {Y : Type 0} → TypeFault → Checked Y → Type 0
Fails Memory found = ⊤
Fails fault found = found ≡ Err fault

-- The answer, through the view, is the result that the definition finds, unless it is out of memory.
abbrev pub GivesAs : {X Y : Type 0} → (X → Y) → Checked X → Checked Y → Type 0
GivesAs view (Ok x) found = found ≡ Ok (view x)
GivesAs view (Err fault) found = Fails fault found

-- The answer is the result that the definition finds, unless it is out of memory.
abbrev pub Gives : {X : Type 0} → Checked X → Checked X → Type 0
Gives answer found = GivesAs (λ x. x) answer found

-- The value that a call made is the value that the definition finds, and its fault is the definition's fault, unless it is
-- out of memory.
abbrev pub Makes : {X : Type 0} → Checked ⊤ → X → Checked X → Type 0
Makes answer made found = GivesAs (λ _. made) answer found
