-- Lines that declare new names, and the signals that lines declare.

use Rattle.std.specs.Prelude.{◌≡◌, ◌+◌, ℕ, List, [], ◌∷◌, ⊤}
use Rattle.mltl_base.specs.declared.program.StoredSignal.{StoredSignal}
use Rattle.mltl_base.specs.declared.signal.Signal.{Signal}
use Rattle.c2po_types.specs.Environment.{Env, nothing}
use Rattle.c2po_types.specs.Outputs.{Place, place_after}
use Rattle.obs_show.specs.Lines.{Line, input, define, formula, contract}
use Rattle.show_roundtrip.specs.Said.{line_body}

-- the name that the line declares, if it declares one, isn't known
abbrev pub IsNew : Line → Env → Type 0
IsNew (input x truth) env = env x ≡ nothing
IsNew (define x form) env = env x ≡ nothing
IsNew (formula engine label x) env = ⊤
IsNew (contract engine label x y) env = ⊤

-- from a place on, each line that declares a name declares a name that isn't known before it
unfoldable pub AreNew : ℕ → List Line → Place → Type 0
AreNew n [] p = ⊤
AreNew n (line ∷ lines) p = IsNew line p.values × AreNew (n + 1) lines (place_after (line_body n line) p)

-- the signal of a specification for a stored signal
abbrev pub declared_by : StoredSignal → Signal
declared_by signal = record { name = signal.name; truth = signal.truth }
