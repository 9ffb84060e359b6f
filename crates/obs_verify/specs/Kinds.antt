-- The state of a pass over stored signals: the kinds of signals by column, and the names.

use Rattle.std.specs.Prelude.{ℕ, ◌≡◌, ◌<◌, Bool, true, false, List, length, slice_index_or}
use Rattle.std.specs.List.{list_any}
use Rattle.std.specs.Str.{bytes_eq}
use Rattle.std.specs.BTreeSet.{BTreeSet}
use Rattle.std.specs.declared.vec.Vec.{Vec}
use Rattle.std.specs.declared.alloc.Global.{Global}
use Rattle.mltl_base.specs.declared.program.StoredSignal.{StoredSignal}
use Rattle.obs_verify.specs.declared.signals.Kinds.{Kinds as ColumnKinds}
use Rattle.obs_verify.specs.WellFormed.{has_kind}

-- each column has the kinds of the signals there
abbrev pub AreKinds : List StoredSignal → List ColumnKinds → Type 0
AreKinds signals kinds =
    (c : ℕ) (d : ColumnKinds) → c < length kinds
    → slice_index_or kinds c d ≡ record { whole = has_kind signals c false; truth = has_kind signals c true }

-- a set of names
abbrev pub NameSet : Type 0
NameSet = BTreeSet (Vec ℕ Global)

-- true if the name is in the set
abbrev pub has_name : NameSet → List ℕ → Bool
has_name names bytes = list_any (λ name. bytes_eq bytes name.items) names.keys

-- the set has the names of the signals, and no other
abbrev pub AreNames : List StoredSignal → NameSet → Type 0
AreNames signals names =
    (bytes : List ℕ) → has_name names bytes ≡ list_any (λ signal. bytes_eq bytes signal.name) signals
