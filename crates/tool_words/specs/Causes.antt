-- The counts of faults of a host, by the status of a run.

use Rattle.std.specs.Prelude.{◌≡◌, ◌≢◌, ℕ, MatchBool, Result, Ok, Err, ⊤}
use Rattle.tool_io.specs.declared.host.Place as place
use Rattle.tool_io.specs.Log.{same_place}
use Rattle.tool_io.specs.Host.{Rose, RoseByOne, NoFault, RoseAt}
use Rattle.tool_words.specs.declared.status.Status as status

-- before the message, the count of the place of the failed call rose by one, or no call failed
abbrev pub RunCause : status.Status → (place.Place → ℕ) → (place.Place → ℕ) → Type 0
RunCause (status.TheVariants.OpenFault place.TheVariants.Err) before now = ⊥
RunCause (status.TheVariants.ReadFault place.TheVariants.Err) before now = ⊥
RunCause (status.TheVariants.WriteFault place.TheVariants.Err) before now = ⊥
RunCause (status.TheVariants.OpenFault p) before now = RoseAt before now p
RunCause (status.TheVariants.ReadFault p) before now = RoseAt before now p
RunCause (status.TheVariants.WriteFault p) before now = RoseAt before now p
RunCause answer before now = NoFault before now

-- the phase succeeded and no call failed, or its status has the failed call
abbrev pub PhaseCause : {T : Type 0} → Result T status.Status → (place.Place → ℕ) → (place.Place → ℕ) → Type 0
PhaseCause (Ok value) before now = NoFault before now
PhaseCause (Err answer) before now = RunCause answer before now

-- the count of one place rose by one if the status has its failed call, or not at all
abbrev pub CauseAt : status.Status → place.Place → ℕ → ℕ → Type 0
CauseAt (status.TheVariants.OpenFault p) q before now = MatchBool (same_place p q) (RoseByOne before now) (now ≡ before)
CauseAt (status.TheVariants.ReadFault p) q before now = MatchBool (same_place p q) (RoseByOne before now) (now ≡ before)
CauseAt (status.TheVariants.WriteFault p) q before now =
    MatchBool (same_place p q) (RoseByOne before now) (now ≡ before)
CauseAt answer q before now = now ≡ before

-- no count but that of Err rose
abbrev pub NoOtherRose : (place.Place → ℕ) → (place.Place → ℕ) → Type 0
NoOtherRose before now = (p : place.Place) → p ≢ place.TheVariants.Err → ¬ Rose (before p) (now p)

-- the status isn't of a call of a host
abbrev pub TellsNoCall : status.Status → Type 0
TellsNoCall (status.TheVariants.OpenFault p) = ⊥
TellsNoCall (status.TheVariants.ReadFault p) = ⊥
TellsNoCall (status.TheVariants.WriteFault p) = ⊥
TellsNoCall answer = ⊤
