-- The phases of a run, one after another.
use Rattle.std.proofs.Common.{◌≡◌, ℕ, ◌⊎◌, Option, Result, List, [], ◌∷◌, Vec, refl, subst, inl, inr, Ok, Err}
use Rattle.std.specs.declared.alloc.Global.{Global}
use Rattle.tool_io.specs.declared.host.Place as place
use Rattle.tool_io.specs.Log.{Event, Attached, Missed, Appends, OnLog}
use Rattle.tool_io.specs.declared.whole.WholeFault.{WholeFault}
use Rattle.tool_io.specs.declared.whole.WholeFault.TheVariants as fault
use Rattle.tool_io.specs.Whole.{WholeLog}
use Rattle.tool_words.specs.Causes.{RunCause, TellsNoCall}
use Rattle.tool_words.specs.declared.status.Status as status
use Rattle.tool_words.specs.FileReading.{FileLog, unread}
use Rattle.tool_io.proofs.LogLaws.{Appends-then}
use Rattle.tool_words.specs.Statuses.{with_status}

-- an attach, and then what follows
pub OnLog-attached : (before between now : Option (List Event)) (p : place.Place) (name : List ℕ) (P : List Event → Type 0) → Appends before between (Attached p name ∷ []) → OnLog between now P → OnLog before now (λ events. (log : List Event) × (events ≡ Attached p name ∷ log) × P log)
OnLog-attached before between now p name P attached rest = record {
  events = Attached p name ∷ rest.events;
  appended = Appends-then before between now (Attached p name ∷ []) rest.events attached rest.appended;
  holds = (rest.events, refl, rest.holds);
}

-- a file that wasn't read whole
not_whole : (why : WholeFault) (p : place.Place) (limit : ℕ) (name : List ℕ) (events : List Event) → (log : List Event) × (events ≡ Attached p name ∷ log) × WholeLog (Err why) p limit log → FileLog (Err (unread p why)) p limit name events
not_whole fault.TooLong p limit name events has = (refl, has.0, has.2.0, has.1, has.2.1, has.2.2)
not_whole fault.ReadFault p limit name events has = (refl, has.0, has.2.0, has.1, has.2.1, has.2.2)
not_whole fault.Memory p limit name events has = (has.0, has.2.0, has.1, has.2.1, has.2.2)

-- one that was, or wasn't
pub whole_log : (found : Result (Vec ℕ Global) WholeFault) (p : place.Place) (limit : ℕ) (name : List ℕ) (events : List Event) → (log : List Event) × (events ≡ Attached p name ∷ log) × WholeLog found p limit log → FileLog (with_status (unread p) found) p limit name events
whole_log (Ok bytes) p limit name events has = (has.0, has.1, has.2.0, has.2.1)
whole_log (Err why) p limit name events has = not_whole why p limit name events has

-- an attach that failed, told or not
pub OnLog-missed : (before now : Option (List Event)) (p : place.Place) (name : List ℕ) → Appends before now (Missed p name ∷ []) ⊎ Appends before now [] → OnLog before now (λ events. (events ≡ Missed p name ∷ []) ⊎ (events ≡ []))
OnLog-missed before now p name (inl told) = record { events = Missed p name ∷ []; appended = told; holds = inl refl }
OnLog-missed before now p name (inr untold) = record { events = []; appended = untold; holds = inr refl }

-- the place and the limit by other names
pub file_log : (result : Result (Vec ℕ Global) status.Status) (p q : place.Place) (limit most : ℕ) (name : List ℕ) (events : List Event) → p ≡ q → limit ≡ most → FileLog result p limit name events → FileLog result q most name events
file_log result p q limit most name events same as_many has = subst (λ r. FileLog result r most name events) same (subst (λ n. FileLog result p n name events) as_many has)

-- no call failed
pub no_call_cause : (answer : status.Status) (faults : place.Place → ℕ) → TellsNoCall answer → RunCause answer faults faults
no_call_cause (status.TheVariants.OpenFault p) faults none = absurd none
no_call_cause (status.TheVariants.ReadFault p) faults none = absurd none
no_call_cause (status.TheVariants.WriteFault p) faults none = absurd none
no_call_cause answer faults none = λ p. refl
