-- The ending of a program: with the code of a run, or at once.

use Rattle.std.specs.Prelude.{◌≡◌, ◌≢◌, ℕ, Option, Result, Ok, Err, List}
use Rattle.std.specs.declared.alloc.AllocError.{AllocError}
use Rattle.tool_io.specs.declared.host.Place.{Place}
use Rattle.tool_io.specs.declared.host.Place.TheVariants as place
use Rattle.tool_io.specs.Log.{Event}
use Rattle.tool_words.specs.declared.status.Status.{Status}
use Rattle.tool_words.specs.declared.status.Status.TheVariants.{Memory}
use Rattle.tool_words.specs.Causes.{CauseAt}
use Rattle.tool_words.specs.Codes.{code_of}

-- the program ends with the code of the status of such a run
pub record EndsByRun (Run : Status → Type 0) (code : ℕ) (faults now : Place → ℕ) : Type 0 where
  pub status : Status
  pub code_is : code ≡ code_of status
  pub cause : (p : Place) → p ≢ place.Err → CauseAt status p (faults p) (now p)
  pub run : Run status

-- the program ends with the code of out of memory, and nothing was called
pub record EndsAtOnce (code : ℕ) (faults now : Place → ℕ) (before after : Option (List Event)) : Type 0 where
  pub code_is : code ≡ code_of Memory
  pub no_fault : now ≡ faults
  pub no_call : after ≡ before

-- the program ends by a run with its arguments, or at once if there was no memory for them
abbrev pub EndsBy : (List (List ℕ) → Status → Type 0) → Result (List (List ℕ)) AllocError → ℕ → (Place → ℕ)
    → (Place → ℕ) → Option (List Event) → Option (List Event) → Type 0
EndsBy Run (Ok words) code faults now before after = EndsByRun (Run words) code faults now
EndsBy Run (Err fault) code faults now before after = EndsAtOnce code faults now before after
