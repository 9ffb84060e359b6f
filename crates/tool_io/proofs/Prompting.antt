-- Promptness as a fold over the events, which calls one after another keep.
use Rattle.std.specs.Prelude.{⊤}
use Rattle.std.proofs.Common.{◌≡◌, ℕ, List, [], ◌∷◌, ◌++◌, map, refl, sym, ◌∙◌, ap, subst}
use Rattle.std.proofs.lemmas.List.{append_assoc, append-nil}
use Rattle.tool_io.specs.declared.host.Place.{Place}
use Rattle.tool_io.specs.declared.host.Place.TheVariants.{Trace, Out}
use Rattle.tool_io.specs.Log.{Event, Took, Gave, taken, given, Prompt, Writes}

-- the same as Prompt, after events that took and gave these bytes
abbrev pub PromptBy : (List ℕ → List ℕ) → List ℕ → List ℕ → List Event → Type 0
PromptBy due_of read sent [] = ⊤
PromptBy due_of read sent (Took Trace piece ∷ events) = (sent ≡ due_of read) × PromptBy due_of (read ++ piece) sent events
PromptBy due_of read sent (Gave Out piece ∷ events) = PromptBy due_of read (sent ++ piece) events
PromptBy due_of read sent (event ∷ events) = PromptBy due_of read sent events

-- events after events
pub PromptBy-append : (due_of : List ℕ → List ℕ) (read sent : List ℕ) (first second : List Event) → PromptBy due_of read sent first → PromptBy due_of (read ++ taken Trace first) (sent ++ given Out first) second → PromptBy due_of read sent (first ++ second)
PromptBy-append due_of read sent [] second a b =
    subst (λ bytes. PromptBy due_of bytes sent second) (append-nil read) (subst (λ bytes. PromptBy due_of (read ++ []) bytes second) (append-nil sent) b)
PromptBy-append due_of read sent (Took Trace piece ∷ events) second a b =
    (a.0, PromptBy-append due_of (read ++ piece) sent events second a.1 (subst (λ bytes. PromptBy due_of bytes (sent ++ given Out events) second) (sym (append_assoc read piece (taken Trace events))) b))
PromptBy-append due_of read sent (Gave Out piece ∷ events) second a b =
    PromptBy-append due_of read (sent ++ piece) events second a (subst (λ bytes. PromptBy due_of (read ++ taken Trace events) bytes second) (sym (append_assoc sent piece (given Out events))) b)
PromptBy-append due_of read sent (event ∷ events) second a b = PromptBy-append due_of read sent events second a b

-- before each read, what was sent is what is due
at_read : (due_of : List ℕ → List ℕ) (read sent : List ℕ) (before after : List Event) (piece : List ℕ) → PromptBy due_of read sent (before ++ Took Trace piece ∷ after) → sent ++ given Out before ≡ due_of (read ++ taken Trace before)
at_read due_of read sent [] after piece prompt = append-nil sent ∙ prompt.0 ∙ ap due_of (sym (append-nil read))
at_read due_of read sent (Took Trace first ∷ before) after piece prompt =
    at_read due_of (read ++ first) sent before after piece prompt.1 ∙ ap due_of (append_assoc read first (taken Trace before))
at_read due_of read sent (Gave Out first ∷ before) after piece prompt =
    sym (append_assoc sent first (given Out before)) ∙ at_read due_of read (sent ++ first) before after piece prompt
at_read due_of read sent (event ∷ before) after piece prompt = at_read due_of read sent before after piece prompt

pub Prompt-from_by : (due_of : List ℕ → List ℕ) (bytes : List ℕ) (events : List Event) → PromptBy due_of bytes [] events → Prompt due_of bytes events
Prompt-from_by due_of bytes events prompt before after piece is = at_read due_of bytes [] before after piece (subst (λ all. PromptBy due_of bytes [] all) is prompt)

-- and the other way
by_reads : (due_of : List ℕ → List ℕ) (read sent : List ℕ) (events : List Event) → ((before after : List Event) (piece : List ℕ) → events ≡ before ++ Took Trace piece ∷ after → sent ++ given Out before ≡ due_of (read ++ taken Trace before)) → PromptBy due_of read sent events
by_reads due_of read sent [] at = tt
by_reads due_of read sent (Took Trace first ∷ events) at = (
  sym (append-nil sent) ∙ at [] events first refl ∙ ap due_of (append-nil read),
  by_reads due_of (read ++ first) sent events (λ before after piece is. at (Took Trace first ∷ before) after piece (ap (λ rest. Took Trace first ∷ rest) is) ∙ ap due_of (sym (append_assoc read first (taken Trace before)))),
)
by_reads due_of read sent (Gave Out first ∷ events) at =
    by_reads due_of read (sent ++ first) events
    (λ before after piece is. append_assoc sent first (given Out before) ∙ at (Gave Out first ∷ before) after piece (ap (λ rest. Gave Out first ∷ rest) is))
by_reads due_of read sent (event ∷ events) at = by_reads due_of read sent events (λ before after piece is. at (event ∷ before) after piece (ap (λ rest. event ∷ rest) is))

pub PromptBy-from : (due_of : List ℕ → List ℕ) (bytes : List ℕ) (events : List Event) → Prompt due_of bytes events → PromptBy due_of bytes [] events
PromptBy-from due_of bytes events prompt = by_reads due_of bytes [] events prompt

gave-prompt : (due_of : List ℕ → List ℕ) (read sent : List ℕ) (place : Place) (pieces : List (List ℕ)) → PromptBy due_of read sent (map (Gave place) pieces)
gave-prompt due_of read sent place [] = tt
gave-prompt due_of read sent Out (piece ∷ pieces) = gave-prompt due_of read (sent ++ piece) Out pieces
gave-prompt due_of read sent place (piece ∷ pieces) = gave-prompt due_of read sent place pieces

-- writes alone are prompt
pub Writes-prompt : (due_of : List ℕ → List ℕ) (read sent : List ℕ) (place : Place) (bytes : List ℕ) (events : List Event) → Writes place bytes events → PromptBy due_of read sent events
Writes-prompt due_of read sent place bytes events writes = subst (λ all. PromptBy due_of read sent all) (sym writes.are) (gave-prompt due_of read sent place writes.pieces)
