-- What calls of a host add to what its log has of a program.

use Rattle.std.proofs.Common.{◌≡◌, ℕ, Some, List, [], ◌∷◌, ◌++◌, take, inl, inr, refl, sym, ◌∙◌, ap}
use Rattle.std.proofs.lemmas.List.{append-nil}
use Rattle.tool_io.specs.declared.host.Attached as attached
use Rattle.tool_io.specs.declared.host.Got as got
use Rattle.tool_io.specs.declared.host.Put as put
use Rattle.tool_io.specs.declared.host.Place.{Place}
use Rattle.tool_io.specs.declared.host.Place.TheVariants.{Spec, Header, Program, Trace, Out, Err}
use Rattle.tool_io.specs.Host.{AttachLog, ReadLog, WriteLog}
use Rattle.tool_io.specs.Log.{Event, Attached, Missed, Took, Gave, Appends, taken}
use Rattle.tool_io.proofs.LogLaws.{taken-append}

-- nothing more
pub no_more : (xs : List ℕ) → xs ≡ xs ++ []
no_more xs = sym (append-nil xs)

-- events after others
adds : (before now more : List Event) → Appends (Some before) (Some now) more → taken Program now ≡ taken Program before ++ taken Program more
adds before now more is =
    let same : now ≡ before ++ more = cc in
    ap (taken Program) same ∙ taken-append Program before more

keeps : (before now more : List Event) → Appends (Some before) (Some now) more → taken Program more ≡ [] → taken Program now ≡ taken Program before
keeps before now more is none = adds before now more is ∙ ap (λ bytes. taken Program before ++ bytes) none ∙ append-nil (taken Program before)

pub after_attach : (result : attached.Attached) (before now : List Event) (place : Place) (name : List ℕ) → AttachLog result (Some before) (Some now) place name → taken Program now ≡ taken Program before
after_attach attached.TheVariants.Ready before now place name log = keeps before now (Attached place name ∷ []) log refl
after_attach attached.TheVariants.Failed before now place name (inl log) = keeps before now (Missed place name ∷ []) log refl
after_attach attached.TheVariants.Failed before now place name (inr log) = keeps before now [] log refl

pub after_write : (result : put.Put) (before now : List Event) (place : Place) (piece : List ℕ) → WriteLog result (Some before) (Some now) place piece → taken Program now ≡ taken Program before
after_write (put.TheVariants.Wrote n) before now place piece log = keeps before now (Gave place (take n piece) ∷ []) log refl
after_write put.TheVariants.Failed before now place piece log = keeps before now [] log refl

-- a read without bytes takes none
nothing_took : (place : Place) → taken Program (Took place [] ∷ []) ≡ []
nothing_took Spec = refl
nothing_took Header = refl
nothing_took Program = refl
nothing_took Trace = refl
nothing_took Out = refl
nothing_took Err = refl

pub after_bytes : (n : ℕ) (before now : List Event) (place : Place) (into : List ℕ) → ReadLog (got.TheVariants.Bytes n) (Some before) (Some now) place into → taken Program now ≡ taken Program before ++ taken Program (Took place (take n into) ∷ [])
after_bytes n before now place into log = adds before now (Took place (take n into) ∷ []) log

pub after_end : (before now : List Event) (place : Place) (into : List ℕ) → ReadLog got.TheVariants.End (Some before) (Some now) place into → taken Program now ≡ taken Program before
after_end before now place into log = keeps before now (Took place [] ∷ []) log (nothing_took place)
