-- Where the kinds of lines are right, each declares a name that is new.

use Rattle.std.proofs.Common.{◌≡◌, ◌∙◌, ℕ, ◌+◌, Bool, List, [], ◌∷◌, length, Ok, refl, sym, subst, arith}
use Rattle.std.proofs.lemmas.List.{length-append}
use Rattle.c2po_types.specs.declared.kind.Kind.{Kind}
use Rattle.c2po_types.specs.declared.kind.Meaning.TheVariants.{Value}
use Rattle.c2po_types.specs.declared.declarations.Declarations.{Declarations}
use Rattle.c2po_types.specs.Tables.{is_named}
use Rattle.c2po_types.specs.Expressions.{kind_of}
use Rattle.c2po_types.specs.Items.{nothing, new, signal_kind}
use Rattle.c2po_types.specs.Scopes.{outside}
use Rattle.c2po_types.specs.Environment.{Env, value, declare, signal_value, value_of}
use Rattle.c2po_types.specs.Outputs.{Place, before, place_after}
use Rattle.obs_show.specs.Lines.{Form, Line, input, define, formula, contract}
use Rattle.c2po_types.proofs.SignalLaws.{signal_last}
use Rattle.c2po_types.proofs.Parts.{bind-ok}
use Rattle.show_roundtrip.specs.Said.{form_shape, line_body}
use Rattle.show_roundtrip.specs.Unfolded.{IsNew, AreNew}
use Rattle.show_roundtrip.proofs.Whole.{input_declares}
use Rattle.show_roundtrip.proofs.Fresh.{guard_off, Agrees, agrees_push, signal_ok}
use Rattle.show_roundtrip.proofs.Passing.{KindPasses, KindsPass}

-- declarations and a place that know the same names and count the same signals
record Alongside (d : Declarations) (p : Place) : Type 0 where
  signals : length d.signals ≡ p.signals
  agrees : Agrees d.names p.values

-- what a line declares is new, and what is known after it goes alongside
record Goes (n : ℕ) (l : Line) (p : Place) (later : Declarations) : Type 0 where
  new : IsNew l p.values
  along : Alongside later (place_after (line_body n l) p)

input_goes : (n : ℕ) (x : List ℕ) (truth : Bool) (d later : Declarations) (p : Place) → KindPasses n (input x truth) d later → Alongside d p → Goes n (input x truth) p later
input_goes n x truth d later p h a =
    let added = signal_ok n x truth d later h in
    let q : Place = place_after (line_body n (input x truth)) p in
    let there : declare x (value (signal_value truth p.signals)) p.values ≡ q.values = sym (input_declares n x truth p) in
    let counted : length (signal_last truth x d).signals ≡ q.signals = omega (arith, length-append d.signals (record { name = x; truth = truth } ∷ []), a.signals) in
    record {
      new = a.agrees x added.0;
      along = subst (λ (c : Declarations). Alongside c q) added.1 (record {
        signals = counted;
        agrees = subst (λ (env : Env). Agrees (signal_last truth x d).names env) there (agrees_push d.names p.values x (Value (signal_kind truth)) (value (signal_value truth p.signals)) a.agrees);
      });
    }

define_goes : (n : ℕ) (x : List ℕ) (f : Form) (d later : Declarations) (p : Place) → KindPasses n (define x f) d later → Alongside d p → Goes n (define x f) p later
define_goes n x f d later p h a =
    let k : Kind = h.0 in
    let found = bind-ok (kind_of (form_shape n f) (outside d)) (λ j. new n x d.names (Ok j)) k h.1 in
    let free = guard_off (is_named x d.names) _ (Ok found.0) k found.2 in
    let same : p.signals ≡ p.signals + 0 = omega arith in
    record {
      new = a.agrees x free.0;
      along = subst (λ (c : Declarations). Alongside c (place_after (line_body n (define x f)) p)) h.2 (record {
        signals = a.signals ∙ same;
        agrees = agrees_push d.names p.values x (Value k) (value (value_of (form_shape n f) p.values)) a.agrees;
      });
    }

-- an output declares nothing
stays_along : (d later : Declarations) (p : Place) → d ≡ later → Alongside d p → Alongside later (record { values = p.values; signals = p.signals + 0; outputs = p.outputs + 1 })
stays_along d later p is a =
    let same : p.signals ≡ p.signals + 0 = omega arith in
    subst (λ (c : Declarations). Alongside c (record { values = p.values; signals = p.signals + 0; outputs = p.outputs + 1 })) is (record { signals = a.signals ∙ same; agrees = a.agrees })

line_goes : (n : ℕ) (l : Line) (d later : Declarations) (p : Place) → KindPasses n l d later → Alongside d p → Goes n l p later
line_goes n (input x truth) d later p h a = input_goes n x truth d later p h a
line_goes n (define x f) d later p h a = define_goes n x f d later p h a
line_goes n _ d later p h a = record { new = tt; along = stays_along d later p h.2 a }

lines_new : (ls : List Line) (n : ℕ) (d : Declarations) (p : Place) → KindsPass n ls d → Alongside d p → AreNew n ls p
unfolding KindsPass AreNew
lines_new [] n d p h a = tt
lines_new (l ∷ ls) n d p h a =
    let step = line_goes n l d h.0 p h.1 a in
    (step.new, lines_new ls (n + 1) h.0 (place_after (line_body n l) p) h.2 step.along)

pub new_of_kinds : (ls : List Line) → KindsPass 1 ls nothing → AreNew 1 ls before
new_of_kinds ls h = lines_new ls 1 nothing before h (record { signals = refl; agrees = λ x g. refl })
