-- What the check of a specification says of what its items unfold to.

use Rattle.std.proofs.Common.{◌≡◌, ℕ, ◌+◌, Bool, false, Option, Some, None, Ok, List, [], ◌∷◌, ◌++◌, map, length, drop, refl, sym, ap, subst, ◌∙◌, arith}
use Rattle.std.specs.Prelude.{nat_le, All}
use Rattle.std.proofs.Math.Seq.{drop-append_seam}
use Rattle.std.proofs.lemmas.Bool.{or_parts}
use Rattle.std.proofs.lemmas.List.{length-append}
use Rattle.std.proofs.lemmas.List.Elements.{All-nil, All-cons, All-append, All-weaker}
use Rattle.mltl_base.specs.declared.limits.TheConstants.{MAX_WEIGHT}
use Rattle.mltl_base.specs.Ranges.{NoRange}
use Rattle.mltl_base.specs.Subformulas.{Asked, IsOfTense, IsTensed}
use Rattle.c2po_ast.proofs.NoFaults.{neither}
use Rattle.c2po_ast.specs.ItemShape.{BodyShape, ItemShape, structure, input, define, formula, contract}
use Rattle.c2po_types.specs.declared.fault.TypeFault.TheVariants.{Wide, Tense}
use Rattle.c2po_types.specs.Checking.{Checked, in_turn}
use Rattle.c2po_types.specs.Items.{Labels, with_struct, with_input, define_kind, with_value, with_label, formula_kind, contract_kind}
use Rattle.c2po_ast.specs.Faults.{HasRanges, formula_fault}
use Rattle.c2po_types.specs.Faults.{value_fault}
use Rattle.c2po_types.specs.Values.{formula_of}
use Rattle.c2po_types.specs.Weights.{weight}
use Rattle.c2po_types.specs.Environment.{Env, declare, fields, value, value_of}
use Rattle.c2po_types.specs.FirstFault.{first_fault}
use Rattle.c2po_types.specs.Stepwise.{State, start, when_ranged, one_tense, with_out, body_step, item_step, checked}
use Rattle.c2po_types.specs.Signals.{body_signals}
use Rattle.c2po_types.proofs.Parts.{bind-ok, unless-ok, not-passed, when-ok, when_ranged-ok, ok-inj}
use Rattle.c2po_types.proofs.SignalLaws.{body-signals}
use Rattle.c2po_types.specs.Outputs.{Place, before, values_after, asked_at, place_after, asked_from, outputs_of, with_signals}
use Rattle.c2po_types.proofs.Ruling.{all-checked}
use Rattle.c2po_types.proofs.Tensing.{of_tense}

-- no whole number lacks a range
when_ranged-none : (line : ℕ) (why : Option NoRange) (m : Checked State) (t : State) → when_ranged line why m ≡ Ok t → why ≡ None
when_ranged-none line None m t h = refl
when_ranged-none line (Some why) m t h = absurd (cc)

-- what is known of an output that passes
record Passes (w : ℕ) (why : Option NoRange) (mixed : Bool) (s t : State) : Type 0 where
  ranged : why ≡ None
  unmixed : mixed ≡ false
  values : s.values ≡ t.values

out-passes : (line : ℕ) (labels : Labels) (w : ℕ) (why : Option NoRange) (mixed : Bool) (s t : State) → with_out line labels w why mixed s ≡ Ok t
    → Passes w why mixed s t
out-passes line labels w why mixed s t h =
    let last : Checked State = Ok (record { declared = s.declared; labels = labels; values = s.values; total = s.total + w }) in
    let tensed : Checked State = one_tense line mixed last in
    let p : when_ranged line why tensed ≡ Ok t = when-ok (nat_le (s.total + w) MAX_WEIGHT) (Wide line) (when_ranged line why tensed) t h in
    let q : tensed ≡ Ok t = when_ranged-ok line why tensed t p in
    let r : last ≡ Ok t = unless-ok mixed (Tense line) last t q in
    record {
      ranged = when_ranged-none line why tensed t p;
      unmixed = not-passed mixed (Tense line) last t q;
      values = ap (λ (u : State). u.values) (ok-inj _ t r);
    }

-- The check stands at a place.
record Agrees (s : State) (p : Place) : Type 0 where
  values : s.values ≡ p.values
  signals : p.signals ≡ length s.declared.signals

-- an output has ranges, and is of its engine's tense
abbrev IsRight : Asked → Type 0
IsRight asked = HasRanges asked × IsTensed asked

-- a place where names stand for these values
abbrev place_with : Env → Place → Place
place_with env p = record { values = env; signals = p.signals; outputs = p.outputs }

-- what an item asks for is right
body-right : (line : ℕ) (body : BodyShape) (s t : State) (p : Place) → body_step line body s ≡ Ok t → All IsRight (asked_at body (place_with s.values p))
body-right line (structure x fs) s t p h = All-nil IsRight
body-right line (input xs ty) s t p h = All-nil IsRight
body-right line (define x e) s t p h = All-nil IsRight
body-right line (formula engine label e) s t p h =
    let q = bind-ok (with_label line label s.labels) _ t h in
    let r = bind-ok (formula_kind line e s.declared) _ t q.2 in
    let passes = out-passes line _ _ _ _ s t r.2 in
    let v = formula_of (value_of e s.values) in
    All-cons IsRight _ [] (All-cons (λ p. formula_fault p ≡ None) v [] passes.ranged (All-nil _), All-cons (IsOfTense engine) v [] (of_tense engine v passes.unmixed) (All-nil _)) (All-nil IsRight)
body-right line (contract engine label e f) s t p h =
    let q = bind-ok (with_label line label s.labels) _ t h in
    let r = bind-ok (contract_kind line e f s.declared) _ t q.2 in
    let passes = out-passes line _ _ _ _ s t r.2 in
    let ranged = neither _ _ passes.ranged in
    let unmixed = or_parts _ _ passes.unmixed in
    let v = formula_of (value_of e s.values) in
    let w = formula_of (value_of f s.values) in
    All-cons IsRight _ [] (
      All-cons (λ p. formula_fault p ≡ None) v (w ∷ []) ranged.0 (All-cons (λ p. formula_fault p ≡ None) w [] ranged.1 (All-nil _)),
      All-cons (IsOfTense engine) v (w ∷ []) (of_tense engine v unmixed.0) (All-cons (IsOfTense engine) w [] (of_tense engine w unmixed.1) (All-nil _)),
    ) (All-nil IsRight)

-- what names stand for after an item
body-values : (line : ℕ) (body : BodyShape) (s t : State) (p : Place) → body_step line body s ≡ Ok t → s.values ≡ p.values
    → p.signals ≡ length s.declared.signals → t.declared.signals ≡ s.declared.signals ++ body_signals body → t.values ≡ values_after body p
body-values line (structure x fs) s t p h e n more =
    let q = bind-ok (with_struct line x fs s.declared) _ t h in
    sym (ap (λ (u : State). u.values) (ok-inj _ t q.2)) ∙ ap (λ env. declare x (fields (map (λ f. f.name) fs)) env) e
body-values line (input xs ty) s t p h e n more =
    let q = bind-ok (with_input line xs ty s.declared) _ t h in
    let found : State = record { declared = q.0; labels = s.labels; values = with_signals (length s.declared.signals) (drop (length s.declared.signals) q.0.signals) s.values; total = s.total } in
    let same : found ≡ t = ok-inj found t q.2 in
    let all : q.0.signals ≡ s.declared.signals ++ body_signals (input xs ty) = ap (λ (u : State). u.declared.signals) same ∙ more in
    let new : drop (length s.declared.signals) q.0.signals ≡ body_signals (input xs ty) =
    ap (λ ss. drop (length s.declared.signals) ss) all ∙ drop-append_seam s.declared.signals (body_signals (input xs ty)) in
    sym (ap (λ (u : State). u.values) same)
    ∙ (ap (λ ss. with_signals (length s.declared.signals) ss s.values) new
    ∙ (ap (λ k. with_signals k (body_signals (input xs ty)) s.values) (sym n) ∙ ap (λ env. with_signals p.signals (body_signals (input xs ty)) env) e))
body-values line (define x shape) s t p h e n more =
    let q = bind-ok (define_kind line x shape s.declared) _ t h in
    let last : State = record { declared = with_value x q.0 s.declared; labels = s.labels; values = declare x (value (value_of shape s.values)) s.values; total = s.total } in
    let within : when_ranged line (value_fault (value_of shape s.values)) (Ok last) ≡ Ok t = when-ok (nat_le (weight (value_of shape s.values)) MAX_WEIGHT) (Wide line) _ t q.2 in
    let found : ◌≡◌ {A = Checked State} (Ok last) (Ok t) = when_ranged-ok line (value_fault (value_of shape s.values)) (Ok last) t within in
    sym (ap (λ (u : State). u.values) (ok-inj last t found)) ∙ ap (λ env. declare x (value (value_of shape env)) env) e
body-values line (formula engine label shape) s t p h e n more =
    let q = bind-ok (with_label line label s.labels) _ t h in
    let r = bind-ok (formula_kind line shape s.declared) _ t q.2 in
    sym (out-passes line _ _ _ _ s t r.2).values ∙ e
body-values line (contract engine label left right) s t p h e n more =
    let q = bind-ok (with_label line label s.labels) _ t h in
    let r = bind-ok (contract_kind line left right s.declared) _ t q.2 in
    sym (out-passes line _ _ _ _ s t r.2).values ∙ e

-- one item more
item-agrees : (i : ItemShape) (s t : State) (p : Place) → Agrees s p → item_step i s ≡ Ok t → Agrees t (place_after i.body p)
item-agrees i s t p a h =
    let more = body-signals i.line i.body s t h in
    record {
      values = body-values i.line i.body s t p h a.values a.signals more;
      signals = omega (arith, a.signals, ap length more, length-append s.declared.signals (body_signals i.body));
    }

-- so is what items from a place on ask for
items-right : (items : List ItemShape) (s t : State) (p : Place) → Agrees s p → in_turn item_step items s ≡ Ok t → All IsRight (asked_from items p)
unfolding asked_from
items-right [] s t p a h = All-nil IsRight
items-right (i ∷ items) s t p a h =
    let q = bind-ok (item_step i s) (in_turn item_step items) t h in
    All-append IsRight (asked_at i.body p) (asked_from items (place_after i.body p))
    (subst (λ env. All IsRight (asked_at i.body (place_with env p))) a.values (body-right i.line i.body s q.0 p q.1))
    (items-right items q.0 t (place_after i.body p) (item-agrees i s q.0 p a q.1) q.2)

faultless-right : (items : List ItemShape) → first_fault items ≡ None → All IsRight (outputs_of items)
unfolding checked outputs_of
faultless-right items h =
    let q = all-checked items h in
    items-right items start q.0 before (record { values = refl; signals = refl }) q.1

-- outputs of a specification without a fault have ranges, and are of one tense
pub faultless-ranged : (items : List ItemShape) → first_fault items ≡ None → All HasRanges (outputs_of items)
faultless-ranged items h = All-weaker IsRight HasRanges (λ asked right. right.0) (outputs_of items) (faultless-right items h)

pub faultless-tensed : (items : List ItemShape) → first_fault items ≡ None → All IsTensed (outputs_of items)
faultless-tensed items h = All-weaker IsRight IsTensed (λ asked right. right.1) (outputs_of items) (faultless-right items h)
