-- Where lines have no fault, each declares a name that is new.

use Rattle.std.proofs.Common.{◌≡◌, ◌∙◌, ℕ, ◌+◌, Bool, true, false, List, [], ◌∷◌, ◌++◌, length, drop, Option, Some, None, Ok, Err, refl, ap, sym, subst, arith}
use Rattle.std.specs.Prelude.{if◌then◌else◌, is_some, nat_le}
use Rattle.std.specs.Str.{bytes_eq}
use Rattle.std.proofs.lemmas.List.{length-append}
use Rattle.std.proofs.Math.Seq.{drop-append_seam}
use Rattle.mltl_base.specs.declared.limits.TheConstants.{MAX_WEIGHT, MAX_SIGNALS}
use Rattle.mltl_base.specs.declared.interval.Engine.{Engine}
use Rattle.mltl_base.specs.declared.signal.Signal.{Signal}
use Rattle.mltl_base.specs.Ranges.{NoRange}
use Rattle.c2po_types.specs.Tables.{Table, entry_of, is_named}
use Rattle.c2po_ast.specs.ItemShape.{type_named}
use Rattle.c2po_types.specs.declared.kind.Kind.{Kind}
use Rattle.c2po_types.specs.declared.kind.Meaning.{Meaning}
use Rattle.c2po_types.specs.declared.kind.Meaning.TheVariants.{Value}
use Rattle.c2po_types.specs.declared.declarations.Declarations.{Declarations}
use Rattle.c2po_types.specs.declared.fault.TypeFault.{TypeFault}
use Rattle.c2po_types.specs.Checking.{Checked, ◌>>=◌, in_turn}
use Rattle.c2po_types.specs.Items.{Labels, new, with_signal, with_input, with_value, with_label, define_kind, formula_kind, contract_kind, signal_kind}
use Rattle.c2po_types.specs.FirstFault.{first_fault, is_mixed}
use Rattle.c2po_types.specs.Stepwise.{State, start, when_ranged, one_tense, defined, with_out, item_step, checked, define_step, input_step, formula_step, contract_step}
use Rattle.c2po_ast.specs.Faults.{formula_fault, or_later}
use Rattle.c2po_types.specs.Values as values
use Rattle.c2po_types.specs.Weights.{weight}
use Rattle.c2po_types.specs.Faults.{value_fault}
use Rattle.c2po_types.specs.Environment.{Env, Known, nothing, value, declare, or_else, signal_value, value_of}
use Rattle.c2po_types.specs.Outputs.{Place, before, place_after, with_signals}
use Rattle.c2po_types.proofs.Ruling.{all-checked}
use Rattle.obs_show.specs.Lines.{Reference, Form, Line, input, define, formula, contract}
use Rattle.c2po_types.proofs.SignalLaws.{signal_last}
use Rattle.c2po_types.proofs.Parts.{ok-inj, bind-ok, when-ok, when_ranged-ok}
use Rattle.show_roundtrip.specs.Said.{reference_shape, form_shape, kind_name, line_body, line_item, line_items}
use Rattle.show_roundtrip.specs.Unfolded.{IsNew, AreNew}
use Rattle.show_roundtrip.proofs.Whole.{input_declares}

-- a test that must fail
pub guard_off : {X : Type 0} (b : Bool) (fault : TypeFault) (rest : Checked X) (x : X) → (if b then Err fault else rest) ≡ Ok x → (b ≡ false) × (rest ≡ Ok x)
guard_off true fault rest x e = absurd (cc)
guard_off false fault rest x e = (refl, e)

-- a name that no table entry has isn't known
abbrev pub Agrees : Table Meaning → Env → Type 0
Agrees names env = (x : List ℕ) → is_named x names ≡ false → env x ≡ nothing

pub entry_push : {V : Type 0} (x y : List ℕ) (v : V) (es : Table V) → is_named x (es ++ (y, v) ∷ []) ≡ false → (is_named x es ≡ false) × (bytes_eq x y ≡ false)
entry_push x y v [] h = go (bytes_eq x y) refl h
  where
    go : (b : Bool) → bytes_eq x y ≡ b → is_some (if b then Some v else None) ≡ false → (false ≡ false) × (bytes_eq x y ≡ false)
    go true e g = absurd (cc)
    go false e g = (refl, e)
entry_push x y v (e ∷ es) h = go (entry_push x y v es) (bytes_eq x e.0) refl h
  where
    go : (is_named x (es ++ (y, v) ∷ []) ≡ false → (is_named x es ≡ false) × (bytes_eq x y ≡ false)) → (b : Bool) → bytes_eq x e.0 ≡ b
        → is_some (if b then Some e.1 else entry_of x (es ++ (y, v) ∷ [])) ≡ false → (is_some (if b then Some e.1 else entry_of x es) ≡ false) × (bytes_eq x y ≡ false)
    go ih true i g = absurd (cc)
    go ih false i g = ih g

pub agrees_push : (names : Table Meaning) (env : Env) (x : List ℕ) (m : Meaning) (k : Known) → Agrees names env → Agrees (names ++ (x, m) ∷ []) (declare x k env)
agrees_push names env x m k h y g =
    let parts = entry_push y x m names g in
    ap (λ n. or_else n (if bytes_eq y x then k else nothing)) (h y parts.0) ∙ ap (λ (b : Bool). if b then k else nothing) parts.1

-- the check and the unfolding are at one place
record Together (s : State) (p : Place) : Type 0 where
  values : s.values ≡ p.values
  signals : length s.declared.signals ≡ p.signals
  agrees : Agrees s.declared.names s.values

-- a line's step, and what it leaves
record Stepped (n : ℕ) (l : Line) (p : Place) (t : State) : Type 0 where
  new : IsNew l p.values
  together : Together t (place_after (line_body n l) p)

define_ok : (n : ℕ) (x : List ℕ) (f : Form) (s t : State) (p : Place) → define_step n x (form_shape n f) s ≡ Ok t → Together s p → Stepped n (define x f) p t
define_ok n x f s t p e h =
    let e1 = bind-ok (define_kind n x (form_shape n f) s.declared) (λ k. defined n x (with_value x k s.declared) (value_of (form_shape n f) s.values) s) t e in
    let k : Kind = e1.0 in
    let e2 = bind-ok (Rattle.c2po_types.specs.Expressions.kind_of (form_shape n f) (Rattle.c2po_types.specs.Scopes.outside s.declared)) (λ j. new n x s.declared.names (Ok j)) k e1.1 in
    let free = guard_off (is_named x s.declared.names) _ (Ok e2.0) k e2.2 in
    let v = value_of (form_shape n f) s.values in
    let after : State = record { declared = with_value x k s.declared; labels = s.labels; values = declare x (value v) s.values; total = s.total } in
    let done : Ok after ≡ Ok t = when_ranged-ok n (value_fault v) (Ok after) t (when-ok (nat_le (weight v) MAX_WEIGHT) _ (when_ranged n (value_fault v) (Ok after)) t e1.2) in
    let is : after ≡ t = cc in
    record {
      new = ap (λ (env : Env). env x) (sym h.values) ∙ h.agrees x free.0;
      together = subst (λ (u : State). Together u (place_after (line_body n (define x f)) p)) is (record {
        values = ap (λ (env : Env). declare x (value (value_of (form_shape n f) env)) env) h.values;
        signals = let same : p.signals ≡ p.signals + 0 = omega arith in h.signals ∙ same;
        agrees = agrees_push s.declared.names s.values x (Value k) (value v) h.agrees;
      });
    }

out_ok : (n : ℕ) (labels : Labels) (w : ℕ) (why : Option NoRange) (mixed : Bool) (s t : State) → with_out n labels w why mixed s ≡ Ok t → (t.values ≡ s.values) × (t.declared ≡ s.declared)
out_ok n labels w why mixed s t e =
    let after : State = record { declared = s.declared; labels = labels; values = s.values; total = s.total + w } in
    let e1 : one_tense n mixed (Ok after) ≡ Ok t = when_ranged-ok n why (one_tense n mixed (Ok after)) t (when-ok (nat_le (s.total + w) MAX_WEIGHT) _ (when_ranged n why (one_tense n mixed (Ok after))) t e) in
    let e2 = guard_off mixed _ (Ok after) t e1 in
    let is : after ≡ t = cc in
    (ap (λ (u : State). u.values) (sym is), ap (λ (u : State). u.declared) (sym is))

out_together : (s t : State) (p q : Place) → (t.values ≡ s.values) × (t.declared ≡ s.declared) → p.values ≡ q.values → p.signals ≡ q.signals → Together s p → Together t q
out_together s t p q same v w h = record {
  values = same.0 ∙ h.values ∙ v;
  signals = ap (λ (d : Declarations). length d.signals) same.1 ∙ h.signals ∙ w;
  agrees = λ x g. ap (λ (env : Env). env x) same.0 ∙ h.agrees x (ap (λ (d : Declarations). is_named x d.names) (sym same.1) ∙ g);
}

formula_ok : (n : ℕ) (engine : Engine) (label : Option (List ℕ)) (x : Reference) (s t : State) (p : Place) → formula_step n engine label (reference_shape n x) s ≡ Ok t → Together s p → Stepped n (formula engine label x) p t
formula_ok n engine label x s t p e h =
    let e1 = bind-ok (with_label n label s.labels) _ t e in
    let e2 = bind-ok (formula_kind n (reference_shape n x) s.declared) _ t e1.2 in
    let v = value_of (reference_shape n x) s.values in
    let same = out_ok n e1.0 (weight v) (formula_fault (values.formula_of v)) (is_mixed engine (values.formula_of v)) s t e2.2 in
    let more : p.signals ≡ p.signals + 0 = omega arith in
    record { new = tt; together = out_together s t p (place_after (line_body n (formula engine label x)) p) same refl more h }

contract_ok : (n : ℕ) (engine : Engine) (label : Option (List ℕ)) (x y : Reference) (s t : State) (p : Place) → contract_step n engine label (reference_shape n x) (reference_shape n y) s ≡ Ok t → Together s p → Stepped n (contract engine label x y) p t
contract_ok n engine label x y s t p e h =
    let e1 = bind-ok (with_label n label s.labels) _ t e in
    let e2 = bind-ok (contract_kind n (reference_shape n x) (reference_shape n y) s.declared) _ t e1.2 in
    let v = value_of (reference_shape n x) s.values in
    let w = value_of (reference_shape n y) s.values in
    let same = out_ok n e1.0 (weight v + weight w) (or_later (formula_fault (values.formula_of v)) (formula_fault (values.formula_of w))) _ s t e2.2 in
    let more : p.signals ≡ p.signals + 0 = omega arith in
    record { new = tt; together = out_together s t p (place_after (line_body n (contract engine label x y)) p) same refl more h }

pub with_is : (n : ℕ) (x : List ℕ) (truth : Bool) (d : Declarations) → with_input n (x ∷ []) (type_named (kind_name truth)) d ≡ (with_signal n truth x d >>= λ c. Ok c)
with_is n x true d = refl
with_is n x false d = refl

pub signal_ok : (n : ℕ) (x : List ℕ) (truth : Bool) (d c : Declarations) → with_input n (x ∷ []) (type_named (kind_name truth)) d ≡ Ok c → (is_named x d.names ≡ false) × (signal_last truth x d ≡ c)
signal_ok n x truth d c e =
    let e1 = bind-ok (with_signal n truth x d) (λ k. Ok k) c (sym (with_is n x truth d) ∙ e) in
    let free = guard_off (is_named x d.names) _ (if nat_le MAX_SIGNALS (length d.signals) then Err (Rattle.c2po_types.specs.declared.fault.TypeFault.TheVariants.Signals n) else Ok (signal_last truth x d)) e1.0 e1.1 in
    let few = guard_off (nat_le MAX_SIGNALS (length d.signals)) _ (Ok (signal_last truth x d)) e1.0 free.1 in
    (free.0, cc)

input_ok : (n : ℕ) (x : List ℕ) (truth : Bool) (s t : State) (p : Place) → input_step n (x ∷ []) (type_named (kind_name truth)) s ≡ Ok t → Together s p → Stepped n (input x truth) p t
input_ok n x truth s t p e h =
    let count : ℕ = length s.declared.signals in
    let e1 = bind-ok (with_input n (x ∷ []) (type_named (kind_name truth)) s.declared) (λ d. Ok (record { declared = d; labels = s.labels; values = with_signals count (drop count d.signals) s.values; total = s.total })) t e in
    let added = signal_ok n x truth s.declared e1.0 e1.1 in
    let d : Declarations = signal_last truth x s.declared in
    let q : Place = place_after (line_body n (input x truth)) p in
    let after : State = record { declared = d; labels = s.labels; values = with_signals count (drop count d.signals) s.values; total = s.total } in
    let first : after ≡ record { declared = e1.0; labels = s.labels; values = with_signals count (drop count e1.0.signals) s.values; total = s.total } =
    ap (λ (c : Declarations). let u : State = record { declared = c; labels = s.labels; values = with_signals count (drop count c.signals) s.values; total = s.total } in u) added.1 in
    let second : record { declared = e1.0; labels = s.labels; values = with_signals count (drop count e1.0.signals) s.values; total = s.total } ≡ t = ok-inj _ t e1.2 in
    let only : drop count d.signals ≡ record { name = x; truth = truth } ∷ [] = drop-append_seam s.declared.signals (record { name = x; truth = truth } ∷ []) in
    let declares : after.values ≡ declare x (value (signal_value truth count)) s.values = ap (λ (ss : List Signal). with_signals count ss s.values) only in
    let there : declare x (value (signal_value truth count)) s.values ≡ q.values =
    ap (λ (k : ℕ). declare x (value (signal_value truth k)) s.values) h.signals ∙ ap (λ (env : Env). declare x (value (signal_value truth p.signals)) env) h.values ∙ sym (input_declares n x truth p) in
    let counted : length d.signals ≡ q.signals = omega (arith, length-append s.declared.signals (record { name = x; truth = truth } ∷ []), h.signals) in
    record {
      new = ap (λ (env : Env). env x) (sym h.values) ∙ h.agrees x added.0;
      together = subst (λ (u : State). Together u q) (first ∙ second) (record {
        values = declares ∙ there;
        signals = counted;
        agrees = subst (λ (env : Env). Agrees d.names env) (sym declares) (agrees_push s.declared.names s.values x (Value (signal_kind truth)) (value (signal_value truth count)) h.agrees);
      });
    }

-- each line's step
line_ok : (n : ℕ) (l : Line) (s t : State) (p : Place) → item_step (line_item n l) s ≡ Ok t → Together s p → Stepped n l p t
line_ok n (input x truth) s t p e h = input_ok n x truth s t p e h
line_ok n (define x f) s t p e h = define_ok n x f s t p e h
line_ok n (formula engine label x) s t p e h = formula_ok n engine label x s t p e h
line_ok n (contract engine label x y) s t p e h = contract_ok n engine label x y s t p e h

lines_ok : (ls : List Line) (n : ℕ) (s t : State) (p : Place) → in_turn item_step (line_items n ls) s ≡ Ok t → Together s p → AreNew n ls p
unfolding line_items AreNew
lines_ok [] n s t p e h = tt
lines_ok (l ∷ ls) n s t p e h =
    let e1 = bind-ok (item_step (line_item n l) s) (in_turn item_step (line_items (n + 1) ls)) t e in
    let step = line_ok n l s e1.0 p e1.1 h in
    (step.new, lines_ok ls (n + 1) e1.0 t (place_after (line_body n l) p) e1.2 step.together)

-- lines without a fault declare new names
pub lines_are_new : (ls : List Line) → first_fault (line_items 1 ls) ≡ None → AreNew 1 ls before
unfolding checked
lines_are_new ls e =
    let done = all-checked (line_items 1 ls) e in
    lines_ok ls 1 start done.0 before done.1 (record { values = refl; signals = refl; agrees = λ x g. refl })
