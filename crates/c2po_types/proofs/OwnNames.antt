-- The names of signals.

use Rattle.std.proofs.Common.{◌≡◌, ℕ, ◌<◌, ◌≤◌, Bool, true, false, is_some, Option, Some, None, Ok, List, [], ◌∷◌, ◌++◌, length, refl, sym, ap, subst, ◌∙◌, arith, if◌then◌else◌, inl, inr}
use Rattle.std.specs.Prelude.{slice_get}
use Rattle.std.specs.Str.{bytes_eq}
use Rattle.std.proofs.lemmas.Bool.Decides.{nat_tests}
use Rattle.std.proofs.lemmas.List.{length-append}
use Rattle.std.proofs.lemmas.Slice.Eq.{bytes_eq-Decides}
use Rattle.mltl_base.specs.declared.limits.TheConstants.{MAX_SIGNALS}
use Rattle.c2po_types.specs.Tables.{Table, entry_of, is_named}
use Rattle.c2po_ast.proofs.Places.{at_push}
use Rattle.c2po_ast.specs.ItemShape.{FieldShape, TypeShape, BodyShape, ItemShape, structure, input, define, formula, contract}
use Rattle.c2po_types.specs.declared.kind.Meaning.{Meaning}
use Rattle.c2po_types.specs.declared.kind.Meaning.TheVariants.{Struct, Value}
use Rattle.mltl_base.specs.declared.signal.Signal.{Signal}
use Rattle.c2po_types.specs.declared.declarations.Declarations.{Declarations}
use Rattle.c2po_types.specs.declared.fault.TypeFault.TheVariants.{Twice}
use Rattle.c2po_types.specs.Checking.{◌>>=◌, in_turn}
use Rattle.c2po_types.specs.Items.{Labels, with_field, signal_kind, type_kind, signal_truth, with_struct, with_signal, with_input, define_kind, with_value, with_label, formula_kind, contract_kind}
use Rattle.mltl_base.specs.Ranges.{NoRange}
use Rattle.c2po_types.specs.Environment.{value_of}
use Rattle.c2po_types.specs.Values as values
use Rattle.c2po_types.specs.Faults.{value_fault}
use Rattle.c2po_types.specs.FirstFault.{first_fault}
use Rattle.c2po_types.specs.Stepwise.{State, start, with_out, body_step, item_step, checked}
use Rattle.c2po_types.specs.Signals.{signals_of}
use Rattle.c2po_types.proofs.Parts.{bind-ok, unless-ok, when-ok, when_ranged-ok, ok-inj}
use Rattle.c2po_types.proofs.Ruling.{all-checked}
use Rattle.c2po_types.proofs.SignalLaws.{checked-signals, signal_added}
use Rattle.mltl_base.specs.Kinds.{HaveOwnNames}

-- a name stays in a table that gets longer
named-front : {V : Type 0} (x : List ℕ) (names more : Table V) → is_named x names ≡ true → is_named x (names ++ more) ≡ true
named-front x [] more h = absurd (cc)
named-front x (e ∷ names) more h = here (bytes_eq x e.0) (λ g. named-front x names more g) h
  where
    here : (b : Bool) → (is_named x names ≡ true → is_named x (names ++ more) ≡ true)
        → is_some (if b then Some e.1 else entry_of x names) ≡ true → is_some (if b then Some e.1 else entry_of x (names ++ more)) ≡ true
    here true rest g = refl
    here false rest g = rest g

-- and the last name is in it
named-last : {V : Type 0} (x : List ℕ) (names : Table V) (v : V) → is_named x (names ++ (x, v) ∷ []) ≡ true
named-last x [] v = ap (λ b. is_some (if b then Some v else None)) ((bytes_eq-Decides x x).1 refl)
named-last x (e ∷ names) v = here (bytes_eq x e.0) (named-last x names v)
  where
    here : (b : Bool) → is_named x (names ++ (x, v) ∷ []) ≡ true → is_some (if b then Some e.1 else entry_of x (names ++ (x, v) ∷ [])) ≡ true
    here true rest = refl
    here false rest = rest

-- signals are told apart by names that are declared
record IsApart (d : Declarations) : Type 0 where
  own : HaveOwnNames d.signals
  named : (i : ℕ) (s : Signal) → slice_get d.signals i ≡ Some s → is_named s.name d.names ≡ true
  few : length d.signals ≤ MAX_SIGNALS

-- the same signals, and more names
apart-longer : (d e : Declarations) (more : Table Meaning) → e.signals ≡ d.signals → e.names ≡ d.names ++ more → IsApart d → IsApart e
apart-longer d e more same longer h = record {
  own = subst HaveOwnNames (sym same) h.own;
  named = λ i s at. subst (λ names. is_named s.name names ≡ true) (sym longer)
      (named-front s.name d.names more (h.named i s (ap (λ (ss : List Signal). slice_get ss i) (sym same) ∙ at)));
  few = subst (λ (ss : List Signal). length ss ≤ MAX_SIGNALS) (sym same) h.few;
}

-- one signal more
apart-push : (d : Declarations) (x : List ℕ) (b : Bool) (v : Meaning) → is_named x d.names ≡ false → length d.signals < MAX_SIGNALS → IsApart d
    → IsApart (record { names = d.names ++ (x, v) ∷ []; structs = d.structs; signals = d.signals ++ record { name = x; truth = b } ∷ [] })
apart-push d x b v fresh less h =
    let last : Signal = record { name = x; truth = b } in
    record {
      own = λ i j s t below at_i at_j. elim (at_push d.signals last i s at_i) [
        | inl p ↦ elim (at_push d.signals last j t at_j) [
          | inl q ↦ h.own i j s t below p.1 q.1
          | inr q ↦ λ same. absurd (let known = h.named i s p.1 in
              let other : is_named s.name d.names ≡ false = ap (λ y. is_named y d.names) (same ∙ ap (λ (u : Signal). u.name) (sym q.1)) ∙ fresh in cc)
        ]
        | inr p ↦ elim (at_push d.signals last j t at_j) [
          | inl q ↦ absurd (omega arith)
          | inr q ↦ absurd (omega arith)
        ]
      ];
      named = λ i s at. elim (at_push d.signals last i s at) [
        | inl p ↦ named-front s.name d.names ((x, v) ∷ []) (h.named i s p.1)
        | inr p ↦ subst (λ y. is_named y (d.names ++ (x, v) ∷ []) ≡ true) (ap (λ (u : Signal). u.name) p.1) (named-last x d.names v)
      ];
      few = omega (arith, length-append d.signals (last ∷ []));
    }

signal-apart : (line : ℕ) (b : Bool) (x : List ℕ) (d e : Declarations) → with_signal line b x d ≡ Ok e → IsApart d → IsApart e
signal-apart line b x d e h apart =
    let added = signal_added line b x d e h in
    let less : length d.signals < MAX_SIGNALS = grind (arith, nat_tests, added.room) in
    subst IsApart added.is (apart-push d x b (Value (signal_kind b)) added.fresh less apart)

signals-apart : (line : ℕ) (b : Bool) (xs : List (List ℕ)) (d e : Declarations) → in_turn (with_signal line b) xs d ≡ Ok e → IsApart d → IsApart e
signals-apart line b [] d e h apart = subst IsApart (ok-inj d e h) apart
signals-apart line b (x ∷ xs) d e h apart =
    let p = bind-ok (with_signal line b x d) (in_turn (with_signal line b) xs) e h in
    signals-apart line b xs p.0 e p.2 (signal-apart line b x d p.0 p.1 apart)

input-apart : (line : ℕ) (xs : List (List ℕ)) (t : TypeShape) (d e : Declarations) → with_input line xs t d ≡ Ok e → IsApart d → IsApart e
input-apart line xs t d e h apart =
    let p = bind-ok (type_kind line d t >>= signal_truth line) (λ b. in_turn (with_signal line b) xs d) e h in
    signals-apart line p.0 xs d e p.2 apart

struct-apart : (line : ℕ) (x : List ℕ) (fs : List FieldShape) (d e : Declarations) → with_struct line x fs d ≡ Ok e → IsApart d → IsApart e
struct-apart line x fs d e h apart =
    let step = in_turn (with_field line d) fs [] in
    let p = bind-ok step _ e (unless-ok (is_named x d.names) (Twice line) (step >>= λ fields. Ok (record {
      names = d.names ++ (x, Struct (length d.structs)) ∷ [];
      structs = d.structs ++ fields ∷ [];
      signals = d.signals;
    })) e h) in
    let more : Declarations = record {
      names = d.names ++ (x, Struct (length d.structs)) ∷ [];
      structs = d.structs ++ p.0 ∷ [];
      signals = d.signals;
    } in
    subst IsApart (ok-inj more e p.2) (apart-longer d more ((x, Struct (length d.structs)) ∷ []) refl refl apart)

out-apart : (line : ℕ) (labels : Labels) (w : ℕ) (why : Option NoRange) (mixed : Bool) (s t : State) → with_out line labels w why mixed s ≡ Ok t
    → IsApart s.declared → IsApart t.declared
out-apart line labels w why mixed s t h apart =
    subst IsApart (ap (λ (r : State). r.declared) (ok-inj _ t (unless-ok mixed _ _ t (when_ranged-ok line why _ t (when-ok _ _ _ t h))))) apart

body-apart : (line : ℕ) (body : BodyShape) (s t : State) → body_step line body s ≡ Ok t → IsApart s.declared → IsApart t.declared
body-apart line (structure x fs) s t h apart =
    let p = bind-ok (with_struct line x fs s.declared) _ t h in
    subst IsApart (ap (λ (r : State). r.declared) (ok-inj _ t p.2)) (struct-apart line x fs s.declared p.0 p.1 apart)
body-apart line (input xs ty) s t h apart =
    let p = bind-ok (with_input line xs ty s.declared) _ t h in
    subst IsApart (ap (λ (r : State). r.declared) (ok-inj _ t p.2)) (input-apart line xs ty s.declared p.0 p.1 apart)
body-apart line (define x e) s t h apart =
    let p = bind-ok (define_kind line x e s.declared) _ t h in
    let v : values.Value = value_of e s.values in
    subst IsApart (ap (λ (r : State). r.declared) (ok-inj _ t (when_ranged-ok line (value_fault v) _ t (when-ok _ _ _ t p.2))))
    (apart-longer s.declared (with_value x p.0 s.declared) ((x, Value p.0) ∷ []) refl refl apart)
body-apart line (formula engine label e) s t h apart =
    let p = bind-ok (with_label line label s.labels) _ t h in let q = bind-ok (formula_kind line e s.declared) _ t p.2 in
    out-apart line _ _ _ _ s t q.2 apart
body-apart line (contract engine label e f) s t h apart =
    let p = bind-ok (with_label line label s.labels) _ t h in let q = bind-ok (contract_kind line e f s.declared) _ t p.2 in
    out-apart line _ _ _ _ s t q.2 apart

items-apart : (items : List ItemShape) (s t : State) → in_turn item_step items s ≡ Ok t → IsApart s.declared → IsApart t.declared
items-apart [] s t h apart = subst IsApart (ap (λ (r : State). r.declared) (ok-inj s t h)) apart
items-apart (i ∷ items) s t h apart =
    let p = bind-ok (item_step i s) (in_turn item_step items) t h in
    items-apart items p.0 t p.2 (body-apart i.line i.body s p.0 p.1 apart)

none-apart : IsApart start.declared
none-apart = record {
  own = λ i j s t below at_i at_j. absurd (cc);
  named = λ i s at. absurd (cc);
  few = omega arith;
}

declared-apart : (items : List ItemShape) → first_fault items ≡ None → (t : State) × (checked items ≡ Ok t) × IsApart t.declared
unfolding checked
declared-apart items h = let p = all-checked items h in (p.0, p.1, items-apart items start p.0 p.1 none-apart)

pub own_names : (items : List ItemShape) → first_fault items ≡ None → HaveOwnNames (signals_of items)
own_names items h = let p = declared-apart items h in subst HaveOwnNames (checked-signals items p.0 p.1) p.2.own

pub few_signals : (items : List ItemShape) → first_fault items ≡ None → length (signals_of items) ≤ MAX_SIGNALS
few_signals items h =
    let p = declared-apart items h in
    subst (λ (ss : List Signal). length ss ≤ MAX_SIGNALS) (checked-signals items p.0 p.1) p.2.few
