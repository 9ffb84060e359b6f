-- The signals that items declare.
use Rattle.std.proofs.Common.{arith, ◌≡◌, ℕ, suc, Bool, true, false, List, [], ◌∷◌, ◌++◌, map, length, Option, Some, None, Ok, Err, refl, sym, ap, ◌∙◌, append_assoc, if◌then◌else◌}
use Rattle.std.specs.Prelude.{codes, nat_le, ◌==◌, ◌&&◌}
use Rattle.std.specs.Str.{bytes_eq}
use Rattle.std.proofs.lemmas.Slice.Eq.{bytes_eq-Decides}
use Rattle.std.proofs.lemmas.List.{append-nil}
use Rattle.mltl_base.specs.declared.limits.TheConstants.{MAX_SIGNALS}
use Rattle.mltl_base.specs.Ranges.{NoRange}
use Rattle.c2po_ast.specs.ItemShape.{TypeShape, FieldShape, BodyShape, ItemShape, type_named, set_of, structure, input, define, formula, contract}
use Rattle.c2po_types.specs.Tables.{Table, entry_of, is_named}
use Rattle.c2po_types.specs.declared.kind.Base.TheVariants as base
use Rattle.c2po_types.specs.declared.kind.Kind.{Kind}
use Rattle.c2po_types.specs.declared.kind.Meaning.{Meaning}
use Rattle.c2po_types.specs.declared.kind.Meaning.TheVariants.{Struct, Value}
use Rattle.c2po_types.specs.declared.declarations.Declarations.{Declarations}
use Rattle.c2po_types.specs.declared.fault.TypeFault.TheVariants.{Twice, Signals, Kind as Kinds}
use Rattle.c2po_types.specs.Checking.{Checked, ◌>>=◌, in_turn}
use Rattle.c2po_types.specs.Kinds.{single_kind, same_base, truth, whole, set_kind}
use Rattle.c2po_types.specs.Items.{Labels, new, with_field, signal_kind, struct_kind, type_kind, signal_truth, with_struct, with_signal, with_input, define_kind, with_value, with_label, formula_kind, contract_kind}
use Rattle.c2po_types.specs.Environment.{value_of}
use Rattle.c2po_types.specs.Values as values
use Rattle.c2po_types.specs.Faults.{value_fault}
use Rattle.c2po_types.specs.Stepwise.{State, start, checked, defined, with_out, body_step, item_step}
use Rattle.c2po_types.specs.Signals.{is_bool, body_signals, signals_of}
use Rattle.c2po_types.proofs.Parts.{ok-inj, bind-ok, unless-ok, not-passed, when-ok, when_ranged-ok}

-- a name that isn't there
new-ok : {X V : Type 0} (line : ℕ) (x : List ℕ) (names : Table V) (m : Checked X) (e : X) → new line x names m ≡ Ok e → m ≡ Ok e
new-ok line x names m e h = unless-ok (is_named x names) (Twice line) m e h

-- a struct declares none
pub struct-signals : (line : ℕ) (x : List ℕ) (fs : List FieldShape) (d e : Declarations) → with_struct line x fs d ≡ Ok e → e.signals ≡ d.signals
struct-signals line x fs d e h =
    let step = in_turn (with_field line d) fs [] in
    let p = bind-ok step _ e (new-ok line x d.names (step >>= λ fields. Ok (record {
      names = d.names ++ (x, Struct (length d.structs)) ∷ [];
      structs = d.structs ++ fields ∷ [];
      signals = d.signals;
    })) e h) in
    ap (λ (r : Declarations). r.signals) (sym (ok-inj _ e p.2))

-- one signal more, which comes last
abbrev pub signal_last : Bool → List ℕ → Declarations → Declarations
signal_last b x d = record {
  names = d.names ++ (x, Value (signal_kind b)) ∷ [];
  structs = d.structs;
  signals = d.signals ++ record { name = x; truth = b } ∷ [];
}

-- its name is new, there was room for it, and it comes last
pub record IsSignalAdded (b : Bool) (x : List ℕ) (d e : Declarations) : Type 0 where
  pub fresh : is_named x d.names ≡ false
  pub room : nat_le MAX_SIGNALS (length d.signals) ≡ false
  pub is : signal_last b x d ≡ e

pub signal_added : (line : ℕ) (b : Bool) (x : List ℕ) (d e : Declarations) → with_signal line b x d ≡ Ok e → IsSignalAdded b x d e
signal_added line b x d e h =
    let full = nat_le MAX_SIGNALS (length d.signals) in
    let m : Checked Declarations = if full then Err (Signals line) else Ok (signal_last b x d) in
    let named : m ≡ Ok e = new-ok line x d.names m e h in
    record {
      fresh = not-passed (is_named x d.names) (Twice line) m e h;
      room = not-passed full (Signals line) (Ok (signal_last b x d)) e named;
      is = ok-inj (signal_last b x d) e (unless-ok full (Signals line) (Ok (signal_last b x d)) e named);
    }

signal-signals : (line : ℕ) (b : Bool) (x : List ℕ) (d e : Declarations) → with_signal line b x d ≡ Ok e → e.signals ≡ d.signals ++ record { name = x; truth = b } ∷ []
signal-signals line b x d e h = ap (λ (r : Declarations). r.signals) (sym (signal_added line b x d e h).is)

all-signals : (line : ℕ) (b : Bool) (xs : List (List ℕ)) (d e : Declarations) → in_turn (with_signal line b) xs d ≡ Ok e
    → e.signals ≡ d.signals ++ map (λ (x : List ℕ). record { name = x; truth = b }) xs
all-signals line b [] d e h = ap (λ (r : Declarations). r.signals) (sym (ok-inj d e h)) ∙ sym (append-nil d.signals)
all-signals line b (x ∷ xs) d e h =
    let p = bind-ok (with_signal line b x d) (in_turn (with_signal line b) xs) e h in
    all-signals line b xs p.0 e p.2
    ∙ ap (λ ss. ss ++ map (λ (y : List ℕ). record { name = y; truth = b }) xs) (signal-signals line b x d p.0 p.1)
    ∙ append_assoc d.signals (record { name = x; truth = b } ∷ []) (map (λ (y : List ℕ). record { name = y; truth = b }) xs)

-- the types of numbers and of truths are two
not_bool : (x : List ℕ) → bytes_eq x (codes "int") ≡ true → bytes_eq x (codes "bool") ≡ false
not_bool x h = ap (λ y. bytes_eq y (codes "bool")) ((bytes_eq-Decides x (codes "int")).0 h)

suc_not_zero : (n : ℕ) → (suc n == 0) ≡ false
suc_not_zero n = grind arith

-- no signal is a set
no_set : (line : ℕ) (k : Kind) (b : Bool) → signal_truth line (set_kind k) ≡ Ok b → ⊥
no_set line k b h = here (suc k.sets == 0) (suc_not_zero k.sets) h
  where
    here : (e : Bool) → e ≡ false → (if e && same_base k.base base.Bool then Ok true else if e && same_base k.base base.Int then Ok false else Err (Kinds line)) ≡ Ok b → ⊥
    here true none m = absurd (cc)
    here false none m = cc

-- a signal is a truth where its type is that of truths
is_truth-named : (line : ℕ) (d : Declarations) (x : List ℕ) (k : Kind) (b : Bool) → type_kind line d (type_named x) ≡ Ok k → signal_truth line k ≡ Ok b → b ≡ bytes_eq x (codes "bool")
is_truth-named line d x k b h t = here (bytes_eq x (codes "int")) (bytes_eq x (codes "bool")) (λ i. not_bool x i) (entry_of x d.names) h
  where
    of-struct : (m : Option Meaning) → struct_kind line m ≡ Ok k → b ≡ false
    of-struct (Some (Struct n)) e = absurd (let q : single_kind (base.Struct n) ≡ k = cc in let r : signal_truth line (single_kind (base.Struct n)) ≡ Ok b = ap (signal_truth line) q ∙ t in cc)
    of-struct (Some (Value j)) e = absurd (cc)
    of-struct None e = absurd (cc)

    here : (i bool : Bool) → (i ≡ true → bool ≡ false) → (m : Option Meaning)
        → (if i then Ok whole else if bool then Ok truth else struct_kind line m) ≡ Ok k → b ≡ bool
    here true bool not m e = let q : whole ≡ k = cc in let r : signal_truth line whole ≡ Ok b = ap (signal_truth line) q ∙ t in let s : false ≡ b = cc in sym s ∙ sym (not refl)
    here false true not m e = let q : truth ≡ k = cc in let r : signal_truth line truth ≡ Ok b = ap (signal_truth line) q ∙ t in let s : true ≡ b = cc in sym s
    here false false not m e = of-struct m e

pub is_truth : (line : ℕ) (d : Declarations) (t : TypeShape) (k : Kind) (b : Bool) → type_kind line d t ≡ Ok k → signal_truth line k ≡ Ok b → b ≡ is_bool t
is_truth line d (type_named x) k b h e = is_truth-named line d x k b h e
is_truth line d (set_of t) k b h e =
    let p = bind-ok (type_kind line d t) (λ j. Ok (set_kind j)) k h in
    absurd (no_set line p.0 b (ap (signal_truth line) (ok-inj (set_kind p.0) k p.2) ∙ e))

pub input-signals : (line : ℕ) (xs : List (List ℕ)) (t : TypeShape) (d e : Declarations) → with_input line xs t d ≡ Ok e
    → e.signals ≡ d.signals ++ map (λ (x : List ℕ). record { name = x; truth = is_bool t }) xs
input-signals line xs t d e h =
    let p = bind-ok (type_kind line d t >>= signal_truth line) (λ b. in_turn (with_signal line b) xs d) e h in
    let q = bind-ok (type_kind line d t) (signal_truth line) p.0 p.1 in
    all-signals line p.0 xs d e p.2 ∙ ap (λ (b : Bool). d.signals ++ map (λ (x : List ℕ). record { name = x; truth = b }) xs) (is_truth line d t q.0 p.0 q.1 q.2)

-- what each item declares
defined-signals : (line : ℕ) (x : List ℕ) (d : Declarations) (v : values.Value) (s t : State) → defined line x d v s ≡ Ok t → t.declared.signals ≡ d.signals
defined-signals line x d v s t h = ap (λ (r : State). r.declared.signals) (sym (ok-inj _ t (when_ranged-ok line (value_fault v) _ t (when-ok _ _ _ t h))))

out-signals : (line : ℕ) (labels : Labels) (w : ℕ) (why : Option NoRange) (mixed : Bool) (s t : State) → with_out line labels w why mixed s ≡ Ok t → t.declared.signals ≡ s.declared.signals
out-signals line labels w why mixed s t h = ap (λ (r : State). r.declared.signals) (sym (ok-inj _ t (unless-ok mixed _ _ t (when_ranged-ok line why _ t (when-ok _ _ _ t h)))))

pub body-signals : (line : ℕ) (body : BodyShape) (s t : State) → body_step line body s ≡ Ok t → t.declared.signals ≡ s.declared.signals ++ body_signals body
body-signals line (structure x fs) s t h =
    let p = bind-ok (with_struct line x fs s.declared) _ t h in
    ap (λ (r : State). r.declared.signals) (sym (ok-inj _ t p.2)) ∙ struct-signals line x fs s.declared p.0 p.1 ∙ sym (append-nil s.declared.signals)
body-signals line (input xs ty) s t h =
    let p = bind-ok (with_input line xs ty s.declared) _ t h in
    ap (λ (r : State). r.declared.signals) (sym (ok-inj _ t p.2)) ∙ input-signals line xs ty s.declared p.0 p.1
body-signals line (define x e) s t h =
    let p = bind-ok (define_kind line x e s.declared) _ t h in
    defined-signals line x (with_value x p.0 s.declared) (value_of e s.values) s t p.2 ∙ sym (append-nil s.declared.signals)
body-signals line (formula engine label e) s t h =
    let p = bind-ok (with_label line label s.labels) _ t h in let q = bind-ok (formula_kind line e s.declared) _ t p.2 in
    out-signals line _ _ _ _ s t q.2 ∙ sym (append-nil s.declared.signals)
body-signals line (contract engine label e f) s t h =
    let p = bind-ok (with_label line label s.labels) _ t h in let q = bind-ok (contract_kind line e f s.declared) _ t p.2 in
    out-signals line _ _ _ _ s t q.2 ∙ sym (append-nil s.declared.signals)

items-signals : (items : List ItemShape) (s t : State) → in_turn item_step items s ≡ Ok t → t.declared.signals ≡ s.declared.signals ++ signals_of items
items-signals [] s t h = ap (λ (r : State). r.declared.signals) (sym (ok-inj s t h)) ∙ sym (append-nil s.declared.signals)
items-signals (i ∷ items) s t h =
    let p = bind-ok (item_step i s) (in_turn item_step items) t h in
    items-signals items p.0 t p.2 ∙ ap (λ ss. ss ++ signals_of items) (body-signals i.line i.body s p.0 p.1)
    ∙ append_assoc s.declared.signals (body_signals i.body) (signals_of items)

-- the signals that are declared in the end
pub checked-signals : (items : List ItemShape) (t : State) → checked items ≡ Ok t → t.declared.signals ≡ signals_of items
unfolding checked
checked-signals items t h = items-signals items start t h
