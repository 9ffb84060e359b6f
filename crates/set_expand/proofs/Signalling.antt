-- Signals by their numbers: what expressions read of them.

use Rattle.std.proofs.Common.{◌≡◌, ℕ, suc, Bool, true, false, Some, List, [], ◌∷◌, ◌++◌, map, length, refl, sym, ap, subst, ◌∙◌, append_assoc, arith}
use Rattle.std.specs.Prelude.{slice_get, All}
use Rattle.std.proofs.lemmas.List.{map-append, length-map, length-append}
use Rattle.std.proofs.lemmas.List.Elements.{All-nil, All-cons, All-append}
use Rattle.c2po_ast.specs.ItemShape.{BodyShape, ItemShape, structure, input, define, formula, contract}
use Rattle.mltl_base.specs.declared.signal.Signal.{Signal}
use Rattle.c2po_types.specs.Outputs.{with_signals}
use Rattle.c2po_types.specs.Signals.{body_signals, signals_of}
use Rattle.c2po_types.specs.Values.{formula_of}
use Rattle.c2po_types.specs.Environment.{Env, declare, fields, value, signal_value, value_of}
use Rattle.mltl_base.specs.Kinds.{ReadsKinds, ReadsSignals, kinds_of}
use Rattle.set_expand.specs.Outputs.{Place, before, values_after, asked_at, place_after, asked_from, outputs_of}
use Rattle.set_expand.proofs.ReadValues.{ValueReads, EnvReads, formula_reads, nothing_reads, declare_reads, value_reads}

-- the first member after a front
front_get : {X : Type 0} (front : List X) (x : X) (rest : List X) → slice_get (front ++ x ∷ rest) (length front) ≡ Some x
front_get [] x rest = refl
front_get (y ∷ front) x rest = front_get front x rest

signal_reads : (kinds : List Bool) (truth : Bool) (n : ℕ) → slice_get kinds n ≡ Some truth → ValueReads kinds (signal_value truth n)
signal_reads kinds true n h = h
signal_reads kinds false n h = h

-- signals after a front
signals_read : (front : List Bool) (ss : List Signal) (rest : List Bool) (n : ℕ) (env : Env) → n ≡ length front
    → EnvReads (front ++ (kinds_of ss ++ rest)) env → EnvReads (front ++ (kinds_of ss ++ rest)) (with_signals n ss env)
signals_read front [] rest n env e h = h
signals_read front (s ∷ ss) rest n env e h =
    let kinds : List Bool = front ++ (s.truth ∷ (kinds_of ss ++ rest)) in
    let same : (front ++ s.truth ∷ []) ++ (kinds_of ss ++ rest) ≡ kinds = append_assoc front (s.truth ∷ []) (kinds_of ss ++ rest) in
    let here : slice_get kinds n ≡ Some s.truth = ap (slice_get kinds) e ∙ front_get front s.truth (kinds_of ss ++ rest) in
    let more = declare_reads kinds s.name (value (signal_value s.truth n)) env (signal_reads kinds s.truth n here) h in
    subst (λ ks. EnvReads ks (with_signals (suc n) ss (declare s.name (value (signal_value s.truth n)) env))) same
    (signals_read (front ++ s.truth ∷ []) ss rest (suc n) (declare s.name (value (signal_value s.truth n)) env)
    (omega (arith, length-append front (s.truth ∷ [])))
    (subst (λ ks. EnvReads ks (declare s.name (value (signal_value s.truth n)) env)) (sym same) more))

-- what an item makes known
values_read : (front : List Bool) (body : BodyShape) (rest : List Bool) (p : Place) → p.signals ≡ length front
    → EnvReads (front ++ (kinds_of (body_signals body) ++ rest)) p.values
    → EnvReads (front ++ (kinds_of (body_signals body) ++ rest)) (values_after body p)
values_read front (structure x fs) rest p e h = declare_reads (front ++ rest) x (fields (map (λ f. f.name) fs)) p.values tt h
values_read front (input xs t) rest p e h = signals_read front (body_signals (input xs t)) rest p.signals p.values e h
values_read front (define x e) rest p n h = declare_reads (front ++ rest) x (value (value_of e p.values)) p.values (value_reads (front ++ rest) e p.values h) h
values_read front (formula engine label e) rest p n h = h
values_read front (contract engine label e f) rest p n h = h

-- what an item asks for
asked_reads : (kinds : List Bool) (body : BodyShape) (p : Place) → EnvReads kinds p.values → All (ReadsSignals kinds) (asked_at body p)
asked_reads kinds (formula engine label e) p h =
    let one = formula_reads kinds (value_of e p.values) (value_reads kinds e p.values h) in
    All-cons (ReadsSignals kinds) _ [] (All-cons (ReadsKinds kinds) _ [] one (All-nil (ReadsKinds kinds))) (All-nil (ReadsSignals kinds))
asked_reads kinds (contract engine label e f) p h =
    let left = formula_reads kinds (value_of e p.values) (value_reads kinds e p.values h) in
    let right = formula_reads kinds (value_of f p.values) (value_reads kinds f p.values h) in
    All-cons (ReadsSignals kinds) _ [] (All-cons (ReadsKinds kinds) (formula_of (value_of e p.values)) (formula_of (value_of f p.values) ∷ []) left (All-cons (ReadsKinds kinds) (formula_of (value_of f p.values)) [] right (All-nil (ReadsKinds kinds)))) (All-nil (ReadsSignals kinds))
asked_reads kinds _ p h = All-nil (ReadsSignals kinds)

-- what items ask for, after some signals
outputs_read : (front : List Bool) (items : List ItemShape) (p : Place) → p.signals ≡ length front
    → EnvReads (front ++ kinds_of (signals_of items)) p.values → All (ReadsSignals (front ++ kinds_of (signals_of items))) (asked_from items p)
unfolding asked_from
outputs_read front [] p e h = All-nil (ReadsSignals (front ++ []))
outputs_read front (i ∷ items) p e h =
    let ss : List Signal = body_signals i.body in
    let split : kinds_of (ss ++ signals_of items) ≡ kinds_of ss ++ kinds_of (signals_of items) = map-append (λ (s : Signal). s.truth) ss (signals_of items) in
    let whole : front ++ kinds_of (signals_of (i ∷ items)) ≡ front ++ (kinds_of ss ++ kinds_of (signals_of items)) = ap (λ ks. front ++ ks) split in
    let same : (front ++ kinds_of ss) ++ kinds_of (signals_of items) ≡ front ++ kinds_of (signals_of (i ∷ items)) = append_assoc front (kinds_of ss) (kinds_of (signals_of items)) ∙ sym whole in
    let now = values_read front i.body (kinds_of (signals_of items)) p e (subst (λ ks. EnvReads ks p.values) whole h) in
    All-append (ReadsSignals (front ++ kinds_of (signals_of (i ∷ items)))) (asked_at i.body p) (asked_from items (place_after i.body p))
    (asked_reads (front ++ kinds_of (signals_of (i ∷ items))) i.body p h)
    (subst (λ ks. All (ReadsSignals ks) (asked_from items (place_after i.body p))) same
    (outputs_read (front ++ kinds_of ss) items (place_after i.body p) (omega (arith, length-append front (kinds_of ss), length-map ss (λ (s : Signal). s.truth)))
    (subst (λ ks. EnvReads ks (values_after i.body p)) (sym (append_assoc front (kinds_of ss) (kinds_of (signals_of items)))) now)))

-- the outputs of a specification read signals by their kinds
pub outputs-read : (items : List ItemShape) → All (ReadsSignals (kinds_of (signals_of items))) (outputs_of items)
unfolding outputs_of
outputs-read items = outputs_read [] items before refl (nothing_reads (kinds_of (signals_of items)))
