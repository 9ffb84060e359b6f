-- The check item by item comes to the first fault of the rule.

use Rattle.std.proofs.Common.{◌≡◌, ℕ, ◌+◌, Bool, true, false, ◌&&◌, ◌||◌, List, [], ◌∷◌, ◌++◌, map, fold, length, drop, Option, Some, None, Ok, Err, refl, sym, ap, ◌∙◌, arith, append_assoc, append-nil, if◌then◌else◌}
use Rattle.std.specs.Prelude.{nat_le, sum, is_some}
use Rattle.std.specs.Option.{option_or, option_map}
use Rattle.std.specs.Str.{bytes_eq}
use Rattle.std.proofs.Math.Seq.{drop-append_seam}
use Rattle.std.proofs.lemmas.List.{length-append, length-map, map-append}
use Rattle.std.proofs.lemmas.List.Sums.{fold-append, sum_by-append}
use Rattle.std.proofs.lemmas.Grind.{flat_map-append}
use Rattle.mltl_base.specs.declared.limits.TheConstants.{MAX_WEIGHT, MAX_SIGNALS}
use Rattle.mltl_base.specs.declared.interval.Engine.{Engine}
use Rattle.mltl_base.specs.declared.signal.Signal.{Signal}
use Rattle.mltl_base.specs.Ranges.{NoRange}
use Rattle.mltl_base.specs.Tables.{Table, entry_of, is_named}
use Rattle.c2po_ast.specs.Shape.{Shape}
use Rattle.c2po_ast.specs.ItemShape.{TypeShape, FieldShape, BodyShape, ItemShape, structure, input, define, formula, contract}
use Rattle.c2po_ast.specs.Faults.{formula_fault, or_later}
use Rattle.c2po_types.specs.Environment.{Env, declare, fields, value, value_of}
use Rattle.c2po_types.specs.Values.{formula_of}
use Rattle.c2po_types.specs.Weights.{weight}
use Rattle.c2po_types.specs.Faults.{value_fault}
use Rattle.c2po_types.specs.declared.kind.Kind.{Kind}
use Rattle.c2po_types.specs.declared.kind.Meaning.{Meaning}
use Rattle.c2po_types.specs.declared.kind.Meaning.TheVariants.{Struct, Value}
use Rattle.c2po_types.specs.declared.declarations.Declarations.{Declarations}
use Rattle.c2po_types.specs.declared.fault.TypeFault.{TypeFault}
use Rattle.c2po_types.specs.declared.fault.TypeFault.TheVariants.{Twice, Wide, Tense, Signals, Kind as Kinds}
use Rattle.c2po_types.specs.Checking.{Checked, fault_of, ◌>>=◌, in_turn}
use Rattle.c2po_types.specs.Kinds.{whole, truth, same_kind}
use Rattle.c2po_types.specs.Scopes.{outside}
use Rattle.c2po_types.specs.Expressions.{kind_of, two, of_one, of_two}
use Rattle.c2po_types.specs.Items.{Labels, nothing, new, type_kind, signal_truth, signal_kind, with_field, with_struct, with_signal, with_input, define_kind, with_value, with_label, formula_kind, contract_kind}
use Rattle.c2po_types.specs.Signals.{is_bool, body_signals}
use Rattle.c2po_types.specs.Outputs.{Place, before, place_after, place_by, values_after, with_signals}
use Rattle.c2po_types.specs.Declares.{after_others, kind_or_int, names_in, structs_in, with_item, declarations_of, values_by, body_label, labels_in, output_trees, weights_of, total_weight}
use Rattle.c2po_types.specs.FirstFault.{earliest, fault_if, fault_unless, is_among, range_fault, is_mixed, field_faults, struct_faults, signal_faults, input_faults, define_faults, label_fault, item_faults, first_fault}
use Rattle.c2po_types.specs.Stepwise.{State, when_ranged, one_tense, with_out, one_out, two_out, defined, struct_step, input_step, define_step, formula_step, contract_step, body_step, item_step, checked}
use Rattle.c2po_types.proofs.Parts.{bind-ok, is-ok}
use Rattle.c2po_types.proofs.SignalLaws.{is_truth}
use Rattle.c2po_types.proofs.Found.{found, fault-found, own-found, if-found, unless-found, ranged-found, then-found, made-found, earliest-append, turns-found, after-push}

-- ---- names

-- whether a name is among those of a table
named-map : {X V : Type 0} (x : List ℕ) (name : X → List ℕ) (v : X → V) (ys : List X) → is_named x (map (λ y. (name y, v y)) ys) ≡ is_among x (map name ys)
named-map x name v [] = refl
named-map {V = V} x name v (y ∷ ys) = here (bytes_eq x (name y)) (named-map x name v ys)
  where
    here : (b : Bool) → is_named x (map (λ y. (name y, v y)) ys) ≡ is_among x (map name ys)
        → is_some (if b then Some (v y) else entry_of x (map (λ y. (name y, v y)) ys)) ≡ (b || is_among x (map name ys))
    here true h = refl
    here false h = h

named-append : {V : Type 0} (x : List ℕ) (es fs : Table V) → is_named x (es ++ fs) ≡ (is_named x es || is_named x fs)
named-append x [] fs = refl
named-append {V = V} x (e ∷ es) fs = here (bytes_eq x e.0) (named-append x es fs)
  where
    here : (b : Bool) → is_named x (es ++ fs) ≡ (is_named x es || is_named x fs)
        → is_some (if b then Some e.1 else entry_of x (es ++ fs)) ≡ (is_some (if b then Some e.1 else entry_of x es) || is_named x fs)
    here true h = refl
    here false h = h

map-self : {X : Type 0} (xs : List X) → map (λ x. x) xs ≡ xs
map-self [] = refl
map-self (x ∷ xs) = ap (◌∷◌ x) (map-self xs)

-- names with nothing else
abbrev table : List (List ℕ) → Labels
table xs = map (λ x. (x, tt)) xs

-- ---- structs

-- a field with its kind
abbrev entry : ℕ → Declarations → FieldShape → List ℕ × Kind
entry line d f = (f.name, kind_or_int (type_kind line d f.kind))

one-field : (line : ℕ) (d : Declarations) (earlier : List FieldShape) (f : FieldShape)
    → with_field line d f (map (entry line d) earlier) ≡ found (earliest (field_faults line d earlier f)) (map (entry line d) (earlier ++ f ∷ []))
one-field line d earlier f =
    let m = type_kind line d f.kind in
    let es = map (entry line d) earlier in
    let rest : Checked (Table Kind) = m >>= λ k. Ok (es ++ (f.name, k) ∷ []) in
    ap (λ b. if b then Err (Twice line) else rest) (named-map f.name (λ (g : FieldShape). g.name) (λ (g : FieldShape). kind_or_int (type_kind line d g.kind)) earlier)
    ∙ if-found (is_among f.name (map (λ g. g.name) earlier)) (Twice line) (option_or (fault_of m) None) (es ++ entry line d f ∷ []) rest (kinds m)
    ∙ ap (found (earliest (field_faults line d earlier f))) (sym (map-append (entry line d) earlier (f ∷ [])))
  where
    kinds : (m : Checked Kind) → (m >>= λ k. Ok (map (entry line d) earlier ++ (f.name, k) ∷ [])) ≡ found (option_or (fault_of m) None) (map (entry line d) earlier ++ (f.name, kind_or_int m) ∷ [])
    kinds (Ok k) = refl
    kinds (Err fault) = refl

-- the declarations with a struct
abbrev struct_added : ℕ → List ℕ → List FieldShape → Declarations → Declarations
struct_added line x fs d = record {
  names = d.names ++ (x, Struct (length d.structs)) ∷ [];
  structs = d.structs ++ map (entry line d) fs ∷ [];
  signals = d.signals;
}

struct-found : (line : ℕ) (x : List ℕ) (fs : List FieldShape) (d : Declarations) → with_struct line x fs d ≡ found (earliest (struct_faults line x fs d)) (struct_added line x fs d)
struct-found line x fs d =
    let m = in_turn (with_field line d) fs [] in
    let o = earliest (after_others (field_faults line d) fs) in
    let made : Table Kind → Declarations = λ fields. record {
      names = d.names ++ (x, Struct (length d.structs)) ∷ [];
      structs = d.structs ++ fields ∷ [];
      signals = d.signals;
    } in
    if-found (is_named x d.names) (Twice line) o (struct_added line x fs d) (m >>= λ fields. Ok (made fields))
    (made-found m o (map (entry line d) fs) made (turns-found (with_field line d) (map (entry line d)) (field_faults line d) (one-field line d) fs))

-- ---- signals

-- the declarations with signals of one kind
abbrev signals_added : Bool → Declarations → List (List ℕ) → Declarations
signals_added b d xs = record {
  names = d.names ++ map (λ x. (x, Value (signal_kind b))) xs;
  structs = d.structs;
  signals = d.signals ++ map (λ x. record { name = x; truth = b }) xs;
}

same_declared : (d : Declarations) (names more : Table Meaning) (structs tables : List (Table Kind)) (ss ts : List Signal) → names ≡ more → structs ≡ tables → ss ≡ ts
    → ◌≡◌ {A = Declarations} (record { names = names; structs = structs; signals = ss }) (record { names = more; structs = tables; signals = ts })
same_declared d names more structs tables ss ts p q r =
    ap (λ (n : Table Meaning). let e : Declarations = record { names = n; structs = structs; signals = ss } in e) p
    ∙ ap (λ (n : List (Table Kind)). let e : Declarations = record { names = more; structs = n; signals = ss } in e) q
    ∙ ap (λ (n : List Signal). let e : Declarations = record { names = more; structs = tables; signals = n } in e) r

one-signal : (line : ℕ) (b : Bool) (d : Declarations) (earlier : List (List ℕ)) (x : List ℕ)
    → with_signal line b x (signals_added b d earlier) ≡ found (earliest (signal_faults line d earlier x)) (signals_added b d (earlier ++ x ∷ []))
one-signal line b d earlier x =
    let e = signals_added b d earlier in
    let one : Table Meaning = (x, Value (signal_kind b)) ∷ [] in
    let last : List Signal = record { name = x; truth = b } ∷ [] in
    let more : Declarations = record { names = e.names ++ one; structs = d.structs; signals = e.signals ++ last } in
    let name : List ℕ → List ℕ × Meaning = λ y. (y, Value (signal_kind b)) in
    let signal : List ℕ → Signal = λ y. record { name = y; truth = b } in
    let named : is_named x e.names ≡ (is_named x d.names || is_among x earlier) =
    named-append x d.names (map name earlier)
    ∙ ap (λ r. is_named x d.names || r) (named-map x (λ y. y) (λ y. Value (signal_kind b)) earlier ∙ ap (is_among x) (map-self earlier)) in
    let count : length e.signals ≡ length d.signals + length earlier = length-append d.signals (map signal earlier) ∙ ap (λ n. length d.signals + n) (length-map earlier signal) in
    let same : more ≡ signals_added b d (earlier ++ x ∷ []) =
    same_declared d (e.names ++ one) (d.names ++ map name (earlier ++ x ∷ [])) d.structs d.structs (e.signals ++ last) (d.signals ++ map signal (earlier ++ x ∷ []))
    (append_assoc d.names (map name earlier) one ∙ ap (λ r. d.names ++ r) (sym (map-append name earlier (x ∷ [])))) refl
    (append_assoc d.signals (map signal earlier) last ∙ ap (λ r. d.signals ++ r) (sym (map-append signal earlier (x ∷ [])))) in
    let rest : Checked Declarations = if nat_le MAX_SIGNALS (length d.signals + length earlier) then Err (Signals line) else Ok more in
    ap (λ n. new line x e.names (if nat_le MAX_SIGNALS n then Err (Signals line) else Ok more)) count
    ∙ ap (λ c. if c then Err (Twice line) else rest) named
    ∙ if-found (is_named x d.names || is_among x earlier) (Twice line) (option_or (fault_if (nat_le MAX_SIGNALS (length d.signals + length earlier)) (Signals line)) None) more rest
    (if-found (nat_le MAX_SIGNALS (length d.signals + length earlier)) (Signals line) None more (Ok more) refl)
    ∙ ap (found (earliest (signal_faults line d earlier x))) same

no-signals : (b : Bool) (d : Declarations) → d ≡ signals_added b d []
no-signals b d = same_declared d d.names (d.names ++ []) d.structs d.structs d.signals (d.signals ++ []) (sym (append-nil d.names)) refl (sym (append-nil d.signals))

-- the kind of signals
truth-found : (line : ℕ) (t : TypeShape) (d : Declarations) → (type_kind line d t >>= signal_truth line) ≡ found (fault_of (type_kind line d t >>= signal_truth line)) (is_bool t)
truth-found line t d = here (type_kind line d t >>= signal_truth line) refl
  where
    here : (m : Checked Bool) → (type_kind line d t >>= signal_truth line) ≡ m → m ≡ found (fault_of m) (is_bool t)
    here (Ok b) h = let p = bind-ok (type_kind line d t) (signal_truth line) b h in ap Ok (is_truth line d t p.0 b p.1 p.2)
    here (Err fault) h = refl

input-found : (line : ℕ) (xs : List (List ℕ)) (t : TypeShape) (d : Declarations) → with_input line xs t d ≡ found (earliest (input_faults line xs t d)) (signals_added (is_bool t) d xs)
input-found line xs t d =
    let m = type_kind line d t >>= signal_truth line in
    let b = is_bool t in
    then-found m (fault_of m) b (λ b. in_turn (with_signal line b) xs d) (earliest (after_others (signal_faults line d) xs)) (signals_added b d xs) (truth-found line t d)
    (ap (in_turn (with_signal line b) xs) (no-signals b d) ∙ turns-found (with_signal line b) (signals_added b d) (signal_faults line d) (one-signal line b d) xs)

-- ---- expressions

-- a formula of an output: the faults of its expression, then its kind
formula-found : (line : ℕ) (m : Checked Kind) → (m >>= of_one line truth truth) ≡ found (earliest (fault_of m ∷ fault_of (m >>= of_one line truth truth) ∷ [])) truth
formula-found line (Err fault) = refl
formula-found line (Ok k) = here (same_kind k truth)
  where
    here : (b : Bool) → let r : Checked Kind = if b then Ok truth else Err (Kinds line) in r ≡ found (option_or (fault_of r) None) truth
    here true = refl
    here false = refl

contract-found : (line : ℕ) (m n : Checked Kind)
    → (two m n >>= of_two line truth truth)
    ≡ found (earliest (fault_of m ∷ fault_of n ∷ fault_of (m >>= of_one line truth truth) ∷ fault_of (n >>= of_one line truth truth) ∷ [])) truth
contract-found line (Err fault) n = refl
contract-found line (Ok j) (Err fault) = refl
contract-found line (Ok j) (Ok k) = here (same_kind j truth) (same_kind k truth)
  where
    here : (b c : Bool) → let r : Bool → Checked Kind = λ a. if a then Ok truth else Err (Kinds line) in
        r (b && c) ≡ found (option_or (fault_of (r b)) (option_or (fault_of (r c)) None)) truth
    here true true = refl
    here true false = refl
    here false c = refl

-- the faults of two integers, the left one first
later-range : (line : ℕ) (a b : Option NoRange) → option_map (range_fault line) (or_later a b) ≡ option_or (option_map (range_fault line) a) (option_or (option_map (range_fault line) b) None)
later-range line (Some a) b = refl
later-range line None (Some b) = refl
later-range line None None = refl

either-tense : (line : ℕ) (a b : Bool) → fault_if (a || b) (Tense line) ≡ option_or (fault_if a (Tense line)) (option_or (fault_if b (Tense line)) None)
either-tense line true b = refl
either-tense line false true = refl
either-tense line false false = refl

only : (o : Option TypeFault) → o ≡ option_or o None
only None = refl
only (Some fault) = refl

-- ---- outputs

-- what is known of its parts
abbrev pub known : Declarations → Labels → Env → ℕ → State
known d labels env total = record { declared = d; labels = labels; values = env; total = total }

same_known : (d e : Declarations) (l m : Labels) (v w : Env) (t u : ℕ) → d ≡ e → l ≡ m → v ≡ w → t ≡ u → known d l v t ≡ known e m w u
same_known d e l m v w t u declared labels env total =
    ap (λ (x : Declarations). known x l v t) declared
    ∙ ap (λ (x : Labels). known e x v t) labels
    ∙ ap (λ (x : Env). known e m x t) env
    ∙ ap (λ (x : ℕ). known e m w x) total

-- an output, by the faults of its integers and those of its tense
out-found : (line : ℕ) (labels : Labels) (w : ℕ) (why : Option NoRange) (mixed : Bool) (s : State) (rs ts : List (Option TypeFault))
    → option_map (range_fault line) why ≡ earliest rs → fault_if mixed (Tense line) ≡ earliest ts
    → with_out line labels w why mixed s
    ≡ found (earliest (fault_unless (nat_le (s.total + w) MAX_WEIGHT) (Wide line) ∷ rs ++ ts)) (known s.declared labels s.values (s.total + w))
out-found line labels w why mixed s rs ts ranges tenses =
    let light = nat_le (s.total + w) MAX_WEIGHT in
    let last : State = known s.declared labels s.values (s.total + w) in
    let tensed : Checked State = one_tense line mixed (Ok last) in
    unless-found light (Wide line) (option_or (option_map (range_fault line) why) (fault_if mixed (Tense line))) last (when_ranged line why tensed)
    (ranged-found line why (fault_if mixed (Tense line)) last tensed (here mixed last))
    ∙ ap (λ o. found (option_or (fault_unless light (Wide line)) (option_or o (fault_if mixed (Tense line)))) last) ranges
    ∙ ap (λ o. found (option_or (fault_unless light (Wide line)) (option_or (earliest rs) o)) last) tenses
    ∙ ap (λ o. found (option_or (fault_unless light (Wide line)) o) last) (sym (earliest-append rs ts))
  where
    here : (b : Bool) (last : State) → one_tense line b (Ok last) ≡ found (fault_if b (Tense line)) last
    here true last = refl
    here false last = refl

-- the names of a label
abbrev labels_of : Option (List ℕ) → List (List ℕ)
labels_of None = []
labels_of (Some x) = x ∷ []

-- a label
label-found : (line : ℕ) (label : Option (List ℕ)) (items : List ItemShape) (own : List (List ℕ)) → own ≡ labels_of label
    → with_label line label (table (labels_in items)) ≡ found (label_fault line label items) (table (labels_in items) ++ table own)
label-found line None items own h = ap Ok (sym (append-nil (table (labels_in items))) ∙ ap (λ r. table (labels_in items) ++ table r) (sym h))
label-found line (Some x) items own h =
    let labels = table (labels_in items) in
    let rest : Checked Labels = Ok (labels ++ (x, tt) ∷ []) in
    ap (λ b. if b then Err (Twice line) else rest) (named-map x (λ y. y) (λ y. tt) (labels_in items) ∙ ap (is_among x) (map-self (labels_in items)))
    ∙ here (is_among x (labels_in items)) (labels ++ (x, tt) ∷ [])
    ∙ ap (λ r. found (fault_if (is_among x (labels_in items)) (Twice line)) (labels ++ table r)) (sym h)
  where
    here : (b : Bool) (ls : Labels) → (if b then Err (Twice line) else Ok ls) ≡ found (fault_if b (Twice line)) ls
    here true ls = refl
    here false ls = refl

-- ---- items

-- what is known after items, by the rule
abbrev pub state_after : List ItemShape → State
state_after items = known (declarations_of items) (table (labels_in items)) (values_by items) (total_weight items)

-- and what is known after one more
abbrev next : List ItemShape → ItemShape → State
next items i = known (with_item (declarations_of items) i) (table (labels_in items) ++ table (body_label i.body)) (values_after i.body (place_by items))
    (total_weight items + sum (weights_of (output_trees i.body) (values_by items)))

label-push : (items : List ItemShape) (i : ItemShape) → labels_in (items ++ i ∷ []) ≡ labels_in items ++ body_label i.body
label-push items i =
    flat_map-append (λ (j : ItemShape). body_label j.body) items (i ∷ []) ∙ ap (λ r. labels_in items ++ r) (append-nil (body_label i.body))

next-is : (items : List ItemShape) (i : ItemShape) → next items i ≡ state_after (items ++ i ∷ [])
next-is items i =
    let weights = λ (earlier : List ItemShape) (j : ItemShape). weights_of (output_trees j.body) (values_by earlier) in
    let own = weights_of (output_trees i.body) (values_by items) in
    let places = fold-append (λ (p : Place) (j : ItemShape). place_after j.body p) before items (i ∷ []) in
    same_known (with_item (declarations_of items) i) (declarations_of (items ++ i ∷ []))
    (table (labels_in items) ++ table (body_label i.body)) (table (labels_in (items ++ i ∷ [])))
    (values_after i.body (place_by items)) (values_by (items ++ i ∷ []))
    (total_weight items + sum own) (total_weight (items ++ i ∷ []))
    (sym (fold-append with_item nothing items (i ∷ [])))
    (sym (map-append (λ (x : List ℕ). (x, tt)) (labels_in items) (body_label i.body)) ∙ ap table (sym (label-push items i)))
    (ap (λ (p : Place). p.values) (sym places))
    (sym (ap sum (after-push weights items i) ∙ sum_by-append (λ w. w) (after_others weights items) own))

-- signals are counted alike
counted : (items : List ItemShape) (p : Place) (d : Declarations) → p.signals ≡ length d.signals
    → (fold (λ (q : Place) (i : ItemShape). place_after i.body q) p items).signals ≡ length (fold with_item d items).signals
counted [] p d h = h
counted (i ∷ items) p d h =
    counted items (place_after i.body p) (with_item d i) (omega (arith, h, length-append d.signals (body_signals i.body)))

-- nothing is added where an item declares nothing of a sort
no-more : {X : Type 0} (xs : List X) → xs ≡ xs ++ []
no-more xs = sym (append-nil xs)

struct-step : (items : List ItemShape) (line : ℕ) (x : List ℕ) (fs : List FieldShape) → let i : ItemShape = record { line = line; body = structure x fs } in
    struct_step line x fs (state_after items) ≡ found (earliest (item_faults items i)) (next items i)
struct-step items line x fs =
    let i : ItemShape = record { line = line; body = structure x fs } in
    let d = declarations_of items in
    let labels = table (labels_in items) in
    let env = declare x (fields (map (λ f. f.name) fs)) (values_by items) in
    let o = earliest (struct_faults line x fs d) in
    let added = struct_added line x fs d in
    made-found (with_struct line x fs d) o added (λ e. known e labels env (total_weight items)) (struct-found line x fs d)
    ∙ ap (found o) (same_known added (with_item d i) labels (labels ++ []) env env (total_weight items) (total_weight items + 0)
    (same_declared d added.names added.names added.structs added.structs d.signals (d.signals ++ []) refl refl (no-more d.signals)) (no-more labels) refl (omega arith))

input-step : (items : List ItemShape) (line : ℕ) (xs : List (List ℕ)) (t : TypeShape) → let i : ItemShape = record { line = line; body = input xs t } in
    input_step line xs t (state_after items) ≡ found (earliest (item_faults items i)) (next items i)
input-step items line xs t =
    let i : ItemShape = record { line = line; body = input xs t } in
    let d = declarations_of items in
    let labels = table (labels_in items) in
    let n = length d.signals in
    let o = earliest (input_faults line xs t d) in
    let added = signals_added (is_bool t) d xs in
    let ss = body_signals (input xs t) in
    let env = values_by items in
    let made : Declarations → State = λ e. known e labels (with_signals n (drop n e.signals) env) (total_weight items) in
    let same : with_signals n (drop n added.signals) env ≡ values_after (input xs t) (place_by items) =
    ap (λ r. with_signals n r env) (drop-append_seam d.signals ss)
    ∙ ap (λ k. with_signals k ss env) (sym (counted items before nothing refl)) in
    made-found (with_input line xs t d) o added made (input-found line xs t d)
    ∙ ap (found o) (same_known added (with_item d i) labels (labels ++ []) (with_signals n (drop n added.signals) env) (values_after (input xs t) (place_by items)) (total_weight items) (total_weight items + 0)
    (same_declared d added.names added.names d.structs (d.structs ++ []) added.signals added.signals refl (no-more d.structs) refl) (no-more labels) same (omega arith))

define-step : (items : List ItemShape) (line : ℕ) (x : List ℕ) (e : Shape) → let i : ItemShape = record { line = line; body = define x e } in
    define_step line x e (state_after items) ≡ found (earliest (item_faults items i)) (next items i)
define-step items line x e =
    let i : ItemShape = record { line = line; body = define x e } in
    let d = declarations_of items in
    let labels = table (labels_in items) in
    let v = value_of e (values_by items) in
    let m = kind_of e (outside d) in
    let k = kind_or_int m in
    let env = declare x (value v) (values_by items) in
    let last : State = known (with_value x k d) labels env (total_weight items) in
    let twice = fault_if (is_named x d.names) (Twice line) in
    let wide = fault_unless (nat_le (weight v) MAX_WEIGHT) (Wide line) in
    let ranges = option_map (range_fault line) (value_fault v) in
    let o = earliest (define_faults line x e items) in
    let kinds : define_kind line x e d ≡ found (earliest (fault_of m ∷ twice ∷ [])) k =
    then-found m (fault_of m) k (λ k. new line x d.names (Ok k)) (option_or twice None) k (own-found m whole)
    (if-found (is_named x d.names) (Twice line) None k (Ok k) refl) in
    let rest : defined line x (with_value x k d) v (state_after items) ≡ found (earliest (wide ∷ ranges ∷ [])) last =
    unless-found (nat_le (weight v) MAX_WEIGHT) (Wide line) (option_or ranges None) last (when_ranged line (value_fault v) (Ok last))
    (ranged-found line (value_fault v) None last (Ok last) refl) in
    then-found (define_kind line x e d) (earliest (fault_of m ∷ twice ∷ [])) k (λ k. defined line x (with_value x k d) v (state_after items)) (earliest (wide ∷ ranges ∷ [])) last kinds rest
    ∙ ap (λ o. found o last) (sym (earliest-append (fault_of m ∷ twice ∷ []) (wide ∷ ranges ∷ [])))
    ∙ ap (found o) (same_known (with_value x k d) (with_item d i) labels (labels ++ []) env env (total_weight items) (total_weight items + 0)
    (same_declared d (with_value x k d).names (with_value x k d).names d.structs (d.structs ++ []) d.signals (d.signals ++ []) refl (no-more d.structs) (no-more d.signals)) (no-more labels) refl (omega arith))

-- an output of any sort: its label, its kinds, and the rest
output-step : (items : List ItemShape) (i : ItemShape) (label : Option (List ℕ)) (kinds : Checked Kind) (ks ws : List (Option TypeFault)) (rest : Labels → Checked State)
    → body_label i.body ≡ labels_of label → names_in i.body (declarations_of items) ≡ [] → structs_in i.line i.body (declarations_of items) ≡ [] → body_signals i.body ≡ []
    → kinds ≡ found (earliest ks) truth
    → ((labels : Labels) → rest labels ≡ found (earliest ws) (known (declarations_of items) labels (values_by items) (total_weight items + sum (weights_of (output_trees i.body) (values_by items)))))
    → values_after i.body (place_by items) ≡ values_by items
    → (with_label i.line label (table (labels_in items)) >>= λ labels. kinds >>= λ k. rest labels)
    ≡ found (earliest (label_fault i.line label items ∷ ks ++ ws)) (next items i)
output-step items i label kinds ks ws rest own names structs signals typed outs values =
    let d = declarations_of items in
    let labels = table (labels_in items) ++ table (body_label i.body) in
    let env = values_by items in
    let total = total_weight items + sum (weights_of (output_trees i.body) env) in
    let last : State = known d labels env total in
    then-found (with_label i.line label (table (labels_in items))) (label_fault i.line label items) labels (λ ls. kinds >>= λ k. rest ls) (option_or (earliest ks) (earliest ws)) last
    (label-found i.line label items (body_label i.body) own)
    (then-found kinds (earliest ks) truth (λ k. rest labels) (earliest ws) last typed (outs labels))
    ∙ ap (λ o. found (option_or (label_fault i.line label items) o) last) (sym (earliest-append ks ws))
    ∙ ap (found (earliest (label_fault i.line label items ∷ ks ++ ws)))
    (same_known d (with_item d i) labels labels env (values_after i.body (place_by items)) total total
    (same_declared d d.names (d.names ++ names_in i.body d) d.structs (d.structs ++ structs_in i.line i.body d) d.signals (d.signals ++ body_signals i.body)
    (no-more d.names ∙ ap (λ r. d.names ++ r) (sym names)) (no-more d.structs ∙ ap (λ r. d.structs ++ r) (sym structs)) (no-more d.signals ∙ ap (λ r. d.signals ++ r) (sym signals)))
    refl (sym values) refl)

formula-step : (items : List ItemShape) (line : ℕ) (engine : Engine) (label : Option (List ℕ)) (e : Shape) → let i : ItemShape = record { line = line; body = formula engine label e } in
    formula_step line engine label e (state_after items) ≡ found (earliest (item_faults items i)) (next items i)
formula-step items line engine label e =
    let i : ItemShape = record { line = line; body = formula engine label e } in
    let d = declarations_of items in
    let s = state_after items in
    let v = value_of e (values_by items) in
    let m = kind_of e (outside d) in
    let p = formula_of v in
    let total = sum (weights_of (e ∷ []) (values_by items)) in
    let same : weight v ≡ total = omega arith in
    output-step items i label (formula_kind line e d) (fault_of m ∷ fault_of (m >>= of_one line truth truth) ∷ [])
    (fault_unless (nat_le (s.total + total) MAX_WEIGHT) (Wide line) ∷ option_map (range_fault line) (formula_fault p) ∷ fault_if (is_mixed engine p) (Tense line) ∷ [])
    (λ labels. one_out line engine labels v s) (body-labels label) refl refl refl (formula-found line m)
    (λ labels.
    ap (λ w. with_out line labels w (formula_fault p) (is_mixed engine p) s) same
    ∙ out-found line labels total (formula_fault p) (is_mixed engine p) s (option_map (range_fault line) (formula_fault p) ∷ []) (fault_if (is_mixed engine p) (Tense line) ∷ [])
    (only (option_map (range_fault line) (formula_fault p))) (only (fault_if (is_mixed engine p) (Tense line))))
    refl
  where
    body-labels : (label : Option (List ℕ)) → body_label (formula engine label e) ≡ labels_of label
    body-labels None = refl
    body-labels (Some x) = refl

contract-step : (items : List ItemShape) (line : ℕ) (engine : Engine) (label : Option (List ℕ)) (e f : Shape) → let i : ItemShape = record { line = line; body = contract engine label e f } in
    contract_step line engine label e f (state_after items) ≡ found (earliest (item_faults items i)) (next items i)
contract-step items line engine label e f =
    let i : ItemShape = record { line = line; body = contract engine label e f } in
    let d = declarations_of items in
    let s = state_after items in
    let v = value_of e (values_by items) in
    let w = value_of f (values_by items) in
    let m = kind_of e (outside d) in
    let n = kind_of f (outside d) in
    let p = formula_of v in
    let q = formula_of w in
    let total = sum (weights_of (e ∷ f ∷ []) (values_by items)) in
    let same : weight v + weight w ≡ total = omega arith in
    let why = or_later (formula_fault p) (formula_fault q) in
    let mixed = is_mixed engine p || is_mixed engine q in
    let rs : List (Option TypeFault) = option_map (range_fault line) (formula_fault p) ∷ option_map (range_fault line) (formula_fault q) ∷ [] in
    let ts : List (Option TypeFault) = fault_if (is_mixed engine p) (Tense line) ∷ fault_if (is_mixed engine q) (Tense line) ∷ [] in
    output-step items i label (contract_kind line e f d) (fault_of m ∷ fault_of n ∷ fault_of (m >>= of_one line truth truth) ∷ fault_of (n >>= of_one line truth truth) ∷ [])
    (fault_unless (nat_le (s.total + total) MAX_WEIGHT) (Wide line) ∷ rs ++ ts)
    (λ labels. two_out line engine labels v w s) (body-labels label) refl refl refl (contract-found line m n)
    (λ labels.
    ap (λ k. with_out line labels k why mixed s) same
    ∙ out-found line labels total why mixed s rs ts (later-range line (formula_fault p) (formula_fault q)) (either-tense line (is_mixed engine p) (is_mixed engine q)))
    refl
  where
    body-labels : (label : Option (List ℕ)) → body_label (contract engine label e f) ≡ labels_of label
    body-labels None = refl
    body-labels (Some x) = refl

one-item : (items : List ItemShape) (i : ItemShape) → item_step i (state_after items) ≡ found (earliest (item_faults items i)) (state_after (items ++ i ∷ []))
one-item items i = here i.line i.body ∙ ap (found (earliest (item_faults items i))) (next-is items i)
  where
    here : (line : ℕ) (body : BodyShape) → let j : ItemShape = record { line = line; body = body } in body_step line body (state_after items) ≡ found (earliest (item_faults items j)) (next items j)
    here line (structure x fs) = struct-step items line x fs
    here line (input xs t) = input-step items line xs t
    here line (define x e) = define-step items line x e
    here line (formula engine label e) = formula-step items line engine label e
    here line (contract engine label e f) = contract-step items line engine label e f

-- the check item by item finds the rule's first fault
pub rule_is : (items : List ItemShape) → fault_of (checked items) ≡ first_fault items
unfolding checked first_fault
rule_is items =
    ap fault_of (turns-found item_step state_after item_faults one-item items) ∙ fault-found (earliest (after_others item_faults items)) (state_after items)

-- where the rule finds no fault, the check comes to its end
pub all-checked : (items : List ItemShape) → first_fault items ≡ None → (t : State) × (checked items ≡ Ok t)
all-checked items h = is-ok (checked items) (rule_is items ∙ h)
