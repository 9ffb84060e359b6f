-- One more item: what is known after it, and what is left.

use Rattle.std.proofs.Common.{◌≡◌, ℕ, suc, ◌+◌, Option, option_map, slice_get, ◌<◌, ◌≤◌, ◌^◌, Bool, Some, None, List, [], ◌∷◌, ◌++◌, map, length, drop, get_or, refl, sym, ap, subst, ◌∙◌, append_assoc, arith}
use Rattle.std.specs.Prelude.{All}
use Rattle.std.proofs.Math.ListN.{drop_of_length-le}
use Rattle.std.proofs.lemmas.List.{append-nil, length-append, length-map}
use Rattle.std.proofs.lemmas.Option.{get_or_from_slice_get, slice_get-map, slice_get_within}
use Rattle.mltl_base.specs.declared.interval.Engine.{Engine}
use Rattle.mltl_base.specs.declared.limits.TheConstants.{MAX_SIGNALS}
use Rattle.mltl_base.specs.declared.signal.Signal.{Signal}
use Rattle.mltl_base.specs.Formula.{Formula}
use Rattle.mltl_base.specs.Reports as output
use Rattle.mltl_base.specs.Subformulas.{Asked, IsTensed}
use Rattle.mltl_base.specs.Tables.{Table}
use Rattle.c2po_ast.specs.declared.nodes.Plain.{Plain}
use Rattle.c2po_ast.specs.declared.nodes.Plain.TheVariants.{Flag, Signal as Column}
use Rattle.c2po_ast.specs.declared.nodes.PlainOut.{PlainOut}
use Rattle.c2po_ast.specs.declared.nodes.PlainOut.TheVariants as out
use Rattle.c2po_ast.specs.Nodes.{Tree, formula, node_formula, trees, Has, IsFormed, AreSound}
use Rattle.c2po_ast.specs.Outputs.{NamesFormulas, IsSound, asked_by}
use Rattle.c2po_ast.proofs.Pushing.{formula_in_place, is_formula, sound_nil}
use Rattle.c2po_ast.specs.declared.item.Item.{Item}
use Rattle.c2po_ast.specs.Shape.{Shape}
use Rattle.c2po_ast.specs.ItemShape as item
use Rattle.c2po_ast.specs.ItemShape.{BodyShape, ItemShape, item_shape}
use Rattle.c2po_types.specs.FirstFault.{first_fault}
use Rattle.c2po_types.specs.Outputs.{Place, before, name_of, values_after, asked_at, place_after, asked_from, outputs_of, with_signals}
use Rattle.c2po_types.specs.Signals.{body_signals, signals_of}
use Rattle.c2po_types.proofs.Faultless.{faultless-tensed}
use Rattle.c2po_types.proofs.OwnNames.{few_signals}
use Rattle.c2po_types.proofs.Turns.{drop-first}
use Rattle.c2po_types.specs.Environment.{Env, declare, value, signal_value, value_of}
use Rattle.c2po_types.specs.Values.{formula_of}
use Rattle.set_expand.specs.declared.items.Unfolded.{Unfolded}
use Rattle.set_expand.specs.declared.names.Declared.{Declared}
use Rattle.set_expand.specs.declared.names.Entry.{Entry}
use Rattle.set_expand.specs.declared.names.Entry.TheVariants as entry
use Rattle.set_expand.specs.Light.{AreLight}
use Rattle.set_expand.specs.Names.{EntryBelow, SignalsBelow, env_now, envs_of}
use Rattle.set_expand.specs.Nodes.{HaveNodes, IsMore}
use Rattle.set_expand.specs.Unfolded.{AskFor, Leaves, StandsAt}
use Rattle.set_expand.proofs.Asking.{asks-none, asks-later, asks-push}

-- nodes over more signals
formed-more : (m n : ℕ) (earlier : List Tree) (node : Plain) → m ≤ n → IsFormed m earlier node → IsFormed n earlier node
formed-more m n earlier (Flag s) le h = omega arith
formed-more m n earlier (Column s) le h = omega arith
formed-more m n earlier _ le h = h

pub sound-more : (m n : ℕ) (nodes : List Plain) → m ≤ n → AreSound m nodes → AreSound n nodes
sound-more m n nodes le h = record { formed = λ i node at. formed-more m n _ node le (h.formed i node at) }

-- the signals of some names, all of one kind
abbrev pub signals_named : List (List ℕ) → Bool → List Signal
signals_named xs b = map (λ (x : List ℕ). record { name = x; truth = b }) xs

-- one more of the signals that are left
pub signals-next : (xs : List (List ℕ)) (b : Bool) (i from : ℕ) (x : List ℕ) (now : Env) → slice_get xs i ≡ Some x
    → with_signals (from + i) (drop i (signals_named xs b)) now
    ≡ with_signals (from + (i + 1)) (drop (i + 1) (signals_named xs b)) (declare x (value (signal_value b (from + i))) now)
signals-next xs b i from x now at =
    let ss = signals_named xs b in
    let s : Signal = record { name = x; truth = b } in
    let there : slice_get ss i ≡ Some s =
    slice_get-map (λ (y : List ℕ). record { name = y; truth = b }) xs i ∙ ap (option_map (λ (y : List ℕ). record { name = y; truth = b })) at in
    let next : suc (from + i) ≡ from + (i + 1) = omega arith in
    ap (λ rest. with_signals (from + i) rest now) (drop-first ss i s (slice_get_within ss i s there) (sym (get_or_from_slice_get ss i s s there)))
    ∙ ap (λ m. with_signals m (drop (i + 1) ss) (declare x (value (signal_value b (from + i))) now)) next

-- no signal is left
pub signals-end : (xs : List (List ℕ)) (b : Bool) (i from : ℕ) (now : Env) → length xs ≤ i → with_signals (from + i) (drop i (signals_named xs b)) now ≡ now
signals-end xs b i from now h =
    ap (λ rest. with_signals (from + i) rest now)
    (drop_of_length-le (signals_named xs b) (omega (arith, length-map {B = Signal} xs (λ (x : List ℕ). record { name = x; truth = b }))))

-- signals below a number are below a greater one
entry-more : (m n : ℕ) (e : Entry) → m ≤ n → EntryBelow m e → EntryBelow n e
entry-more m n (entry.Struct fs i) le h = tt
entry-more m n (entry.Signal b k) le h = omega arith
entry-more m n (entry.Defined e k made) le h = tt

pub below-more : (m n : ℕ) (names : Table Declared) → m ≤ n → SignalsBelow m names → SignalsBelow n names
below-more m n names le h = record { each = λ x d at. entry-more m n d.entry le (h.each x d at) }

-- an item without outputs
pub stands-after : (u v : Unfolded) (body : BodyShape) (place : Place) (told : List Asked) → asked_at body place ≡ [] → StandsAt u place told
    → env_now v.names ≡ values_after body place → v.signals ≡ u.signals + length (body_signals body) → SignalsBelow v.signals v.names
    → IsMore u.names u.nodes v.nodes → HaveNodes v.nodes v.names → v.outs ≡ u.outs → StandsAt v (place_after body place) (told ++ asked_at body place)
stands-after u v body place told none h values signals below more kept outs = record {
  values = values;
  numbered = signals ∙ ap (λ k. k + length (body_signals body)) h.numbered;
  below = below;
  kept = kept;
  counted = omega (arith, h.counted, ap length none, ap length outs);
  sound = sound-more u.signals v.signals v.nodes (omega (arith, signals)) (more.sound u.signals h.below h.sound);
  asked = subst (λ os. AskFor v.nodes os (told ++ asked_at body place)) (sym outs)
      (subst (AskFor v.nodes u.outs) (sym (append-nil told) ∙ ap (λ more. told ++ more) (sym none)) (asks-later u.nodes v.nodes u.outs told more.grows h.asked));
}

-- one more output, which an item asks for
stands-out : (u : Unfolded) (nodes : List Plain) (place : Place) (told : List Asked) (o : PlainOut) (a : Asked) → StandsAt u place told → IsMore u.names u.nodes nodes
    → NamesFormulas (trees nodes) o → asked_by (trees nodes) o ≡ a
    → StandsAt (record u { nodes = nodes; outs = u.outs ++ o ∷ [] }) (record { values = place.values; signals = place.signals + 0; outputs = place.outputs + 1 }) (told ++ a ∷ [])
stands-out u nodes place told o a h more names is = record {
  values = h.values;
  numbered = omega (arith, h.numbered);
  below = h.below;
  kept = more.kept h.kept;
  counted = omega (arith, h.counted, length-append u.outs (o ∷ []));
  sound = more.sound u.signals h.below h.sound;
  asked = asks-push nodes u.outs told o a (asks-later u.nodes nodes u.outs told more.grows h.asked) names is;
}

-- an output with a formula
pub stands-formula : (u : Unfolded) (nodes : List Plain) (place : Place) (told : List Asked) (engine : Engine) (label : Option (List ℕ)) (e : Shape) (node : ℕ) (name : List ℕ)
    → StandsAt u place told → IsMore u.names u.nodes nodes → name ≡ name_of (length u.outs) label → Has nodes node (formula (formula_of (value_of e (env_now u.names))))
    → StandsAt (record u { nodes = nodes; outs = u.outs ++ out.Formula engine node name ∷ [] }) (place_after (item.formula engine label e) place)
    (told ++ asked_at (item.formula engine label e) place)
stands-formula u nodes place told engine label e node name h more named has =
    let own : Has nodes node (formula (formula_of (value_of e place.values))) = subst (λ env. Has nodes node (formula (formula_of (value_of e env)))) h.values has in
    stands-out u nodes place told (out.Formula engine node name) _ h more (is_formula nodes node _ own)
    (ap (λ (x : List ℕ). record { engine = engine; name = x; output = output.formula (node_formula (trees nodes) node) }) (named ∙ ap (λ k. name_of k label) h.counted)
    ∙ ap (λ p. record { engine = engine; name = name_of place.outputs label; output = output.formula p }) (formula_in_place nodes node _ own))

-- an output with a contract
pub stands-contract : (u : Unfolded) (nodes : List Plain) (place : Place) (told : List Asked) (engine : Engine) (label : Option (List ℕ)) (e f : Shape) (left right : ℕ) (name : List ℕ)
    → StandsAt u place told → IsMore u.names u.nodes nodes → name ≡ name_of (length u.outs) label
    → Has nodes left (formula (formula_of (value_of e (env_now u.names)))) → Has nodes right (formula (formula_of (value_of f (env_now u.names))))
    → StandsAt (record u { nodes = nodes; outs = u.outs ++ out.Contract engine left right name ∷ [] }) (place_after (item.contract engine label e f) place)
    (told ++ asked_at (item.contract engine label e f) place)
stands-contract u nodes place told engine label e f left right name h more named has also =
    let at : ℕ → Formula = λ k. node_formula (trees nodes) k in
    let own : Has nodes left (formula (formula_of (value_of e place.values))) = subst (λ env. Has nodes left (formula (formula_of (value_of e env)))) h.values has in
    let other : Has nodes right (formula (formula_of (value_of f place.values))) = subst (λ env. Has nodes right (formula (formula_of (value_of f env)))) h.values also in
    stands-out u nodes place told (out.Contract engine left right name) _ h more (is_formula nodes left _ own, is_formula nodes right _ other)
    (ap (λ (x : List ℕ). record { engine = engine; name = x; output = output.contract (at left) (at right) }) (named ∙ ap (λ k. name_of k label) h.counted)
    ∙ (ap (λ p. record { engine = engine; name = name_of place.outputs label; output = output.contract p (at right) }) (formula_in_place nodes left _ own)
    ∙ ap (λ p. record { engine = engine; name = name_of place.outputs label; output = output.contract (formula_of (value_of e place.values)) p }) (formula_in_place nodes right _ other)))

-- nothing is unfolded before the first item
pub nothing-yet : (u : Unfolded) → u.names ≡ [] → u.signals ≡ 0 → u.nodes ≡ [] → u.outs ≡ [] → StandsAt u before []
unfolding envs_of
nothing-yet u names signals nodes outs = record {
  values = ap env_now names;
  numbered = signals;
  below = subst (SignalsBelow u.signals) (sym names) (record { each = λ x d at. absurd (cc) });
  kept = subst (HaveNodes u.nodes) (sym names) (record { each = λ x d at. absurd (cc) });
  counted = ap length outs;
  sound = subst (AreSound u.signals) (sym nodes) (sound_nil u.signals);
  asked = subst (λ os. AskFor u.nodes os []) (sym outs) (asks-none u.nodes);
}

-- all items are left then
pub leaves-all : (u : Unfolded) (all : List ItemShape) → StandsAt u before [] → AreLight all before → Leaves u all all
unfolding outputs_of
leaves-all u all stands light = record { place = before; told = []; stands = stands; outputs = refl; signals = omega arith; light = light }

-- one item less is left
pub leaves-less : (u v : Unfolded) (i : ItemShape) (left all : List ItemShape) → (h : Leaves u (i ∷ left) all)
    → StandsAt v (place_after i.body h.place) (h.told ++ asked_at i.body h.place) → Leaves v left all
unfolding asked_from
leaves-less u v i left all h stands = record {
  place = place_after i.body h.place;
  told = h.told ++ asked_at i.body h.place;
  stands = stands;
  outputs = append_assoc h.told (asked_at i.body h.place) (asked_from left (place_after i.body h.place)) ∙ h.outputs;
  signals = omega (arith, h.signals, length-append (body_signals i.body) (signals_of left));
  light = h.light.1;
}

-- the signals of the first of the items that are left are within their limit
pub first-few : (u : Unfolded) (i : ItemShape) (left all : List ItemShape) → Leaves u (i ∷ left) all → first_fault all ≡ None
    → u.signals + length (body_signals i.body) ≤ MAX_SIGNALS
first-few u i left all h faultless =
    omega (arith, h.stands.numbered, h.signals, few_signals all faultless, length-append (body_signals i.body) (signals_of left))

-- the items that are left in a loop over them
pub left-first : (items : List Item) (n : ℕ) (item : Item) → n < length items → item ≡ get_or items n item
    → map item_shape (drop n items) ≡ item_shape item ∷ map item_shape (drop (n + 1) items)
left-first items n item less here = ap (map item_shape) (drop-first items n item less here)

pub left-none : (items : List Item) (n : ℕ) → length items ≤ n → map item_shape (drop n items) ≡ []
left-none items n h = ap (map item_shape) (drop_of_length-le items h)

-- the outputs of all items
pub all-asked : (u : Unfolded) (all : List ItemShape) → Leaves u [] all → map (asked_by (trees u.nodes)) u.outs ≡ outputs_of all
unfolding asked_from
all-asked u all h = h.stands.asked.asked ∙ (sym (append-nil h.told) ∙ h.outputs)

pub all-sound : (u : Unfolded) (all : List ItemShape) → Leaves u [] all → first_fault all ≡ None → length u.nodes < 2 ^ 32 → length u.outs < 2 ^ 32
    → IsSound (record { nodes = u.nodes; outs = u.outs }) (length (signals_of all))
all-sound u all h faultless nodes outs = record {
  few_nodes = nodes;
  few_outs = outs;
  nodes = subst (λ n. AreSound n u.nodes) (h.stands.numbered ∙ omega (arith, h.signals)) h.stands.sound;
  outs = h.stands.asked.formulas;
  tensed = subst (All IsTensed) (sym (all-asked u all h)) (faultless-tensed all faultless);
}
