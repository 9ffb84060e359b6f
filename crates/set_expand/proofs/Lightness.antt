-- What weighs no more than the limit: the values of a specification without a fault, and operands of such values.

use Rattle.std.proofs.Common.{◌≡◌, ℕ, ◌+◌, ◌≤◌, Bool, true, false, Option, Some, None, List, [], ◌∷◌, ◌++◌, get_or, length, refl, sym, ap, subst, ◌∙◌, arith}
use Rattle.std.specs.Prelude.{All, fold, nat_le, sum, sum_by}
use Rattle.std.specs.Option.{option_or, option_map}
use Rattle.std.proofs.lemmas.Bool.{leb-true}
use Rattle.std.proofs.lemmas.List.Sums.{sum_by-cons}
use Rattle.std.proofs.lemmas.Option.{slice_get-get_or}
use Rattle.mltl_base.specs.declared.limits.TheConstants.{MAX_WEIGHT}
use Rattle.mltl_base.specs.declared.operators.CountOp.{CountOp}
use Rattle.mltl_base.specs.declared.operators.LogicOp.{LogicOp}
use Rattle.c2po_ast.specs.ItemShape.{BodyShape, ItemShape, structure, input, define, formula, contract}
use Rattle.mltl_base.specs.Tables.{is_named}
use Rattle.c2po_ast.specs.Faults.{formula_fault}
use Rattle.c2po_types.specs.declared.fault.TypeFault.{TypeFault}
use Rattle.c2po_types.specs.declared.fault.TypeFault.TheVariants.{Tense, Twice, Wide}
use Rattle.c2po_types.specs.Checking.{◌>>=◌, fault_of}
use Rattle.c2po_types.specs.Expressions.{kind_of, of_one}
use Rattle.c2po_types.specs.Kinds.{truth}
use Rattle.c2po_types.specs.Scopes.{outside}
use Rattle.c2po_types.specs.Declares.{after_others, declarations_of, total_weight, values_by}
use Rattle.c2po_types.specs.FirstFault.{earliest, fault_if, fault_unless, label_fault, range_fault, is_mixed, body_faults, item_faults, first_fault}
use Rattle.c2po_types.specs.Outputs.{Place, before, place_after, place_by}
use Rattle.c2po_types.proofs.Found.{earliest-append}
use Rattle.c2po_types.specs.Environment.{value_of}
use Rattle.c2po_types.specs.Faults.{value_fault}
use Rattle.c2po_types.specs.Values.{Value, connected_all, counted, formula_of}
use Rattle.c2po_types.specs.Weights.{counting_weight, weight}
use Rattle.c2po_types.proofs.Loops.{bodies_back, sum_within, weights_back}
use Rattle.set_expand.specs.Light.{AreLight, IsLight, IsLightItem}

-- neither of two faults
neither-fault : (a b : Option TypeFault) → option_or a b ≡ None → (a ≡ None) × (b ≡ None)
neither-fault None b h = (refl, h)
neither-fault (Some fault) b h = absurd (cc)

-- none of several
none-within : (os : List (Option TypeFault)) (o : Option TypeFault) (ps : List (Option TypeFault)) → earliest (os ++ o ∷ ps) ≡ None → o ≡ None
none-within [] None ps h = refl
none-within [] (Some fault) ps h = absurd (cc)
none-within (None ∷ os) o ps h = none-within os o ps h
none-within (Some fault ∷ os) o ps h = absurd (cc)

-- a test without a fault holds
within-limit : (n : ℕ) (fault : TypeFault) → fault_unless (nat_le n MAX_WEIGHT) fault ≡ None → n ≤ MAX_WEIGHT
within-limit n fault h = leb-true n MAX_WEIGHT (holds (nat_le n MAX_WEIGHT) h)
  where
    holds : (b : Bool) → fault_unless b fault ≡ None → b ≡ true
    holds true h = refl
    holds false h = absurd (cc)

-- an item without a fault
item-light : (line : ℕ) (body : BodyShape) (items : List ItemShape) → earliest (body_faults line body items) ≡ None → IsLightItem (values_by items) body
item-light line (structure x fs) items h = tt
item-light line (input xs t) items h = tt
item-light line (define x e) items h =
    let d = declarations_of items in
    let v = value_of e (values_by items) in
    within-limit (weight v) (Wide line)
    (none-within (fault_of (kind_of e (outside d)) ∷ fault_if (is_named x d.names) (Twice line) ∷ []) (fault_unless (nat_le (weight v) MAX_WEIGHT) (Wide line))
    (option_map (range_fault line) (value_fault v) ∷ []) h)
item-light line (formula engine label e) items h =
    let seen = outside (declarations_of items) in
    let v = value_of e (values_by items) in
    let most = total_weight items + sum (weight v ∷ []) in
    let ranges = option_map (range_fault line) (formula_fault (formula_of v)) in
    let tenses = fault_if (is_mixed engine (formula_of v)) (Tense line) in
    let kinds = fault_of (kind_of e seen) ∷ fault_of (kind_of e seen >>= of_one line truth truth) ∷ [] in
    omega (
      arith,
      within-limit most (Wide line)
          (none-within (label_fault line label items ∷ kinds) (fault_unless (nat_le most MAX_WEIGHT) (Wide line)) (ranges ∷ tenses ∷ []) h),
      sum_by-cons (λ (n : ℕ). n) (weight v) [],
    )
item-light line (contract engine label e f) items h =
    let seen = outside (declarations_of items) in
    let v = value_of e (values_by items) in
    let w = value_of f (values_by items) in
    let most = total_weight items + sum (weight v ∷ weight w ∷ []) in
    let range = λ (u : Value). option_map (range_fault line) (formula_fault (formula_of u)) in
    let tense = λ (u : Value). fault_if (is_mixed engine (formula_of u)) (Tense line) in
    let kinds = fault_of (kind_of e seen) ∷ fault_of (kind_of f seen) ∷ fault_of (kind_of e seen >>= of_one line truth truth)
    ∷ fault_of (kind_of f seen >>= of_one line truth truth) ∷ [] in
    let within = within-limit most (Wide line)
    (none-within (label_fault line label items ∷ kinds) (fault_unless (nat_le most MAX_WEIGHT) (Wide line)) (range v ∷ range w ∷ tense v ∷ tense w ∷ []) h) in
    let first = sum_by-cons (λ (n : ℕ). n) (weight v) (weight w ∷ []) in
    let second = sum_by-cons (λ (n : ℕ). n) (weight w) [] in
    (omega (arith, within, first, second), omega (arith, within, first, second))

-- items after others without a fault, where what is known after these and more is known
light-from : (after : List ItemShape → List ItemShape) (items : List ItemShape) (p : Place)
    → ((more : List ItemShape) → place_by (after more) ≡ fold (λ q i. place_after i.body q) p more)
    → earliest (after_others (λ more. item_faults (after more)) items) ≡ None → AreLight items p
light-from after [] p known h = tt
light-from after (i ∷ items) p known h =
    let later = after_others (λ more. item_faults (after (i ∷ more))) items in
    let parts = neither-fault _ _ (sym (earliest-append (item_faults (after []) i) later) ∙ h) in (
      subst (λ (q : Place). IsLightItem q.values i.body) (known []) (item-light i.line i.body (after []) parts.0),
      light-from (λ more. after (i ∷ more)) items (place_after i.body p) (λ more. known (i ∷ more)) parts.1,
    )

-- each item of a specification without a fault is light
pub are-light : (items : List ItemShape) → first_fault items ≡ None → AreLight items before
unfolding first_fault
are-light items h = light-from (λ more. more) items before (λ more. refl) h

-- values that together are light
all-light : (vs : List Value) → sum_by weight vs ≤ MAX_WEIGHT → All IsLight vs
all-light vs few = λ i d inside.
    omega (arith, few, sum_within vs i (get_or vs i d) (slice_get-get_or vs i d inside))

pub light-joined : (op : LogicOp) (vs : List Value) (w : Value) → connected_all op vs ≡ w → IsLight w → All IsLight vs
light-joined op vs w is light = all-light vs (omega (arith, light, ap weight is, weights_back vs))

pub light-counted : (op : CountOp) (m : ℕ) (vs : List Value) (w : Value) → counted op m vs ≡ w → IsLight w → All IsLight vs
light-counted op m vs w is light = all-light vs (omega (arith, light, ap weight is, weights_back vs))

-- and what the gates of a counting quantifier weigh
pub light-gates : (op : CountOp) (m : ℕ) (vs : List Value) (w : Value) → counted op m vs ≡ w → IsLight w → counting_weight (length vs) m ≤ MAX_WEIGHT
light-gates op m [] w is light = omega arith
light-gates op m (v ∷ vs) w is light =
    subst (λ (us : List Value). counting_weight (length us) m ≤ MAX_WEIGHT) (bodies_back (v ∷ vs)) (omega (arith, light, ap weight is))
