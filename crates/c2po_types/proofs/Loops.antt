-- What the loops of unfolding keep.

use Rattle.std.proofs.Common.{◌≡◌, ℕ, false, ◌+◌, ◌-◌, ◌<◌, ◌≤◌, Option, Some, None, List, [], ◌∷◌, ◌++◌, map, take, length, get_or, slice_get, sum_by, option_map, refl, sym, subst, ap, ◌∙◌, arith}
use Rattle.std.proofs.lemmas.List.{take_more, take-map, map-append, length-map, length-take-le}
use Rattle.std.proofs.lemmas.List.Sums.{fold_push, sum_by_push, sum_by-cons, sum_by_more_le}
use Rattle.std.proofs.lemmas.Option.{slice_get_within, get_or_from_slice_get, slice_get-get_or, slice_get-map}
use Rattle.mltl_base.specs.declared.operators.LogicOp.{LogicOp}
use Rattle.mltl_base.specs.declared.operators.CountOp.{CountOp}
use Rattle.mltl_base.specs.Formula.{Formula, falsity, disjunction}
use Rattle.count_sets.specs.Counting.{counting}
use Rattle.c2po_types.specs.declared.fact.Fact.{Fact}
use Rattle.c2po_types.specs.Facts.{Tells}
use Rattle.c2po_ast.specs.Nodes.{Tree, formula, formula_in, connected}
use Rattle.c2po_ast.specs.declared.tree.Expr.{Expr}
use Rattle.c2po_ast.specs.Shape.{shape, shapes}
use Rattle.c2po_types.specs.declared.values.Stored.{Stored}
use Rattle.c2po_types.specs.declared.variables.Scope.{Scope}
use Rattle.c2po_types.specs.declared.variables.Head.{Head}
use Rattle.c2po_types.specs.declared.operators.Bodies.{Bodies}
use Rattle.c2po_types.specs.declared.operators.BinaryOp.TheVariants as binary
use Rattle.c2po_types.specs.declared.unfolding.Unfolding.{Unfolding}
use Rattle.c2po_types.specs.Values.{Value, Values, none, more, list_of, values_from, formula_of, formulas_in, members, joined_formula, connected_all, counted, counted_formula, tree_in, truth_value}
use Rattle.c2po_types.specs.Weights.{weight, parts_weight, counting_weight}
use Rattle.c2po_types.specs.Environment.{Env, bind, value_of, values_of}
use Rattle.c2po_types.specs.Holding.{Holds, HoldAll, Fits, IsLater}
use Rattle.c2po_types.specs.Heads.{Heads}
use Rattle.c2po_types.specs.Operators.{binary_value, bodies_over}
use Rattle.c2po_types.specs.declared.summary.Summary.{Summary}
use Rattle.c2po_types.specs.Summaries.{IsSummary, gathered}
use Rattle.c2po_types.specs.declared.summing.BodyFact.{BodyFact}
use Rattle.c2po_types.specs.Bodies.{IsOfBody}
use Rattle.c2po_types.proofs.Later.{later_same, later_then, hold_all_later, fits_later}
use Rattle.c2po_types.proofs.Members.{holds_weight, list_values, value_at}

-- the first elements and one more
pub take_next : {A : Type 0} (xs : List A) (i : ℕ) (x : A) → slice_get xs i ≡ Some x → take (i + 1) xs ≡ take i xs ++ x ∷ []
take_next xs i x h =
    take_more xs i x (slice_get_within xs i x h)
    ∙ ap (λ y. take i xs ++ y ∷ []) (get_or_from_slice_get xs i x x h)

-- parts weigh what they weigh together
pub parts_sum : (vs : Values) → parts_weight vs ≡ sum_by weight (list_of vs)
parts_sum none = refl
parts_sum (more v vs) = ap (λ n. weight v + n) (parts_sum vs) ∙ sym (sum_by-cons weight v (list_of vs))

pub weight_push : (es : List Expr) (e : Expr) (env : Env) →
    parts_weight (values_of (shapes (es ++ e ∷ [])) env) ≡ parts_weight (values_of (shapes es) env) + weight (value_of (shape e) env)
weight_push [] e env = omega arith
weight_push (d ∷ es) e env = omega (arith, weight_push es e env)

-- the first of a list and one more weigh no more than all
pub sum_within : (vs : List Value) (i : ℕ) (v : Value) → slice_get vs i ≡ Some v → sum_by weight (take i vs) + weight v ≤ sum_by weight vs
sum_within vs i v h =
    subst (λ x. sum_by weight (take i vs) + weight x ≤ sum_by weight vs) (get_or_from_slice_get vs i v v h)
    (sum_by_more_le weight vs i v (slice_get_within vs i v h))

pub weight_within : (es : List Expr) (i : ℕ) (e : Expr) (env : Env) → slice_get es i ≡ Some e →
    parts_weight (values_of (shapes (take i es)) env) + weight (value_of (shape e) env) ≤ parts_weight (values_of (shapes es) env)
weight_within es i e env h =
    let f = λ (x : Expr). value_of (shape x) env in
    let same : list_of (values_of (shapes (take i es)) env) ≡ take i (list_of (values_of (shapes es) env)) =
    list_values (take i es) env ∙ (sym (take-map f i es) ∙ ap (take i) (sym (list_values es env))) in
    omega (
      arith,
      parts_sum (values_of (shapes (take i es)) env),
      parts_sum (values_of (shapes es) env),
      ap (sum_by weight) same,
      sum_within (list_of (values_of (shapes es) env)) i (value_of (shape e) env) (value_at es env i e h),
    )

hold_push : (es : List Expr) (u : Unfolding) (ss : List Stored) (s : Stored) (e : Expr) (env : Env) →
    HoldAll u ss (values_of (shapes es) env) → Holds u s (value_of (shape e) env) → HoldAll u (ss ++ s ∷ []) (values_of (shapes (es ++ e ∷ [])) env)
hold_push [] u ss s e env h k = (s, [], ap (λ xs. xs ++ s ∷ []) h, k, refl)
hold_push (d ∷ es) u ss s e env h k =
    (h.0, h.1 ++ s ∷ [], ap (λ xs. xs ++ s ∷ []) h.2, h.3, hold_push es u h.1 s e env h.4 k)

-- the first parts of a struct's value or of a set
pub record BuiltSoFar (old now : Unfolding) (scope : Scope) (es : List Expr) (done : List Stored) (room left : ℕ) : Type 0 where
  pub later : IsLater old now
  pub inside : left < room
  pub holds : (env : Env) → Fits old scope env → HoldAll now done (values_of (shapes es) env)
  pub weight : (env : Env) → Fits old scope env → room ≡ left + (1 + parts_weight (values_of (shapes es) env))

pub built_more : (old now new : Unfolding) (scope : Scope) (es : List Expr) (i : ℕ) (e : Expr) (done : List Stored) (s : Stored) (room left : ℕ) →
    BuiltSoFar old now scope (take i es) done room left → slice_get es i ≡ Some e → IsLater now new →
    ((env : Env) → Fits now scope env → Holds new s (value_of (shape e) env)) → s.weight ≤ left →
    BuiltSoFar old new scope (take (i + 1) es) (done ++ s ∷ []) room (left - s.weight)
built_more old now new scope es i e done s room left b at next holds light =
    subst (λ xs. BuiltSoFar old new scope xs (done ++ s ∷ []) room (left - s.weight)) (sym (take_next es i e at)) (record {
      later = later_then old now new b.later next;
      inside = omega (arith, b.inside);
      holds = λ env h. hold_push (take i es) new done s e env (hold_all_later _ now new done next (b.holds env h)) (holds env (fits_later scope old now env b.later h));
      weight = λ env h.
          omega (arith, b.weight env h, weight_push (take i es) e env, holds_weight _ new s (holds env (fits_later scope old now env b.later h)));
    })

-- bodies in order, their formulas and their weights
pub bodies_back : (vs : List Value) → list_of (values_from vs) ≡ vs
bodies_back [] = refl
bodies_back (v ∷ vs) = ap (λ xs. v ∷ xs) (bodies_back vs)

pub formulas_back : (vs : List Value) → formulas_in (values_from vs) ≡ map formula_of vs
formulas_back [] = refl
formulas_back (v ∷ vs) = ap (λ ps. formula_of v ∷ ps) (formulas_back vs)

pub weights_back : (vs : List Value) → parts_weight (values_from vs) ≡ sum_by weight vs
weights_back vs = parts_sum (values_from vs) ∙ ap (sum_by weight) (bodies_back vs)

-- the first of a list and the next one
pub sum_next : (vs : List Value) (i : ℕ) (v : Value) → slice_get vs i ≡ Some v → sum_by weight (take (i + 1) vs) ≡ sum_by weight (take i vs) + weight v
sum_next vs i v h = ap (sum_by weight) (take_next vs i v h) ∙ sum_by_push weight (take i vs) v

-- joined bodies
pub joined_formulas : (op : LogicOp) (vs : List Value) → formula_of (connected_all op vs) ≡ joined_formula op (map formula_of vs)
joined_formulas op vs = ap (joined_formula op) (formulas_back vs)

joined_push : (op : LogicOp) (ps : List Formula) (p : Formula) → 0 < length ps → joined_formula op (ps ++ p ∷ []) ≡ connected op (joined_formula op ps) p
joined_push op [] p h = absurd (omega arith)
joined_push op (q ∷ ps) p h = fold_push (connected op) q ps p

pub joined_weight : (op : LogicOp) (vs : List Value) → weight (connected_all op vs) ≡ sum_by weight vs + (length vs - 1)
joined_weight op vs = omega (arith, weights_back vs, ap length (bodies_back vs))

pub joined_within : (op : LogicOp) (vs : List Value) (i : ℕ) (v : Value) → slice_get vs i ≡ Some v → 0 < i →
    weight (connected_all op (take i vs)) + 1 + weight v ≤ weight (connected_all op vs)
joined_within op vs i v h some =
    omega (arith, joined_weight op (take i vs), joined_weight op vs, sum_within vs i v h, slice_get_within vs i v h, length-take-le i vs (omega (arith, slice_get_within vs i v h)))

pub joined_first : (op : LogicOp) (vs : List Value) (v : Value) → slice_get vs 0 ≡ Some v → weight v ≤ weight (connected_all op vs)
joined_first op vs v h = omega (arith, joined_weight op vs, sum_within vs 0 v h)

-- the values of a body, one for each member of a set that a name stands for
abbrev pub values_over : Expr → List ℕ → Env → Value → List Value
values_over body name env s = map (λ v. value_of (shape body) (bind name v env)) (members s)

-- the weight of the first expressions
pub record WeighedSoFar (u : Unfolding) (scope : Scope) (es : List Expr) (room left : ℕ) : Type 0 where
  pub inside : left < room
  pub weight : (env : Env) → Fits u scope env → room ≡ left + (1 + parts_weight (values_of (shapes es) env))

pub weighed_more : (u : Unfolding) (scope : Scope) (es : List Expr) (i : ℕ) (e : Expr) (s : Summary) (room left : ℕ) →
    WeighedSoFar u scope (take i es) room left → slice_get es i ≡ Some e →
    ((env : Env) → Fits u scope env → IsSummary s (value_of (shape e) env)) → s.weight ≤ left →
    WeighedSoFar u scope (take (i + 1) es) room (left - s.weight)
weighed_more u scope es i e s room left b at holds light =
    subst (λ xs. WeighedSoFar u scope xs room (left - s.weight)) (sym (take_next es i e at)) (record {
      inside = omega (arith, b.inside);
      weight = λ env h. omega (arith, b.weight env h, weight_push (take i es) e env, (holds env h).weight);
    })

-- the bodies of a quantifier that are joined so far
pub record JoinedSoFar (u : Unfolding) (scope : Scope) (set : Head) (q : Bodies) (op : LogicOp) (room i : ℕ) (all : Summary) (last : BodyFact) : Type 0 where
  pub light : all.weight ≤ room
  pub known : IsOfBody u scope q last
  pub holds : (env : Env) (s : Value) → Fits u scope env → Heads u set s → IsSummary all (connected_all op (take i (bodies_over q env s)))

-- what is known of the bodies of a quantifier so far, together
pub record GatheredSoFar (u : Unfolding) (scope : Scope) (set : Head) (q : Bodies) (room i : ℕ) (fact : Fact) (left : ℕ) (last : BodyFact) : Type 0 where
  pub inside : left ≤ room
  pub known : IsOfBody u scope q last
  pub tells : (env : Env) (s : Value) → Fits u scope env → Heads u set s →
      Tells fact (Some (formula (gathered (map formula_of (take i (bodies_over q env s))))))
  pub weight : (env : Env) (s : Value) → Fits u scope env → Heads u set s →
      room ≡ left + sum_by weight (take i (bodies_over q env s))

-- a member of a set, and the body with it
pub member_at : (ms : List Value) (i n : ℕ) → n ≡ length ms → i < n → slice_get ms i ≡ Some (get_or ms i (truth_value false))
member_at ms i n count inside = slice_get-get_or ms i (truth_value false) (omega arith)

pub body_at : (q : Bodies) (env : Env) (s v : Value) (i : ℕ) → slice_get (members s) i ≡ Some v →
    slice_get (bodies_over q env s) i ≡ Some (value_of (shape q.body.now) (bind q.name.now v env))
body_at q env s v i h =
    slice_get-map (λ x. value_of (shape q.body.now) (bind q.name.now x env)) (members s) i
    ∙ ap (option_map (λ x. value_of (shape q.body.now) (bind q.name.now x env))) h

pub none_left : {A : Type 0} (xs : List A) (n : ℕ) → n ≡ length xs → n ≡ 0 → xs ≡ []
none_left [] n e z = refl
none_left (x ∷ xs) n e z = absurd (omega arith)

pub joined_one : (op : LogicOp) (vs : List Value) (v : Value) → slice_get vs 0 ≡ Some v → connected_all op (v ∷ []) ≡ connected_all op (take 1 vs)
joined_one op vs v h = sym (ap (connected_all op) (take_next vs 0 v h))

pub joined_next : (op : LogicOp) (vs : List Value) (i : ℕ) (v : Value) → slice_get vs i ≡ Some v → 0 < i →
    connected op (formula_of (connected_all op (take i vs))) (formula_of v) ≡ formula_of (connected_all op (take (i + 1) vs))
joined_next op vs i v h some =
    let inside : i < length vs = slice_get_within vs i v h in
    let count : length (take i vs) ≡ i = length-take-le i vs (omega arith) in
    ap (λ p. connected op p (formula_of v)) (joined_formulas op (take i vs))
    ∙ sym (joined_formulas op (take (i + 1) vs)
    ∙ (ap (λ xs. joined_formula op (map formula_of xs)) (take_next vs i v h)
    ∙ (ap (joined_formula op) (map-append formula_of (take i vs) (v ∷ []))
    ∙ joined_push op (map formula_of (take i vs)) (formula_of v) (omega (arith, length-map (take i vs) formula_of)))))

-- what is known of joined bodies and of one more under the operator is known of them all
pub joined_known : (s : Summary) (op : LogicOp) (vs : List Value) (i : ℕ) (v : Value) → slice_get vs i ≡ Some v → 0 < i →
    IsSummary s (binary_value (binary.Logic op) (connected_all op (take i vs)) v) → IsSummary s (connected_all op (take (i + 1) vs))
joined_known s op vs i v h some known =
    let inside : i < length vs = slice_get_within vs i v h in
    record {
      weight = omega (
        arith,
        known.weight,
        joined_weight op (take i vs),
        joined_weight op (take (i + 1) vs),
        sum_next vs i v h,
        length-take-le i vs (omega arith),
        length-take-le (i + 1) vs (omega arith),
      );
      fact = subst (λ p. Tells s.fact (Some (formula p))) (joined_next op vs i v h some) known.fact;
    }

pub bodies_count : (q : Bodies) (env : Env) (s : Value) → length (bodies_over q env s) ≡ length (members s)
bodies_count q env s = length-map (members s) (λ v. value_of (shape q.body.now) (bind q.name.now v env))

pub gathered_push : (ps : List Formula) (p : Formula) → gathered (ps ++ p ∷ []) ≡ disjunction p (gathered ps)
gathered_push ps p = fold_push (λ found p. disjunction p found) falsity ps p

gathered_next : (vs : List Value) (i : ℕ) (v : Value) → slice_get vs i ≡ Some v →
    gathered (map formula_of (take (i + 1) vs)) ≡ disjunction (formula_of v) (gathered (map formula_of (take i vs)))
gathered_next vs i v h =
    ap (λ xs. gathered (map formula_of xs)) (take_next vs i v h)
    ∙ (ap gathered (map-append formula_of (take i vs) (v ∷ []))
    ∙ gathered_push (map formula_of (take i vs)) (formula_of v))

-- one more body, before the others
pub gathered_more : (u : Unfolding) (scope : Scope) (set : Head) (q : Bodies) (room i : ℕ) (fact new : Fact) (left : ℕ) (last next : BodyFact) →
    GatheredSoFar u scope set q room i fact left last → next.summary.weight ≤ left → ((s : Value) → Heads u set s → i < length (members s)) →
    ((env : Env) (s v : Value) → Fits u scope env → Heads u set s → slice_get (members s) i ≡ Some v →
    IsSummary next.summary (value_of (shape q.body.now) (bind q.name.now v env))) →
    IsOfBody u scope q next →
    ((o p : Option Tree) → Tells next.summary.fact o → Tells fact p → Tells new (Some (formula (disjunction (formula_in o) (formula_in p))))) →
    GatheredSoFar u scope set q room (i + 1) new (left - next.summary.weight) next
gathered_more u scope set q room i fact new left last next g light inside holds known joins = record {
  inside = omega (arith, g.inside);
  known = known;
  tells = λ env s h heads.
      let v = get_or (members s) i (truth_value false) in
      let at : slice_get (members s) i ≡ Some v = member_at (members s) i (length (members s)) refl (inside s heads) in
      let w = value_of (shape q.body.now) (bind q.name.now v env) in
      subst (λ p. Tells new (Some (formula p))) (sym (gathered_next (bodies_over q env s) i w (body_at q env s v i at)))
      (joins (tree_in w) (Some (formula (gathered (map formula_of (take i (bodies_over q env s)))))) (holds env s v h heads at).fact (g.tells env s h heads));
  weight = λ env s h heads.
      let v = get_or (members s) i (truth_value false) in
      let at : slice_get (members s) i ≡ Some v = member_at (members s) i (length (members s)) refl (inside s heads) in
      omega (
        arith,
        g.weight env s h heads,
        sum_next (bodies_over q env s) i (value_of (shape q.body.now) (bind q.name.now v env)) (body_at q env s v i at),
        (holds env s v h heads at).weight,
      );
}

-- counting quantifiers over some bodies
pub counted_means : (op : CountOp) (m : ℕ) (vs : List Value) → 0 < length vs →
    formula_of (counted op m vs) ≡ counted_formula (map formula_of vs) (counting op (length vs) m)
counted_means op m [] h = absurd (omega arith)
counted_means op m (v ∷ vs) h =
    ap (λ ps. counted_formula ps (counting op (length ps) m)) (formulas_back (v ∷ vs))
    ∙ ap (λ n. counted_formula (map formula_of (v ∷ vs)) (counting op n m)) (length-map (v ∷ vs) formula_of)

pub counted_weight : (op : CountOp) (m : ℕ) (vs : List Value) → 0 < length vs → weight (counted op m vs) ≡ sum_by weight vs + counting_weight (length vs) m
counted_weight op m [] h = absurd (omega arith)
counted_weight op m (v ∷ vs) h =
    ap (λ n. n + counting_weight (length (list_of (values_from (v ∷ vs)))) m) (weights_back (v ∷ vs))
    ∙ ap (λ xs. sum_by weight (v ∷ vs) + counting_weight (length xs) m) (bodies_back (v ∷ vs))

pub counted_tells : (op : CountOp) (n m : ℕ) (vs : List Value) (f : Fact) → 0 < length vs → n ≡ length vs →
    Tells f (Some (formula (counted_formula (map formula_of vs) (counting op n m)))) → Tells f (tree_in (counted op m vs))
counted_tells op n m vs f some count h =
    subst (λ p. Tells f (Some (formula p))) (ap (λ k. counted_formula (map formula_of vs) (counting op k m)) count ∙ sym (counted_means op m vs some)) h

-- nothing is known of a body where its variable is no stored value
pub not_known : (u : Unfolding) (scope : Scope) (q : Bodies) (known : BodyFact) → known.member ≡ None → IsOfBody u scope q known
not_known u scope q known nothing = record { holds = λ env s v some. cc }
