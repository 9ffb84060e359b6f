-- The nodes of bodies and of gates.

use Rattle.std.proofs.Common.{◌≡◌, ℕ, ◌+◌, ◌-◌, ◌<◌, ◌≤◌, min, false, Bool, Option, option_map, get_or, Some, None, List, [], ◌∷◌, ◌++◌, map, take, length, slice_get, slice_index_or, refl, sym, subst, ap, ◌∙◌, inl, inr, arith}
use Rattle.std.proofs.lemmas.List.{length_push, map-append, length-map, take_all}
use Rattle.std.proofs.lemmas.Option.{slice_get-map, slice_get-get_or}
use Rattle.std.proofs.lemmas.Bool.{cases_lt}
use Rattle.mltl_base.specs.declared.operators.CountOp.{CountOp}
use Rattle.mltl_base.specs.declared.operators.CountOp.TheVariants.{Exactly, AtLeast, AtMost}
use Rattle.mltl_base.specs.declared.operators.LogicOp.TheVariants.{And, Or}
use Rattle.mltl_base.specs.Formula.{Formula, falsity, negation, conjunction, disjunction}
use Rattle.mltl_base.specs.Tables.{Table}
use Rattle.count_sets.specs.Counting as counting
use Rattle.count_sets.specs.Counting.{Counted, least}
use Rattle.count_sets.specs.declared.gate.Gate.{Gate}
use Rattle.count_sets.specs.Gates.{formula_of_gate, gate_meaning as gate_formula, gate_formulas, last_formula}
use Rattle.count_sets.proofs.Thresholds.{least_above}
use Rattle.count_sets.proofs.Unfolding.{formulas_push}
use Rattle.c2po_ast.specs.declared.nodes.Plain.{Plain}
use Rattle.c2po_ast.specs.declared.nodes.Plain.TheVariants as plain
use Rattle.c2po_ast.specs.Nodes.{Tree, number, formula, node_formula as nodes_formula_at, constant_formula, tree_of, trees, Has, Grows, IsFormula}
use Rattle.c2po_ast.proofs.Pushing.{formula_in_place, is_formula}
use Rattle.c2po_ast.proofs.Places.{at_push}
use Rattle.c2po_types.specs.Values.{Value, formula_of, counted_formula}
use Rattle.c2po_types.proofs.Loops.{take_next}
use Rattle.set_expand.specs.declared.names.Declared.{Declared}
use Rattle.set_expand.specs.Nodes.{AreFormulas, HaveFormulas, IsMore}
use Rattle.set_expand.proofs.Growing.{more_same, more_then}

-- formulas stay formulas
is_formula_by : (o : Option Tree) (old new : List Plain) (n : ℕ) → slice_get (trees old) n ≡ o → Grows old new → IsFormula o →
    IsFormula (slice_get (trees new) n)
is_formula_by None old new n e g h = absurd h
is_formula_by (Some (number a)) old new n e g h = absurd h
is_formula_by (Some (formula p)) old new n e g h =
    subst (λ t. IsFormula t) (sym (g.kept n (formula p) (record { found = e })).found) tt

pub is_formula_grows : (old new : List Plain) (n : ℕ) → Grows old new → IsFormula (slice_get (trees old) n) → IsFormula (slice_get (trees new) n)
is_formula_grows old new n g h = is_formula_by (slice_get (trees old) n) old new n refl g h

pub are_grows : (old new : List Plain) (ns : List ℕ) → Grows old new → AreFormulas old ns → AreFormulas new ns
are_grows old new ns g h = record { each = λ i n e. is_formula_grows old new n g (h.each i n e) }

pub have_grows : (old new : List Plain) (ns : List ℕ) (ps : List Formula) → Grows old new → HaveFormulas old ns ps → HaveFormulas new ns ps
have_grows old new ns ps g h = record { count = h.count; each = λ i n p a b. g.kept n (formula p) (h.each i n p a b) }

-- and one more
pub are_push : (nodes : List Plain) (ns : List ℕ) (n : ℕ) → AreFormulas nodes ns → IsFormula (slice_get (trees nodes) n) → AreFormulas nodes (ns ++ n ∷ [])
are_push nodes ns n h k = record {
  each = λ i m e. elim (at_push ns n i m e) [
    | inl p ↦ h.each i m p.1
    | inr p ↦ subst (λ x. IsFormula (slice_get (trees nodes) x)) p.1 k
  ];
}

pub have_push : (nodes : List Plain) (ns : List ℕ) (ps : List Formula) (n : ℕ) (p : Formula) → HaveFormulas nodes ns ps → Has nodes n (formula p) →
    HaveFormulas nodes (ns ++ n ∷ []) (ps ++ p ∷ [])
have_push nodes ns ps n p h k = record {
  count = omega (arith, length_push ns n, length_push ps p, h.count);
  each = λ i m q a b. elim (at_push ns n i m a) [
    | inl x ↦ elim (at_push ps p i q b) [
      | inl y ↦ h.each i m q x.1 y.1
      | inr y ↦ absurd (omega (arith, h.count))
    ]
    | inr x ↦ elim (at_push ps p i q b) [
      | inl y ↦ absurd (omega (arith, h.count))
      | inr y ↦ subst (λ z. Has nodes z (formula q)) x.1 (subst (λ z. Has nodes n (formula z)) y.1 k)
    ]
  ];
}

pub have_none : (nodes : List Plain) → HaveFormulas nodes [] []
have_none nodes = record { count = refl; each = λ i n p a b. cc }

pub are_none : (nodes : List Plain) → AreFormulas nodes []
are_none nodes = record { each = λ i n e. cc }

pub have_next : (nodes : List Plain) (ns : List ℕ) (vs : List Value) (i n : ℕ) (v : Value) → slice_get vs i ≡ Some v →
    HaveFormulas nodes ns (map formula_of (take i vs)) → Has nodes n (formula (formula_of v)) →
    HaveFormulas nodes (ns ++ n ∷ []) (map formula_of (take (i + 1) vs))
have_next nodes ns vs i n v e h k =
    subst (λ xs. HaveFormulas nodes (ns ++ n ∷ []) xs)
    (sym (ap (map formula_of) (take_next vs i v e) ∙ map-append formula_of (take i vs) (v ∷ [])))
    (have_push nodes ns (map formula_of (take i vs)) n (formula_of v) h k)

-- the nodes of the first bodies of a counting quantifier
pub record CountedSoFar (names : Table Declared) (old now : List Plain) (vs : List Value) (i : ℕ) (places : List ℕ) : Type 0 where
  pub more : IsMore names old now
  pub are : AreFormulas now places
  pub have : HaveFormulas now places (map formula_of (take i vs))

-- and one more
pub counted_more : (names : Table Declared) (old now new : List Plain) (vs : List Value) (i n : ℕ) (places : List ℕ) (v : Value)
    → CountedSoFar names old now vs i places → slice_get vs i ≡ Some v → IsMore names now new → Has new n (formula (formula_of v))
    → CountedSoFar names old new vs (i + 1) (places ++ n ∷ [])
counted_more names old now new vs i n places v c at more has = record {
  more = more_then names old now new c.more more;
  are = are_push new places n (are_grows now new places more.grows c.are) (is_formula new n (formula_of v) has);
  have = have_next new places vs i n v at (have_grows now new places (map formula_of (take i vs)) more.grows c.have) has;
}

-- thresholds above the number of bodies are the same
counting_big : (op : CountOp) (n m : ℕ) → n < m → counting.counting op n m ≡ counting.counting op n (n + 1)
counting_big op n m h = by op
  where
    a : least m n ≡ counting.truth false
    a = least_above m n h

    b : least (m + 1) n ≡ counting.truth false
    b = least_above (m + 1) n (omega arith)

    c : least (n + 1) n ≡ counting.truth false
    c = least_above (n + 1) n (omega arith)

    d : least (n + 1 + 1) n ≡ counting.truth false
    d = least_above (n + 1 + 1) n (omega arith)

    by : (o : CountOp) → counting.counting o n m ≡ counting.counting o n (n + 1)
    by Exactly = ap (λ x. counting.both x (counting.negation (least (m + 1) n))) (a ∙ sym c)
        ∙ ap (λ x. counting.both (least (n + 1) n) (counting.negation x)) (b ∙ sym d)
    by AtLeast = a ∙ sym c
    by AtMost = ap counting.negation (b ∙ sym d)

pub counting_min : (op : CountOp) (n m : ℕ) → counting.counting op n (min m (n + 1)) ≡ counting.counting op n m
counting_min op n m = elim (cases_lt n m) [
  | inl h ↦
      let least_one : min m (n + 1) ≡ n + 1 = omega arith in
      ap (counting.counting op n) least_one ∙ sym (counting_big op n m h)
  | inr h ↦ let least_one : min m (n + 1) ≡ m = omega arith in ap (counting.counting op n) least_one
]

-- the nodes of bodies and of earlier gates
pub body_has : (nodes : List Plain) (ns : List ℕ) (ps : List Formula) (i : ℕ) → HaveFormulas nodes ns ps → i < length ns →
    Has nodes (get_or ns i 0) (formula (slice_index_or ps i falsity))
body_has nodes ns ps i h inside =
    h.each i (get_or ns i 0) (get_or ps i falsity) (slice_get-get_or ns i 0 inside) (slice_get-get_or ps i falsity (omega (arith, h.count)))

pub place_is : (nodes : List Plain) (ns : List ℕ) (i : ℕ) → AreFormulas nodes ns → i < length ns → IsFormula (slice_get (trees nodes) (get_or ns i 0))
place_is nodes ns i h inside = h.each i (get_or ns i 0) (slice_get-get_or ns i 0 inside)

pub earlier_has : (nodes : List Plain) (ns : List ℕ) (ps : List Formula) (cs : List Counted) (i : ℕ) →
    HaveFormulas nodes ns (map (counted_formula ps) cs) → i < length ns → Has nodes (get_or ns i 0) (formula (counted_formula ps (formula_of_gate cs i)))
earlier_has nodes ns ps cs i h inside =
    let within : i < length cs = omega (arith, h.count, length-map cs (counted_formula ps)) in
    h.each i (get_or ns i 0) (counted_formula ps (formula_of_gate cs i)) (slice_get-get_or ns i 0 inside)
    (slice_get-map (counted_formula ps) cs i ∙ ap (option_map (counted_formula ps)) (slice_get-get_or cs i (counting.truth false) within))

pub truth_has : (new : List Plain) (n : ℕ) (ps : List Formula) (v : Bool) → Has new n (formula (constant_formula v)) →
    Has new n (formula (counted_formula ps (counting.truth v)))
unfolding counted_formula
truth_has new n ps v h = h

pub bodies_have : (nodes : List Plain) (ns : List ℕ) (ps : List Formula) (i : ℕ) → HaveFormulas nodes ns ps → i < length ns →
    Has nodes (get_or ns i 0) (formula (counted_formula ps (counting.body i)))
unfolding counted_formula
bodies_have nodes ns ps i h inside = body_has nodes ns ps i h inside

pub both_has : (old new : List Plain) (n x y : ℕ) (ps : List Formula) (c d : Counted) → Has new n (tree_of (trees old) (plain.Logic And x y)) →
    Has old x (formula (counted_formula ps c)) → Has old y (formula (counted_formula ps d)) → Has new n (formula (counted_formula ps (counting.both c d)))
unfolding counted_formula
both_has old new n x y ps c d h a b =
    subst (λ r. Has new n (formula (conjunction (counted_formula ps c) r))) (formula_in_place old y (counted_formula ps d) b)
    (subst (λ r. Has new n (formula (conjunction r (nodes_formula_at (trees old) y)))) (formula_in_place old x (counted_formula ps c) a) h)

pub either_has : (old new : List Plain) (n x y : ℕ) (ps : List Formula) (c d : Counted) → Has new n (tree_of (trees old) (plain.Logic Or x y)) →
    Has old x (formula (counted_formula ps c)) → Has old y (formula (counted_formula ps d)) → Has new n (formula (counted_formula ps (counting.either c d)))
unfolding counted_formula
either_has old new n x y ps c d h a b =
    subst (λ r. Has new n (formula (disjunction (counted_formula ps c) r))) (formula_in_place old y (counted_formula ps d) b)
    (subst (λ r. Has new n (formula (disjunction r (nodes_formula_at (trees old) y)))) (formula_in_place old x (counted_formula ps c) a) h)

pub not_has : (old new : List Plain) (n x : ℕ) (ps : List Formula) (c : Counted) → Has new n (tree_of (trees old) (plain.Not x)) →
    Has old x (formula (counted_formula ps c)) → Has new n (formula (counted_formula ps (counting.negation c)))
unfolding counted_formula
not_has old new n x ps c h a =
    subst (λ r. Has new n (formula (negation r))) (formula_in_place old x (counted_formula ps c) a) h

-- the nodes of the gates so far
pub record SplicedSoFar (names : Table Declared) (old now : List Plain) (gates : List Gate) (bodies done : List ℕ) (i : ℕ) : Type 0 where
  pub more : IsMore names old now
  pub count : length done ≡ i
  pub bodies_are : AreFormulas now bodies
  pub done_are : AreFormulas now done
  pub have : (ps : List Formula) → HaveFormulas old bodies ps → HaveFormulas now done (map (counted_formula ps) (gate_formulas (take i gates)))

pub spliced_start : (names : Table Declared) (nodes : List Plain) (gates : List Gate) (bodies : List ℕ) → AreFormulas nodes bodies
    → SplicedSoFar names nodes nodes gates bodies [] 0
unfolding gate_formulas
spliced_start names nodes gates bodies h = record {
  more = more_same names nodes;
  count = refl;
  bodies_are = h;
  done_are = are_none nodes;
  have = λ ps k. have_none nodes;
}

pub spliced_more : (names : Table Declared) (old now new : List Plain) (gates : List Gate) (bodies done : List ℕ) (i n : ℕ) (gate : Gate) →
    SplicedSoFar names old now gates bodies done i → slice_get gates i ≡ Some gate → IsMore names now new → IsFormula (slice_get (trees new) n) →
    ((ps : List Formula) (cs : List Counted) → HaveFormulas now bodies ps → HaveFormulas now done (map (counted_formula ps) cs) →
    Has new n (formula (counted_formula ps (gate_formula cs gate)))) →
    SplicedSoFar names old new gates bodies (done ++ n ∷ []) (i + 1)
spliced_more names old now new gates bodies done i n gate s at next is has = record {
  more = more_then names old now new s.more next;
  count = omega (arith, length_push done n, s.count);
  bodies_are = are_grows now new bodies next.grows s.bodies_are;
  done_are = are_push new done n (are_grows now new done next.grows s.done_are) is;
  have = λ ps h.
      let cs = gate_formulas (take i gates) in
      let more : gate_formulas (take (i + 1) gates) ≡ cs ++ gate_formula cs gate ∷ [] = ap gate_formulas (take_next gates i gate at) ∙ formulas_push (take i gates) gate in
      subst (λ xs. HaveFormulas new (done ++ n ∷ []) xs)
      (sym (ap (map (counted_formula ps)) more ∙ map-append (counted_formula ps) cs (gate_formula cs gate ∷ [])))
      (have_push new done (map (counted_formula ps) cs) n (counted_formula ps (gate_formula cs gate))
      (have_grows now new done (map (counted_formula ps) cs) next.grows (s.have ps h))
      (has ps cs (have_grows old now bodies ps s.more.grows h) (s.have ps h)));
}

-- the last gate's node
pub spliced_last : (names : Table Declared) (old now : List Plain) (gates : List Gate) (bodies done : List ℕ) (i : ℕ) (ps : List Formula) (c : Counted) →
    SplicedSoFar names old now gates bodies done i → i ≡ length gates → HaveFormulas old bodies ps → last_formula gates ≡ Some c →
    1 ≤ length gates → Has now (get_or done (length gates - 1) 0) (formula (counted_formula ps c))
spliced_last names old now gates bodies done i ps c s all h last some =
    let whole : take i gates ≡ gates = take_all i gates (omega arith) in
    let have : HaveFormulas now done (map (counted_formula ps) (gate_formulas gates)) =
    subst (λ gs. HaveFormulas now done (map (counted_formula ps) (gate_formulas gs))) whole (s.have ps h) in
    have.each (length gates - 1) (get_or done (length gates - 1) 0) (counted_formula ps c)
    (slice_get-get_or done (length gates - 1) 0 (omega (arith, s.count)))
    (slice_get-map (counted_formula ps) (gate_formulas gates) (length gates - 1) ∙ ap (option_map (counted_formula ps)) last)
