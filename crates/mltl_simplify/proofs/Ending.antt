-- The simplified outputs of a specification.

use Rattle.std.proofs.Common.{◌≡◌, ℕ, ◌<◌, ◌^◌, None, List, [], ◌∷◌, map, length, All, refl, sym, subst, ap, ap₂, ◌∙◌, arith}
use Rattle.std.proofs.lemmas.List.{length-map}
use Rattle.std.proofs.lemmas.List.Elements.{All-cons, All-head, All-map, All-nil, All-tail, All-weaker}
use Rattle.mltl_base.specs.declared.interval.Engine.{Engine}
use Rattle.mltl_base.specs.declared.interval.Engine.TheVariants as engine
use Rattle.mltl_base.specs.Formula as plain
use Rattle.mltl_base.specs.Formula.{truth, falsity, atom, negation, conjunction, disjunction, implication, equivalence, finally, globally, until, release, once, historically, since}
use Rattle.mltl_base.specs.Reports.{Output, formula, contract}
use Rattle.mltl_base.specs.Subformulas.{Asked, IsTensed, IsOfTense, formulas_of}
use Rattle.c2po_ast.specs.declared.nodes.Plain.{Plain}
use Rattle.c2po_ast.specs.declared.nodes.PlainOut.{PlainOut}
use Rattle.c2po_ast.specs.declared.nodes.PlainOut.TheVariants as out
use Rattle.c2po_ast.specs.declared.nodes.Expanded.{Expanded}
use Rattle.c2po_ast.specs.Faults.{HasRanges, formula_fault}
use Rattle.c2po_ast.specs.Nodes.{node_formula, trees, AreSound}
use Rattle.c2po_ast.specs.Outputs.{IsSound, NamesFormulas, asked, asked_by}
use Rattle.c2po_ast.proofs.NoFaults.{neither}
use Rattle.mltl_simplify.specs.declared.proxies.Proxy.{Proxy}
use Rattle.mltl_simplify.specs.Nodes.{AreSimplified, ReadsNodes, out_over}
use Rattle.mltl_simplify.specs.Outputs.{simple_asked, simple_output, simple_outputs}
use Rattle.mltl_simplify.specs.Simplify.{simp, as_truth}
use Rattle.mltl_simplify.proofs.Cases.{finally_cases, globally_cases, historically_cases, once_cases}
use Rattle.mltl_simplify.proofs.Forms.{IsPlain, and_has, atom_has, equals_has, implies_has, not_has, or_has, simp_future, simp_past, unless_false_has, unless_truth_has}
use Rattle.mltl_simplify.proofs.Placing.{place_of_formula, formula_names}

-- ---- faults

-- no whole number of the formula has a fault
abbrev pub NoFault : plain.Formula → Type 0
NoFault p = formula_fault p ≡ None

faultless : IsPlain NoFault
unfolding formula_fault
faultless = record {
  true_has = refl;
  false_has = refl;
  negation_has = λ x h. h;
  operand_has = λ x h. h;
  conjunction_has = λ x y h k. rw h k;
  disjunction_has = λ x y h k. rw h k;
  implication_has = λ x y h k. rw h k;
  equivalence_has = λ x y h k. rw h k;
}

pub simp_faultless : (p : plain.Formula) → NoFault p → NoFault (simp p)
unfolding simp formula_fault
simp_faultless (atom a) h = atom_has {P = NoFault} faultless a h
simp_faultless (negation p) h = not_has {P = NoFault} faultless (simp p) (simp_faultless p h)
simp_faultless (conjunction p q) h = let n = neither (formula_fault p) (formula_fault q) h in and_has {P = NoFault} faultless (simp p) (simp q) (simp_faultless p n.0) (simp_faultless q n.1)
simp_faultless (disjunction p q) h = let n = neither (formula_fault p) (formula_fault q) h in or_has {P = NoFault} faultless (simp p) (simp q) (simp_faultless p n.0) (simp_faultless q n.1)
simp_faultless (implication p q) h = let n = neither (formula_fault p) (formula_fault q) h in implies_has {P = NoFault} faultless (simp p) (simp q) (simp_faultless p n.0) (simp_faultless q n.1)
simp_faultless (equivalence p q) h = let n = neither (formula_fault p) (formula_fault q) h in equals_has {P = NoFault} faultless (simp p) (simp q) (simp_faultless p n.0) (simp_faultless q n.1)
simp_faultless (finally i p) h = finally_cases (λ x y. NoFault x → NoFault y) i (λ k. refl) (λ k. refl) (λ j z l k. k) (λ x k. k) (simp p) (simp_faultless p h)
simp_faultless (globally i p) h = globally_cases (λ x y. NoFault x → NoFault y) i (λ k. refl) (λ k. refl) (λ j z l k. k) (λ x k. k) (simp p) (simp_faultless p h)
simp_faultless (until i p q) h =
    let n = neither (formula_fault p) (formula_fault q) h in
    unless_truth_has {P = NoFault} faultless (as_truth (simp q)) (until i (simp p) (simp q)) (faultless.conjunction_has (simp p) (simp q) (simp_faultless p n.0) (simp_faultless q n.1))
simp_faultless (release i p q) h =
    let n = neither (formula_fault p) (formula_fault q) h in
    unless_truth_has {P = NoFault} faultless (as_truth (simp q)) (release i (simp p) (simp q)) (faultless.conjunction_has (simp p) (simp q) (simp_faultless p n.0) (simp_faultless q n.1))
simp_faultless (once i p) h = once_cases (λ x y. NoFault x → NoFault y) i (λ k. refl) (λ j z l k. k) (λ x k. k) (simp p) (simp_faultless p h)
simp_faultless (historically i p) h = historically_cases (λ x y. NoFault x → NoFault y) i (λ k. refl) (λ j z l k. k) (λ x k. k) (simp p) (simp_faultless p h)
simp_faultless (since i p q) h =
    let n = neither (formula_fault p) (formula_fault q) h in
    unless_false_has {P = NoFault} faultless (as_truth (simp q)) (since i (simp p) (simp q)) (faultless.conjunction_has (simp p) (simp q) (simp_faultless p n.0) (simp_faultless q n.1))
simp_faultless _ h = refl

-- ---- each output

-- what simplification keeps of a formula, it keeps of an output
pub kept_by : (P : plain.Formula → Type 0) → ((p : plain.Formula) → P p → P (simp p)) → (o : Output) → All P (formulas_of o) → All P (formulas_of (simple_output o))
kept_by P keep (formula p) h = All-cons P (simp p) [] (keep p (All-head P p [] h)) (All-nil P)
kept_by P keep (contract p q) h =
    let rest = All-tail P p (q ∷ []) h in
    All-cons P (simp p) (simp q ∷ []) (keep p (All-head P p (q ∷ []) h)) (All-cons P (simp q) [] (keep q (All-head P q [] rest)) (All-nil P))

tense_kept : (e : Engine) (p : plain.Formula) → IsOfTense e p → IsOfTense e (simp p)
tense_kept engine.Ft p h = simp_future p h
tense_kept engine.Pt p h = simp_past p h

pub simple_tensed : (outs : List Asked) → All IsTensed outs → All IsTensed (simple_outputs outs)
simple_tensed outs h = All-map IsTensed simple_asked outs (All-weaker IsTensed (λ a. IsTensed (simple_asked a)) (λ a k. kept_by (IsOfTense a.engine) (tense_kept a.engine) a.output k) outs h)

pub simple_ranged : (outs : List Asked) → All HasRanges outs → All HasRanges (simple_outputs outs)
simple_ranged outs h = All-map HasRanges simple_asked outs (All-weaker HasRanges (λ a. HasRanges (simple_asked a)) (λ a k. kept_by NoFault simp_faultless a.output k) outs h)

-- ---- outputs over the places of nodes

module _ (older simple : List Plain) (proxies : List Proxy) (done : AreSimplified older (length older) simple proxies) where
  out_asked : (o : PlainOut) → NamesFormulas (trees older) o → HasRanges (asked_by (trees older) o) → asked_by (trees simple) (out_over proxies o) ≡ simple_asked (asked_by (trees older) o)
  out_asked (out.Formula e n name) h k =
      ap (λ p. record { engine = e; name = name; output = formula p }) (place_of_formula older simple proxies done n h (All-head NoFault (node_formula (trees older) n) [] k))
  out_asked (out.Contract e n m name) h k =
      let rest = All-tail NoFault (node_formula (trees older) n) (node_formula (trees older) m ∷ []) k in
      ap₂ (λ p q. record { engine = e; name = name; output = contract p q })
      (place_of_formula older simple proxies done n h.0 (All-head NoFault (node_formula (trees older) n) (node_formula (trees older) m ∷ []) k))
      (place_of_formula older simple proxies done m h.1 (All-head NoFault (node_formula (trees older) m) [] rest))

  out_names : (o : PlainOut) → NamesFormulas (trees older) o → NamesFormulas (trees simple) (out_over proxies o)
  out_names (out.Formula e n name) h = (formula_names older simple proxies done n h).0
  out_names (out.Contract e n m name) h = ((formula_names older simple proxies done n h.0).0, (formula_names older simple proxies done m h.1).0)

  out_below : (o : PlainOut) → NamesFormulas (trees older) o → ReadsNodes (length proxies) o
  out_below (out.Formula e n name) h = (formula_names older simple proxies done n h).1
  out_below (out.Contract e n m name) h = ((formula_names older simple proxies done n h.0).1, (formula_names older simple proxies done m h.1).1)

  pub outs_below : (outs : List PlainOut) → All (NamesFormulas (trees older)) outs → All (ReadsNodes (length proxies)) outs
  outs_below outs h = All-weaker (NamesFormulas (trees older)) (ReadsNodes (length proxies)) out_below outs h

  outs_asked : (outs : List PlainOut) → All (NamesFormulas (trees older)) outs → All HasRanges (map (asked_by (trees older)) outs) →
      map (asked_by (trees simple)) (map (out_over proxies) outs) ≡ simple_outputs (map (asked_by (trees older)) outs)
  outs_asked [] h k = refl
  outs_asked (o ∷ outs) h k =
      let os = map (asked_by (trees older)) outs in
      ap₂ (λ x xs. x ∷ xs) (out_asked o (All-head (NamesFormulas (trees older)) o outs h) (All-head HasRanges (asked_by (trees older) o) os k)) (outs_asked outs (All-tail (NamesFormulas (trees older)) o outs h) (All-tail HasRanges (asked_by (trees older) o) os k))

  outs_name : (outs : List PlainOut) → All (NamesFormulas (trees older)) outs → All (NamesFormulas (trees simple)) (map (out_over proxies) outs)
  outs_name outs h = All-map (NamesFormulas (trees simple)) (out_over proxies) outs (All-weaker (NamesFormulas (trees older)) (λ o. NamesFormulas (trees simple) (out_over proxies o)) out_names outs h)

  pub simple_asks : (outs : List PlainOut) (all : Expanded) → all.nodes ≡ simple → all.outs ≡ map (out_over proxies) outs → All (NamesFormulas (trees older)) outs → All HasRanges (map (asked_by (trees older)) outs) →
      asked all ≡ simple_outputs (map (asked_by (trees older)) outs)
  simple_asks outs all e f h k = ap₂ (λ ns os. map (asked_by (trees ns)) os) e f ∙ outs_asked outs h k

  pub simple_sound : (outs : List PlainOut) (all : Expanded) (signals : ℕ) → all.nodes ≡ simple → all.outs ≡ map (out_over proxies) outs → length simple < 2 ^ 32 → IsSound (record { nodes = older; outs = outs }) signals →
      All HasRanges (map (asked_by (trees older)) outs) → IsSound all signals
  simple_sound outs all signals e f few s k = record {
    few_nodes = subst (λ ns. length ns < 2 ^ 32) (sym e) few;
    few_outs = let same : length all.outs ≡ length outs = ap length f ∙ length-map outs (out_over proxies) in omega (arith, s.few_outs);
    nodes = subst (λ ns. AreSound signals ns) (sym e) (done.sound signals s.nodes);
    outs = subst (λ os. All (NamesFormulas (trees all.nodes)) os) (sym f) (subst (λ ns. All (NamesFormulas (trees ns)) (map (out_over proxies) outs)) (sym e) (outs_name outs s.outs));
    tensed = subst (λ xs. All IsTensed xs) (sym (simple_asks outs all e f s.outs k)) (simple_tensed (map (asked_by (trees older)) outs) s.tensed);
  }
