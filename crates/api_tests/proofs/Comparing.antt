-- Nodes and outputs that compare a signal with other nodes.

use Rattle.std.proofs.Common.{◌≡◌, ℕ, ℤ, Some, None, Option, List, [], ◌∷◌, ◌++◌, length, get_or, refl, sym, subst, ap, ap₂, ◌∙◌, arith}
use Rattle.std.specs.Prelude.{slice_get, All}
use Rattle.std.proofs.lemmas.List.Elements.{All-nil, All-weaker, All-push}
use Rattle.mltl_base.specs.Atoms.{Atom, Term, column, constant}
use Rattle.mltl_base.specs.Formula.{atom}
use Rattle.mltl_base.specs.Reports as report
use Rattle.mltl_base.specs.Subformulas.{IsOfTense, IsTensed}
use Rattle.mltl_base.specs.declared.interval.Engine.TheVariants as engines
use Rattle.mltl_base.specs.declared.interval.Engine.{Engine}
use Rattle.mltl_base.specs.declared.operators.CompareOp.TheVariants.{Eq}
use Rattle.c2po_ast.specs.declared.nodes.Plain.{Plain}
use Rattle.c2po_ast.specs.declared.nodes.Plain.TheVariants.{Number, Signal, Compare}
use Rattle.c2po_ast.specs.declared.nodes.PlainOut.{PlainOut}
use Rattle.c2po_ast.specs.declared.nodes.PlainOut.TheVariants.{Formula, Contract}
use Rattle.c2po_ast.specs.Nodes.{Tree, number, formula, comparison, node_formula, formula_in, node_term, tree_of, trees, Has, Grows, IsFormula, IsFormed, AreSound}
use Rattle.c2po_ast.specs.Outputs.{NamesFormulas, asked_by}
use Rattle.c2po_ast.proofs.Pushing.{has_new, grows_push, sound_nil, sound_push, is_number, is_formula}

-- sound nodes with a signal and another whole number, and outputs that name formulas
pub record AreComparing (signal other : ℕ) (nodes : List Plain) (outs : List PlainOut) : Type 0 where
  pub left : Term
  pub right : Term
  pub has_left : Has nodes signal (number left)
  pub has_right : Has nodes other (number right)
  pub sound : AreSound 1 nodes
  pub named : All (NamesFormulas (trees nodes)) outs
  pub tensed : All (λ out. IsTensed (asked_by (trees nodes) out)) outs

stays : (old new : List Plain) (n : ℕ) (found : Option Tree) → Grows old new → slice_get (trees old) n ≡ found → IsFormula found
    → IsFormula (slice_get (trees new) n)
stays old new n (Some (formula p)) g e h = is_formula new n p (g.kept n (formula p) (record { found = e }))
stays old new n (Some (number a)) g e h = absurd h
stays old new n None g e h = absurd h

still-named : (old new : List Plain) → Grows old new → (o : PlainOut) → NamesFormulas (trees old) o → NamesFormulas (trees new) o
still-named old new g (Formula engine n name) h = stays old new n (slice_get (trees old) n) g refl h
still-named old new g (Contract engine n m name) h =
    (stays old new n (slice_get (trees old) n) g refl h.0, stays old new m (slice_get (trees old) m) g refl h.1)

still-formula : (old new : List Plain) (n : ℕ) (found : Option Tree) → Grows old new → slice_get (trees old) n ≡ found → IsFormula found
    → node_formula (trees new) n ≡ node_formula (trees old) n
still-formula old new n (Some (formula p)) g e h = ap formula_in ((g.kept n (formula p) (record { found = e })).found ∙ sym e)
still-formula old new n (Some (number a)) g e h = absurd h
still-formula old new n None g e h = absurd h

still-asked : (old new : List Plain) → Grows old new → (o : PlainOut) → NamesFormulas (trees old) o → asked_by (trees new) o ≡ asked_by (trees old) o
still-asked old new g (Formula engine n name) h =
    ap (λ p. record { engine = engine; name = name; output = report.formula p }) (still-formula old new n (slice_get (trees old) n) g refl h)
still-asked old new g (Contract engine n m name) h =
    ap₂ (λ p q. record { engine = engine; name = name; output = report.contract p q }) (still-formula old new n (slice_get (trees old) n) g refl h.0)
    (still-formula old new m (slice_get (trees old) m) g refl h.1)

-- a comparison is of either tense
atom-tensed : (engine : Engine) (a : Atom) → IsOfTense engine (atom a)
atom-tensed engines.Ft a = tt
atom-tensed engines.Pt a = tt

-- one more node
more-nodes : (signal other : ℕ) (nodes : List Plain) (outs : List PlainOut) (node : Plain) → AreComparing signal other nodes outs
    → IsFormed 1 (trees nodes) node → AreComparing signal other (nodes ++ node ∷ []) outs
more-nodes signal other nodes outs node h formed = record {
  left = h.left;
  right = h.right;
  has_left = (grows_push nodes node).kept signal (number h.left) h.has_left;
  has_right = (grows_push nodes node).kept other (number h.right) h.has_right;
  sound = sound_push 1 nodes node h.sound formed;
  named = All-weaker (NamesFormulas (trees nodes)) (NamesFormulas (trees (nodes ++ node ∷ [])))
      (still-named nodes (nodes ++ node ∷ []) (grows_push nodes node)) outs h.named;
  tensed = λ k d l.
      subst IsTensed (sym (still-asked nodes (nodes ++ node ∷ []) (grows_push nodes node) (get_or outs k d) (h.named k d l))) (h.tensed k d l);
}

-- a signal alone
pub comparing-signal : (place : ℕ) (none nodes : List Plain) (outs : List PlainOut) → none ≡ [] → outs ≡ [] → place ≡ length none
    → nodes ≡ none ++ Signal 0 ∷ [] → AreComparing place place nodes outs
comparing-signal place none nodes outs empty no_outs at is =
    let here : Has nodes place (number (column 0)) = rw (is, at, empty) (has_new [] (Signal 0)) in record {
      left = column 0;
      right = column 0;
      has_left = here;
      has_right = here;
      sound = rw (is, empty) (sound_push 1 [] (Signal 0) (sound_nil 1) (omega arith));
      named = rw no_outs (All-nil (NamesFormulas (trees nodes)));
      tensed = rw no_outs (All-nil (λ out. IsTensed (asked_by (trees nodes) out)));
    }

-- one more comparison and its output, and then a number for the next one
pub comparing-next : (signal other equal next : ℕ) (n : ℤ) (engine : Engine) (name : List ℕ) (nodes one two : List Plain) (outs more : List PlainOut)
    → AreComparing signal other nodes outs
    → one ≡ nodes ++ Compare Eq signal other ∷ [] → equal ≡ length nodes → more ≡ outs ++ Formula engine equal name ∷ []
    → two ≡ one ++ Number n ∷ [] → next ≡ length one → AreComparing signal next two more
comparing-next signal other equal next n engine name nodes one two outs more h e at o f next_at =
    let kinds : IsFormed 1 (trees nodes) (Compare Eq signal other) = (is_number nodes signal h.left h.has_left, is_number nodes other h.right h.has_right) in
    let first : AreComparing signal other one outs = rw e (more-nodes signal other nodes outs (Compare Eq signal other) h kinds) in
    let there : Has one equal (tree_of (trees nodes) (Compare Eq signal other)) = rw (e, at) (has_new nodes (Compare Eq signal other)) in
    let named : All (NamesFormulas (trees one)) more = rw o (All-push (NamesFormulas (trees one)) outs (Formula engine equal name) first.named (is_formula one equal _ there)) in
    let is : node_formula (trees one) equal ≡ atom (comparison Eq (node_term (trees nodes) signal) (node_term (trees nodes) other)) = ap formula_in there.found in
    let last : IsTensed (asked_by (trees one) (Formula engine equal name)) =
    subst (λ p. All (IsOfTense engine) (p ∷ [])) (sym is) (All-push (IsOfTense engine) [] (atom (comparison Eq (node_term (trees nodes) signal) (node_term (trees nodes) other))) (All-nil (IsOfTense engine)) (atom-tensed engine _)) in
    let tensed : All (λ out. IsTensed (asked_by (trees one) out)) more =
    rw o (All-push (λ out. IsTensed (asked_by (trees one) out)) outs (Formula engine equal name) first.tensed last) in
    let whole : AreComparing signal other one more = record { left = first.left; right = first.right; has_left = first.has_left; has_right = first.has_right; sound = first.sound; named = named; tensed = tensed } in
    let longer : AreComparing signal other two more = rw f (more-nodes signal other one more (Number n) whole tt) in record {
      left = longer.left;
      right = constant n;
      has_left = longer.has_left;
      has_right = rw (f, next_at) (has_new one (Number n));
      sound = longer.sound;
      named = longer.named;
      tensed = longer.tensed;
    }
