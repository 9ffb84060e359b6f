-- Nodes that get one more: what it unfolds to, what stays, and that they stay sound.

use Rattle.std.proofs.Common.{◌≡◌, ℕ, ◌+◌, ◌<◌, Some, List, [], ◌∷◌, ◌++◌, length, take, fold, get_or, slice_get, refl, sym, subst, ap, ◌∙◌, append_assoc, append-nil, arith, inl, inr}
use Rattle.std.proofs.lemmas.List.{length_push, take_all, take_more, take-append-le}
use Rattle.std.proofs.lemmas.List.Sums.{fold_push}
use Rattle.std.proofs.lemmas.Option.{get_or_from_slice_get, slice_get_within}
use Rattle.mltl_base.specs.Atoms.{Term}
use Rattle.mltl_base.specs.Formula.{Formula}
use Rattle.c2po_ast.specs.declared.nodes.Plain.{Plain}
use Rattle.c2po_ast.specs.Nodes.{Tree, number, formula, node_term, node_formula, tree_of, trees, Has, Grows, IsNumber, IsFormula, IsFormed, AreSound}
use Rattle.c2po_ast.proofs.Places.{get_left, get_last, at_push}

pub trees_push : (nodes : List Plain) (node : Plain) → trees (nodes ++ node ∷ []) ≡ trees nodes ++ tree_of (trees nodes) node ∷ []
unfolding trees
trees_push nodes node = fold_push (λ earlier node. earlier ++ tree_of earlier node ∷ []) [] nodes node

length_after : (earlier : List Tree) (nodes : List Plain) → length (fold (λ earlier node. earlier ++ tree_of earlier node ∷ []) earlier nodes) ≡ length earlier + length nodes
length_after earlier [] = omega arith
length_after earlier (node ∷ nodes) =
    omega (arith, length_push earlier (tree_of earlier node), length_after (earlier ++ tree_of earlier node ∷ []) nodes)

-- as many trees as nodes
pub length-trees : (nodes : List Plain) → length (trees nodes) ≡ length nodes
unfolding trees
length-trees nodes = omega (arith, length_after [] nodes)

-- the trees of one more of the first nodes
pub trees_more : (nodes : List Plain) (i : ℕ) (node : Plain) → slice_get nodes i ≡ Some node →
    trees (take (i + 1) nodes) ≡ trees (take i nodes) ++ tree_of (trees (take i nodes)) node ∷ []
trees_more nodes i node e =
    let inside : i < length nodes = slice_get_within nodes i node e in
    let here : get_or nodes i node ≡ node = get_or_from_slice_get nodes i node node e in
    ap trees (take_more nodes i node inside)
    ∙ (ap (λ x. trees (take i nodes ++ x ∷ [])) here ∙ trees_push (take i nodes) node)

-- the new node unfolds over those before it
pub has_new : (nodes : List Plain) (node : Plain) → Has (nodes ++ node ∷ []) (length nodes) (tree_of (trees nodes) node)
has_new nodes node = record {
  found = rw (trees_push nodes node, ← length-trees nodes) (get_last (trees nodes) (tree_of (trees nodes) node));
}

pub grows_same : (nodes : List Plain) → Grows nodes nodes
grows_same nodes = record { kept = λ n tree h. h }

pub grows_then : (old mid new : List Plain) → Grows old mid → Grows mid new → Grows old new
grows_then old mid new g h = record { kept = λ n tree s. h.kept n tree (g.kept n tree s) }

pub grows_push : (nodes : List Plain) (node : Plain) → Grows nodes (nodes ++ node ∷ [])
grows_push nodes node = record {
  kept = λ n tree h. record {
    found = rw (trees_push nodes node) (get_left (trees nodes) (tree_of (trees nodes) node ∷ []) n tree h.found);
  };
}

pub grows_append : (nodes more : List Plain) → Grows nodes (nodes ++ more)
grows_append nodes [] = rw (append-nil nodes) (grows_same nodes)
grows_append nodes (node ∷ more) =
    grows_then nodes (nodes ++ node ∷ []) (nodes ++ node ∷ more) (grows_push nodes node)
    (subst (λ new. Grows (nodes ++ node ∷ []) new) (append_assoc nodes (node ∷ []) more) (grows_append (nodes ++ node ∷ []) more))

-- no nodes are sound, and so are sound ones with a node that is formed over them
pub sound_nil : (signals : ℕ) → AreSound signals []
sound_nil signals = record { formed = λ i node e. cc }

pub sound_push : (signals : ℕ) (nodes : List Plain) (node : Plain) → AreSound signals nodes → IsFormed signals (trees nodes) node →
    AreSound signals (nodes ++ node ∷ [])
sound_push signals nodes node h g = record {
  formed = λ i new e. elim (at_push nodes node i new e) [
    | inl p ↦
        let before : take i (nodes ++ node ∷ []) ≡ take i nodes = take-append-le i nodes (node ∷ []) (omega arith) in
        subst (λ ns. IsFormed signals (trees ns) new) (sym before) (h.formed i new p.1)
    | inr p ↦
        let before : take i (nodes ++ node ∷ []) ≡ take i nodes = take-append-le i nodes (node ∷ []) (omega arith) in
        let all : take i nodes ≡ nodes = take_all i nodes (omega arith) in
        subst (λ ns. IsFormed signals (trees ns) new) (sym (before ∙ all)) (subst (λ x. IsFormed signals (trees nodes) x) p.1 g)
  ];
}

-- a node that unfolds to a whole number, or to a formula, is an operand of that kind
pub number_at : (nodes : List Plain) (n : ℕ) (a : Term) → Has nodes n (number a) → node_term (trees nodes) n ≡ a
number_at nodes n a h = rw h.found refl

pub is_number : (nodes : List Plain) (n : ℕ) (a : Term) → Has nodes n (number a) → IsNumber (slice_get (trees nodes) n)
is_number nodes n a h = rw h.found tt

pub formula_in_place : (nodes : List Plain) (n : ℕ) (p : Formula) → Has nodes n (formula p) → node_formula (trees nodes) n ≡ p
formula_in_place nodes n p h = rw h.found refl

pub is_formula : (nodes : List Plain) (n : ℕ) (p : Formula) → Has nodes n (formula p) → IsFormula (slice_get (trees nodes) n)
is_formula nodes n p h = rw h.found tt
