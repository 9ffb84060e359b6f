-- What a node of a list unfolds to, and its operands.

use Rattle.std.proofs.Common.{◌≡◌, ℕ, ◌+◌, ◌<◌, false, Option, Some, None, List, [], ◌∷◌, ◌++◌, length, take, drop, get_or, slice_get, refl, sym, subst, ap, ◌∙◌, arith}
use Rattle.std.proofs.lemmas.List.{take-append-drop, length-take-le}
use Rattle.std.proofs.lemmas.Option.{slice_get_within, same_Some}
use Rattle.c2po_ast.specs.declared.nodes.Plain.{Plain}
use Rattle.c2po_ast.specs.declared.nodes.Plain.TheVariants.{Truth}
use Rattle.c2po_ast.specs.Nodes.{Tree, number, formula, term_in, formula_in, node_term, node_formula, tree_of, trees, Has, IsNumber, IsFormula, IsFormed}
use Rattle.c2po_ast.proofs.Places.{get_last, node_there}
use Rattle.c2po_ast.proofs.Pushing.{trees_more, length-trees, grows_append}
use Rattle.mltl_simplify.specs.Nodes.{AreFormed}

-- what the first nodes unfold to stays
pub has_later : (nodes : List Plain) (k n : ℕ) (tree : Tree) → slice_get (trees (take k nodes)) n ≡ Some tree → Has nodes n tree
has_later nodes k n tree h =
    subst (λ all. Has all n tree) (take-append-drop k nodes) ((grows_append (take k nodes) (drop k nodes)).kept n tree (record { found = h }))

pub has_place : (nodes : List Plain) (n : ℕ) (tree : Tree) → Has nodes n tree → n < length nodes
has_place nodes n tree h =
    let inside : n < length (trees nodes) = slice_get_within (trees nodes) n tree h.found in
    omega (arith, length-trees nodes)

pub node_has : (nodes : List Plain) (n : ℕ) (node : Plain) → slice_get nodes n ≡ Some node → Has nodes n (tree_of (trees (take n nodes)) node)
node_has nodes n node e =
    let inside : n < length nodes = slice_get_within nodes n node e in
    let before : List Tree = trees (take n nodes) in
    let short : length before ≡ n = length-trees (take n nodes) ∙ length-take-le n nodes (omega arith) in
    let last : slice_get (before ++ tree_of before node ∷ []) n ≡ Some (tree_of before node) =
    subst (λ k. slice_get (before ++ tree_of before node ∷ []) k ≡ Some (tree_of before node)) short (get_last before (tree_of before node)) in
    has_later nodes (n + 1) n (tree_of before node) (ap (λ ts. slice_get ts n) (trees_more nodes n node e) ∙ last)

-- what a node unfolds to is told by the node
pub head : (nodes : List Plain) (n : ℕ) (node : Plain) (tree : Tree) → slice_get nodes n ≡ Some node → Has nodes n tree → tree_of (trees (take n nodes)) node ≡ tree
head nodes n node tree e h = same_Some _ _ (sym (node_has nodes n node e).found ∙ h.found)

-- operands
is_formula_in : (o : Option Tree) → IsFormula o → o ≡ Some (formula (formula_in o))
is_formula_in (Some (formula p)) h = refl
is_formula_in _ h = absurd h

is_number_in : (o : Option Tree) → IsNumber o → o ≡ Some (number (term_in o))
is_number_in (Some (number a)) h = refl
is_number_in _ h = absurd h

pub formula_operand : (nodes : List Plain) (k a : ℕ) → IsFormula (slice_get (trees (take k nodes)) a) → Has nodes a (formula (node_formula (trees (take k nodes)) a))
formula_operand nodes k a h = has_later nodes k a _ (is_formula_in (slice_get (trees (take k nodes)) a) h)

pub number_operand : (nodes : List Plain) (k a : ℕ) → IsNumber (slice_get (trees (take k nodes)) a) → Has nodes a (number (node_term (trees (take k nodes)) a))
number_operand nodes k a h = has_later nodes k a _ (is_number_in (slice_get (trees (take k nodes)) a) h)

below : (nodes : List Plain) (k a : ℕ) (tree : Tree) → k < length nodes → slice_get (trees (take k nodes)) a ≡ Some tree → a < k
below nodes k a tree l e =
    let inside : a < length (trees (take k nodes)) = slice_get_within (trees (take k nodes)) a tree e in
    omega (arith, length-trees (take k nodes), length-take-le k nodes (omega arith))

pub formula_below : (nodes : List Plain) (k a : ℕ) → k < length nodes → IsFormula (slice_get (trees (take k nodes)) a) → a < k
formula_below nodes k a l h = below nodes k a _ l (is_formula_in (slice_get (trees (take k nodes)) a) h)

pub number_below : (nodes : List Plain) (k a : ℕ) → k < length nodes → IsNumber (slice_get (trees (take k nodes)) a) → a < k
number_below nodes k a l h = below nodes k a _ l (is_number_in (slice_get (trees (take k nodes)) a) h)

-- how the node that an arm has found is formed
pub formed_here : (nodes : List Plain) (i : ℕ) (node : Plain) (f : AreFormed nodes) → i < length nodes → get_or nodes i (Truth false) ≡ node → IsFormed f.signals (trees (take i nodes)) node
formed_here nodes i node f l e = f.sound.formed i node (node_there nodes i node l e)

-- the same of a node that is found through a slice
pub found : (nodes slice : List Plain) (n : ℕ) (node : Plain) (tree : Tree) → slice ≡ nodes → get_or slice n (Truth false) ≡ node → Has nodes n tree → tree_of (trees (take n nodes)) node ≡ tree
found nodes slice n node tree s e h =
    head nodes n node tree (node_there nodes n node (has_place nodes n tree h) (ap (λ ns. get_or ns n (Truth false)) (sym s) ∙ e)) h

pub formed_found : (nodes slice : List Plain) (n : ℕ) (node : Plain) (f : AreFormed nodes) → n < length nodes → slice ≡ nodes → get_or slice n (Truth false) ≡ node → IsFormed f.signals (trees (take n nodes)) node
formed_found nodes slice n node f l s e = formed_here nodes n node f l (ap (λ ns. get_or ns n (Truth false)) (sym s) ∙ e)
