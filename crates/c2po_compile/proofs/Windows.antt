-- The intervals of what sound nodes unfold to are in bounds.

use Rattle.std.specs.Prelude.{⊤}
use Rattle.std.proofs.Common.{◌≡◌, ℕ, zero, suc, ◌≤◌, true, false, Some, List, [], ◌∷◌, ◌++◌, length, take, get_or, slice_get, sym, subst, arith, add-one}
use Rattle.std.proofs.lemmas.List.{take_all}
use Rattle.std.proofs.lemmas.Option.{slice_get-get_or}
use Rattle.mltl_base.specs.declared.operators.LogicOp.TheVariants as logic
use Rattle.mltl_base.specs.declared.operators.WindowOp.TheVariants as window
use Rattle.mltl_base.specs.declared.operators.BetweenOp.TheVariants as between
use Rattle.mltl_base.specs.Formula.{Formula}
use Rattle.mltl_base.proofs.Unfolding.{Each, all_push}
use Rattle.c2po_ast.specs.declared.nodes.Plain.{Plain}
use Rattle.c2po_ast.specs.declared.nodes.Plain.TheVariants.{Truth, Not, Logic, Window, Between}
use Rattle.c2po_ast.specs.Nodes.{Tree, number, formula, node_formula, tree_of, trees, IsBounded, IsFormed, AreSound}
use Rattle.c2po_ast.proofs.Pushing.{trees_more}
use Rattle.c2po_compile.proofs.Cores.{Throughout}

-- all intervals of a formula are in bounds
abbrev pub IsWindowed : Formula → Type 0
IsWindowed p = Throughout (λ a. ⊤) IsBounded p

abbrev TreeWindowed : Tree → Type 0
TreeWindowed (number a) = ⊤
TreeWindowed (formula p) = IsWindowed p

pub AreWindowed : List Tree → Type 0
AreWindowed ts = Each TreeWindowed ts

pub windowed_at : (ts : List Tree) (n : ℕ) → AreWindowed ts → IsWindowed (node_formula ts n)
unfolding AreWindowed
windowed_at [] n h = tt
windowed_at (number a ∷ ts) zero h = tt
windowed_at (formula p ∷ ts) zero h = h.0
windowed_at (t ∷ ts) (suc n) h = windowed_at ts n h.1

tree_windowed : (signals : ℕ) (ts : List Tree) (node : Plain) → AreWindowed ts → IsFormed signals ts node → TreeWindowed (tree_of ts node)
tree_windowed signals ts (Truth true) h f = tt
tree_windowed signals ts (Truth false) h f = tt
tree_windowed signals ts (Not a) h f = windowed_at ts a h
tree_windowed signals ts (Logic logic.And a b) h f = (windowed_at ts a h, windowed_at ts b h)
tree_windowed signals ts (Logic _ a b) h f = (windowed_at ts a h, windowed_at ts b h)
tree_windowed signals ts (Window window.F i a) h f = (f.0, windowed_at ts a h)
tree_windowed signals ts (Window _ i a) h f = (f.0, windowed_at ts a h)
tree_windowed signals ts (Between between.U i a b) h f = (f.0, windowed_at ts a h, windowed_at ts b h)
tree_windowed signals ts (Between _ i a b) h f = (f.0, windowed_at ts a h, windowed_at ts b h)
tree_windowed signals ts _ h f = tt

first_windowed : (signals : ℕ) (nodes : List Plain) (n : ℕ) → AreSound signals nodes → n ≤ length nodes → AreWindowed (trees (take n nodes))
unfolding AreWindowed trees
first_windowed signals nodes zero s l = tt
first_windowed signals nodes (suc n) s l =
    let node : Plain = get_or nodes n (Truth false) in
    let there : slice_get nodes n ≡ Some node = slice_get-get_or nodes n (Truth false) (omega arith) in
    let earlier : AreWindowed (trees (take n nodes)) = first_windowed signals nodes n s (omega arith) in
    let longer : AreWindowed (trees (take n nodes) ++ tree_of (trees (take n nodes)) node ∷ []) =
    all_push TreeWindowed (trees (take n nodes)) (tree_of (trees (take n nodes)) node) earlier (tree_windowed signals (trees (take n nodes)) node earlier (s.formed n node there)) in
    subst (λ (k : ℕ). AreWindowed (trees (take k nodes))) (add-one n) (subst AreWindowed (sym (trees_more nodes n node there)) longer)

pub trees_windowed : (signals : ℕ) (nodes : List Plain) → AreSound signals nodes → AreWindowed (trees nodes)
trees_windowed signals nodes s =
    subst (λ (ns : List Plain). AreWindowed (trees ns)) (take_all (length nodes) nodes (omega arith)) (first_windowed signals nodes (length nodes) s (omega arith))
