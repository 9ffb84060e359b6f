-- Nodes that represent the simplified formulas of other nodes. Only inner functions use this file: the contract of
-- `simplify` has the simplified outputs.

use Rattle.std.specs.Prelude.{◌≡◌, ◌<◌, ℕ, ℤ, Bool, true, false, not, Option, Some, None, List, length, slice_get, ⊤}
use Rattle.mltl_base.specs.declared.interval.Interval.{Interval}
use Rattle.mltl_base.specs.declared.operators.LogicOp as logic
use Rattle.mltl_base.specs.declared.operators.WindowOp as window
use Rattle.mltl_base.specs.declared.operators.BetweenOp as between
use Rattle.mltl_base.specs.Formula as plain
use Rattle.mltl_base.specs.Formula.{until, release, since}
use Rattle.c2po_ast.specs.declared.nodes.Plain.{Plain}
use Rattle.c2po_ast.specs.declared.nodes.PlainOut.{PlainOut}
use Rattle.c2po_ast.specs.declared.nodes.PlainOut.TheVariants.{Formula, Contract}
use Rattle.c2po_ast.specs.Faults.{formula_fault, term_fault}
use Rattle.c2po_ast.specs.Nodes.{Tree, number, formula, Has, Grows, AreSound}
use Rattle.mltl_simplify.specs.declared.proxies.Proxy.{Proxy}
use Rattle.mltl_simplify.specs.Numbers.{number_of}
use Rattle.mltl_simplify.specs.Simplify.{simp, simple_and, simple_or, simple_implies, simple_equals, simple_finally}
use Rattle.mltl_simplify.specs.Simplify.{simple_globally, simple_once, simple_historically, as_truth, unless_truth}
use Rattle.mltl_simplify.specs.Simplify.{unless_false}

-- the simplified formula of a connective over two simplified formulas
abbrev pub simple_logic : logic.LogicOp → plain.Formula → plain.Formula → plain.Formula
simple_logic logic.TheVariants.And p q = simple_and p q
simple_logic logic.TheVariants.Or p q = simple_or p q
simple_logic logic.TheVariants.Implies p q = simple_implies p q
simple_logic logic.TheVariants.Iff p q = simple_equals p q

-- the simplified formula of a temporal operator over one simplified formula
abbrev pub simple_window : window.WindowOp → Interval → plain.Formula → plain.Formula
simple_window window.TheVariants.F i p = simple_finally i p
simple_window window.TheVariants.G i p = simple_globally i p
simple_window window.TheVariants.O i p = simple_once i p
simple_window window.TheVariants.H i p = simple_historically i p

-- the simplified formula of a temporal operator over two simplified formulas
abbrev pub simple_between : between.BetweenOp → Interval → plain.Formula → plain.Formula → plain.Formula
simple_between between.TheVariants.U i p q = unless_truth (as_truth q) (until i p q)
simple_between between.TheVariants.R i p q = unless_truth (as_truth q) (release i p q)
simple_between between.TheVariants.S i p q = unless_false (as_truth q) (since i p q)

-- the operator over the Boolean is the Boolean
abbrev pub keeps_truth : window.WindowOp → Bool → Bool
keeps_truth window.TheVariants.F v = true
keeps_truth window.TheVariants.G v = true
keeps_truth window.TheVariants.O v = not v
keeps_truth window.TheVariants.H v = v

-- the formula isn't a Boolean that the operator leaves as it is
abbrev pub KeepsNone : window.WindowOp → Option Bool → Type 0
KeepsNone op None = ⊤
KeepsNone op (Some v) = keeps_truth op v ≡ false

-- the operator with the Boolean on its right is the Boolean
abbrev pub gives_truth : between.BetweenOp → Bool → Bool
gives_truth between.TheVariants.U v = true
gives_truth between.TheVariants.R v = true
gives_truth between.TheVariants.S v = not v

-- the nodes are sound over signals of some number
pub record AreFormed (nodes : List Plain) : Type 0 where
  pub signals : ℕ
  pub sound : AreSound signals nodes

-- node n is a formula
pub record IsFormulaAt (nodes : List Plain) (n : ℕ) : Type 0 where
  pub the : plain.Formula
  pub has : Has nodes n (formula the)

-- each old node unfolds to the same tree among the new nodes, node n of them is the formula, and they are sound if the old
-- ones are
pub record AddsNodes (old new : List Plain) (n : ℕ) (p : plain.Formula) : Type 0 where
  pub has : Has new n (formula p)
  pub grows : Grows old new
  pub sound : (signals : ℕ) → AreSound signals old → AreSound signals new

-- node n is the simplified formula if the formula has no fault, else some formula
pub record IsSimplified (nodes : List Plain) (n : ℕ) (p : plain.Formula) : Type 0 where
  pub the : plain.Formula
  pub has : Has nodes n (formula the)
  pub simple : formula_fault p ≡ None → the ≡ simp p

-- node n represents the tree: an integer stays, a formula is simplified
abbrev pub IsPlaced : List Plain → ℕ → Tree → Type 0
IsPlaced nodes n (number a) = Has nodes n (number a)
IsPlaced nodes n (formula p) = IsSimplified nodes n p

-- each old node unfolds to the same tree among the new nodes, node n of them represents a tree of `nodes`, and they are
-- sound if `nodes` and the old ones are
pub record Places (nodes old new : List Plain) (n : ℕ) (tree : Tree) : Type 0 where
  pub placed : IsPlaced new n tree
  pub grows : Grows old new
  pub sound : (signals : ℕ) → AreSound signals nodes → AreSound signals old → AreSound signals new

-- if the tree is an integer without a fault, the known number is its number
abbrev pub IsNumbered : Option ℤ → Tree → Type 0
IsNumbered known (number a) = term_fault a ≡ None → known ≡ number_of a
IsNumbered known (formula p) = ⊤

-- each proxy has the number of its node, if the node is an integer without a fault
pub record ProxiesAreNumbered (nodes : List Plain) (proxies : List Proxy) : Type 0 where
  pub known : (n : ℕ) (proxy : Proxy) (tree : Tree) → slice_get proxies n ≡ Some proxy → Has nodes n tree
      → IsNumbered proxy.number tree

-- each of the first `count` nodes has a proxy, which represents the tree that the node unfolds to
pub record AreSimplified (nodes : List Plain) (count : ℕ) (simple : List Plain) (proxies : List Proxy) : Type 0 where
  pub each : length proxies ≡ count
  pub placed : (n : ℕ) (proxy : Proxy) (tree : Tree) → slice_get proxies n ≡ Some proxy → Has nodes n tree
      → IsPlaced simple proxy.place tree
  pub numbered : ProxiesAreNumbered nodes proxies
  pub sound : (signals : ℕ) → AreSound signals nodes → AreSound signals simple

-- the number of a proxy, if there is one
abbrev pub proxy_number : Option Proxy → Option ℤ
proxy_number (Some proxy) = proxy.number
proxy_number None = None

-- the place of a proxy; 0 if there is none
abbrev pub place_in : Option Proxy → ℕ
place_in (Some proxy) = proxy.place
place_in None = 0

-- the index of the node that represents node n
abbrev pub place_at : List Proxy → ℕ → ℕ
place_at proxies n = place_in (slice_get proxies n)

-- the number of node n, if it is known
abbrev pub known_number : List Proxy → ℕ → Option ℤ
known_number proxies n = proxy_number (slice_get proxies n)

-- the output over the indices of the nodes that represent its nodes
abbrev pub out_over : List Proxy → PlainOut → PlainOut
out_over proxies (Formula engine n name) = Formula engine (place_at proxies n) name
out_over proxies (Contract engine n m name) = Contract engine (place_at proxies n) (place_at proxies m) name

-- the output reads only the first `count` nodes
abbrev pub ReadsNodes : ℕ → PlainOut → Type 0
ReadsNodes count (Formula engine n name) = n < count
ReadsNodes count (Contract engine n m name) = (n < count) × (m < count)
