-- Bodies that are joined one after another.

use Rattle.std.proofs.Common.{◌≡◌, ℕ, ◌+◌, ◌<◌, Some, List, [], ◌∷◌, take, map, length, slice_get, refl, sym, ap, subst, arith}
use Rattle.mltl_base.specs.declared.operators.LogicOp.{LogicOp}
use Rattle.mltl_base.specs.declared.operators.CountOp.{CountOp}
use Rattle.mltl_base.specs.Formula.{falsity}
use Rattle.mltl_base.specs.Tables.{Table}
use Rattle.count_sets.specs.Counting.{counting}
use Rattle.c2po_ast.specs.declared.nodes.Plain.{Plain}
use Rattle.c2po_ast.specs.declared.nodes.Plain.TheVariants as plain
use Rattle.c2po_ast.specs.Nodes.{Has, formula, tree_of, trees}
use Rattle.c2po_types.specs.Values.{Value, connected_all, counted, counted_formula, formula_of}
use Rattle.c2po_types.proofs.Loops.{formulas_back, joined_one, joined_next}
use Rattle.set_expand.specs.declared.names.Declared.{Declared}
use Rattle.set_expand.specs.declared.nodes.Made.TheVariants as made
use Rattle.set_expand.specs.Nodes.{IsMade, IsMore}
use Rattle.set_expand.proofs.Growing.{more_then, logic_has}

-- the node of the first bodies
pub record JoinedSoFar (names : Table Declared) (old now : List Plain) (op : LogicOp) (vs : List Value) (i all : ℕ) : Type 0 where
  pub more : IsMore names old now
  pub has : Has now all (formula (formula_of (connected_all op (take i vs))))

module _ (names : Table Declared) (op : LogicOp) (vs : List Value) where
  pub joined_start : (old now : List Plain) (n : ℕ) (v : Value) → slice_get vs 0 ≡ Some v → IsMore names old now → Has now n (formula (formula_of v))
      → JoinedSoFar names old now op vs 1 n
  joined_start old now n v at more has = record {
    more = more;
    has = subst (λ p. Has now n (formula p)) (ap formula_of (joined_one op vs v at)) has;
  }

  -- and one more
  pub joined_more : (old now mid new : List Plain) (i all next n : ℕ) (v : Value) → JoinedSoFar names old now op vs i all → slice_get vs i ≡ Some v → 0 < i
      → IsMore names now mid → IsMore names mid new → Has mid next (formula (formula_of v)) → Has new n (tree_of (trees mid) (plain.Logic op all next))
      → JoinedSoFar names old new op vs (i + 1) n
  joined_more old now mid new i all next n v j at some more last has own = record {
    more = more_then names old now new j.more (more_then names now mid new more last);
    has = subst (λ p. Has new n (formula p)) (joined_next op vs i v at some)
        (logic_has mid new n op all next (formula_of (connected_all op (take i vs))) (formula_of v) own
        (more.grows.kept all (formula (formula_of (connected_all op (take i vs)))) j.has) has);
  }

-- the nodes of quantifiers over no body, and of a counting one over some
pub none_joined : (nodes : List Plain) (n : ℕ) (op : LogicOp) (vs : List Value) → length vs ≡ 0 → Has nodes n (formula falsity)
    → Has nodes n (formula (formula_of (connected_all op vs)))
none_joined nodes n op [] e h = h
none_joined nodes n op (v ∷ vs) e h = absurd (omega arith)

pub none_counted : (nodes : List Plain) (n : ℕ) (op : CountOp) (m : ℕ) (vs : List Value) → length vs ≡ 0 → Has nodes n (formula falsity)
    → Has nodes n (formula (formula_of (counted op m vs)))
none_counted nodes n op m [] e h = h
none_counted nodes n op m (v ∷ vs) e h = absurd (omega arith)

pub some_counted : (nodes : List Plain) (n : ℕ) (op : CountOp) (m : ℕ) (vs : List Value) → 0 < length vs
    → Has nodes n (formula (counted_formula (map formula_of vs) (counting op (length (map formula_of vs)) m)))
    → Has nodes n (formula (formula_of (counted op m vs)))
some_counted nodes n op m [] some h = absurd (omega arith)
some_counted nodes n op m (v ∷ vs) some h =
    subst (λ ps. Has nodes n (formula (counted_formula ps (counting op (length ps) m)))) (sym (formulas_back (v ∷ vs))) h

-- quantifiers are formulas
pub made_joined : (nodes : List Plain) (n : ℕ) (op : LogicOp) (vs : List Value) → Has nodes n (formula (formula_of (connected_all op vs)))
    → IsMade nodes (made.Formula n) (connected_all op vs)
made_joined nodes n op vs h = (formula_of (connected_all op vs), refl, h)
