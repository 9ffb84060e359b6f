-- Members and parts of heads.

use Rattle.std.proofs.Common.{◌≡◌, ℕ, Bool, true, false, List, [], length, inl, inr, ◌⊎◌, refl, sym, subst, ap, ◌∙◌, Bor}
use Rattle.mltl_base.specs.Tables.{Table}
use Rattle.c2po_ast.specs.declared.tree.Expr.{Expr}
use Rattle.c2po_ast.specs.Shape as tree
use Rattle.c2po_ast.specs.Shape.{Shape, shape}
use Rattle.c2po_ast.specs.declared.nodes.Plain.{Plain}
use Rattle.c2po_types.specs.Values.{members, picked}
use Rattle.c2po_types.specs.Environment.{Env, signal_value, value_of}
use Rattle.set_expand.specs.declared.names.Declared.{Declared}
use Rattle.set_expand.specs.declared.nodes.Made.{Made}
use Rattle.set_expand.specs.declared.scope.Scope.{Scope}
use Rattle.set_expand.specs.declared.scope.Head.{Head}
use Rattle.set_expand.specs.declared.scope.Head.TheVariants as head
use Rattle.set_expand.specs.declared.scope.Named.{Named}
use Rattle.set_expand.specs.Heads.{IsHead, NamedBelow, env_in, head_value, is_build, leads_on, named_value}
use Rattle.set_expand.specs.Names.{SignalsBelow}
use Rattle.set_expand.specs.Nodes.{HaveNodes, NamedKept}
use Rattle.c2po_types.proofs.Members.{values_count}
use Rattle.c2po_types.proofs.StoredParts.{leaf_members, leaf_picked}

module _ (names : Table Declared) where
  -- a set has as many members as its expression
  pub set_count : (h : Head) (scope : Scope) (es : Bor (List Expr)) → h ≡ head.Set scope es → length es.now ≡ length (members (head_value names h))
  set_count h scope es e =
      sym (values_count es.now (env_in names scope)) ∙ ap (λ x. length (members (head_value names x))) (sym e)

  signal_members : (b : Bool) (n : ℕ) → members (signal_value b n) ≡ []
  signal_members true n = refl
  signal_members false n = refl

  -- other heads than sets have no members
  pub other_members : (h : Head) →
      (h ≡ head.Nothing) ⊎ (((b : Bool) × (n : ℕ) × (h ≡ head.Signal b n))
      ⊎ (((x : Scope) × (y : Bor (List ℕ)) × (z : Bor (List Expr)) × (h ≡ head.Struct x y z))
      ⊎ (((x : Scope) × (y : Bor Expr) × (h ≡ head.Leaf x y))
      ⊎ ((m : Made) × (x : Scope) × (y : Bor Expr) × (h ≡ head.Kept m x y))))) →
      IsHead h → members (head_value names h) ≡ []
  other_members h e is = elim e [
    | inl n ↦ ap (λ x. members (head_value names x)) n
    | inr m ↦ elim m [
      | inl s ↦ ap (λ x. members (head_value names x)) s.2 ∙ signal_members s.0 s.1
      | inr k ↦ elim k [
        | inl s ↦ ap (λ x. members (head_value names x)) s.3
        | inr o ↦ elim o [
          | inl l ↦
              ap (λ x. members (head_value names x)) l.2
              ∙ leaf_members (shape l.1.now) (env_in names l.0) _ refl (subst IsHead l.2 is)
          | inr l ↦
              ap (λ x. members (head_value names x)) l.3
              ∙ leaf_members (shape l.2.now) (env_in names l.1) _ refl (subst IsHead l.3 is)
        ]
      ]
    ]
  ]

-- what is no name, no picked field and no struct's value is its own part
pub unbuilt_picked : (e : Shape) (env : Env) (fields : List ℕ → List (List ℕ)) (f : List ℕ) → leads_on e ≡ false → is_build e ≡ false →
    value_of e env ≡ picked fields f (value_of e env)
unbuilt_picked (tree.named line x) env fields f a b = absurd (cc)
unbuilt_picked (tree.build line x es) env fields f a b = absurd (cc)
unbuilt_picked (tree.pick line e x) env fields f a b = absurd (cc)
unbuilt_picked (tree.each line x s e) env fields f a b = sym (leaf_picked (tree.each line x s e) env _ fields f refl refl)
unbuilt_picked (tree.exists line x s e) env fields f a b = sym (leaf_picked (tree.exists line x s e) env _ fields f refl refl)
unbuilt_picked (tree.count line op x s m e) env fields f a b = sym (leaf_picked (tree.count line op x s m e) env _ fields f refl refl)
unbuilt_picked _ env fields f a b = refl

-- what an expression leads to so far: it has the expression's value, its signal is one of the names', and its node
-- is there
pub record LeadsTo (names : Table Declared) (scope : Scope) (e : Expr) (found : Named) : Type 0 where
  pub value : named_value names found ≡ value_of (shape e) (env_in names scope)
  pub below : (n : ℕ) → SignalsBelow n names → NamedBelow n found
  pub kept : (nodes : List Plain) → HaveNodes nodes names → NamedKept nodes names found
