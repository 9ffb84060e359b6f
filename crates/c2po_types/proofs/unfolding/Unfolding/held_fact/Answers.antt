use Rattle.std.proofs.Common.{◌≡◌, ◌≤◌, ℕ, Some, None, length, slice_get, option_map, refl, sym, subst, ◌∙◌, arith}
use Rattle.std.proofs.lemmas.Option.{slice_get_within, same_Some}
use Rattle.c2po_types.specs.declared.fact.Fact.{Fact}
use Rattle.c2po_types.specs.declared.values.Location.TheVariants.{Leaf as LeafAt}
use Rattle.c2po_types.specs.declared.values.Stored.{Stored}
use Rattle.c2po_types.specs.declared.unfolding.Unfolding.{Unfolding}
use Rattle.c2po_types.specs.Facts.{Tells, tree_fact}
use Rattle.c2po_types.specs.Holding.{Holds}
use Rattle.c2po_types.specs.Values.{Value, leaf, structure, set, leaf_tree, tree_in}
use Rattle.c2po_types.proofs.Members.{found_at}
use Rattle.c2po_types.proofs.unfolding.Unfolding.held_fact.Goals as goal

-- what is known of a stored integer or formula, at its place; nothing is known of other values
held_tells : (v : Value) (u : Unfolding) (s : Stored) (i : ℕ) (f : Fact) → s.location ≡ LeafAt i → slice_get u.facts i ≡ Some f → Holds u s v →
    Tells f (tree_in v)
held_tells (leaf l) u s i f e at h =
    let j : h.1.0 ≡ i = cc in
    let same : h.1.1 ≡ f = same_Some h.1.1 f (sym (subst (λ k. slice_get u.facts k ≡ Some h.1.1) j h.1.3) ∙ at) in
    subst (λ g. Tells g (Some (leaf_tree l))) same h.1.4
held_tells (structure x vs) u s i f e at h = cc
held_tells (set vs) u s i f e at h = cc

held_past : (v : Value) (u : Unfolding) (s : Stored) (i : ℕ) → s.location ≡ LeafAt i → length u.facts ≤ i → Holds u s v →
    None ≡ option_map tree_fact (tree_in v)
held_past (leaf l) u s i e past h =
    let j : h.1.0 ≡ i = cc in
    absurd (omega (arith, slice_get_within u.facts h.1.0 h.1.1 h.1.3))
held_past (structure x vs) u s i e past h = refl
held_past (set vs) u s i e past h = refl

no_leaf : (v : Value) (u : Unfolding) (s : Stored) → ((i : ℕ) → s.location ≡ LeafAt i → ⊥) → Holds u s v → None ≡ option_map tree_fact (tree_in v)
no_leaf (leaf l) u s other h = absurd (other h.1.0 h.1.2)
no_leaf (structure x vs) u s other h = refl
no_leaf (set vs) u s other h = refl

pub returns-in_default : goal.returns-in_default
returns-in_default c = λ v h. no_leaf v c.args.self.now c.args.stored c.in_default.not-Leaf h

pub returns-in-Some : goal.returns-in-Some
returns-in-Some c = λ v h.
    held_tells v c.args.self.now c.args.stored c.in-Leaf.i c.in-Some.fact.now c.in-Leaf.is
    (found_at _ _ _ _ c.as_slice.ensures c.in-Some.ensures.lookup.3.0 c.in-Some.ensures.lookup.1) h

pub returns-in-None : goal.returns-in-None
returns-in-None c = λ v h.
    held_past v c.args.self.now c.args.stored c.in-Leaf.i c.in-Leaf.is
    (subst (λ xs. length xs ≤ c.in-Leaf.i) c.as_slice.ensures c.in-None.ensures.lookup.3) h
