-- What outputs name: the roots of walks are their core formulas, and their places are those of these formulas.

use Rattle.std.proofs.Common.{◌≡◌, ℕ, ◌<◌, Bool, true, false, ◌||◌, if◌then◌else◌, Option, Some, None, List, [], ◌∷◌, ◌++◌, All, flat_map, length, map, get_or, slice_get, slice_index, refl, sym, subst, ap, ap₂, ◌∙◌, arith}
use Rattle.std.proofs.lemmas.Bool.{false≢true}
use Rattle.std.proofs.lemmas.List.{map-append}
use Rattle.std.proofs.lemmas.Option.{slice_get_within, slice_get-get_or}
use Rattle.mltl_base.specs.declared.interval.Engine.{Engine}
use Rattle.mltl_base.specs.declared.interval.Part.{Part}
use Rattle.mltl_base.specs.declared.program.Out.TheVariants as out
use Rattle.mltl_base.specs.Atoms.{Atom, term_over}
use Rattle.mltl_base.specs.Formula.{truth as always, Core, catom, core, formula_over}
use Rattle.mltl_base.specs.Programs.{truth}
use Rattle.mltl_base.specs.Subformulas.{same_expression, same, listed, place_of, Asked, cores_of_output, all_cores, cores_for, subformulas, bz_expressions, out_by}
use Rattle.mltl_base.proofs.Sameness.{same_sound}
use Rattle.mltl_base.proofs.Unfolding.{Each, each_from_all, Deep, fold_all}
use Rattle.mltl_base.proofs.Booleans.{HasAtom, fold_have}
use Rattle.mltl_base.proofs.Members.{all_from_each, each_append}
use Rattle.mltl_base.proofs.Picking.{cores_of_engine, all_listed}
use Rattle.c2po_ast.specs.declared.nodes.Plain.{Plain}
use Rattle.c2po_ast.specs.declared.nodes.PlainOut.{PlainOut}
use Rattle.c2po_ast.specs.declared.nodes.PlainOut.TheVariants.{Formula, Contract}
use Rattle.c2po_ast.specs.Nodes as plain
use Rattle.c2po_ast.specs.Outputs.{asked_by, asked_over, NamesFormulas}
use Rattle.c2po_ast.proofs.Pushing.{length-trees}
use Rattle.core_graph.specs.declared.vertex.Vertex.{Vertex}
use Rattle.core_graph.specs.Vertices.{tree_at, trees, Has}
use Rattle.core_graph.specs.Images.{of_term, of_core}
use Rattle.core_graph.specs.Reading.{Represents, AreRead}
use Rattle.core_graph.specs.Walks.{trees_of}
use Rattle.core_graph.specs.Listings.{asks, NamesNodes, roots_by, roots_of, places_for, placed_out}

-- the vertex of a formula, and of a whole number
module _ (columns : List ℕ) (vertices : List Vertex) (nodes : List Plain) (ids : List ℕ) (r : AreRead columns vertices nodes ids) where
  pub node_within : (n : ℕ) (tree : plain.Tree) → slice_get (plain.trees nodes) n ≡ Some tree → n < length ids
  node_within n tree e =
      let inside : n < length (plain.trees nodes) = slice_get_within (plain.trees nodes) n tree e in
      omega (arith, length-trees nodes, r.count)

  id_at : (n : ℕ) (tree : plain.Tree) → slice_get (plain.trees nodes) n ≡ Some tree → Represents columns vertices (slice_index ids n) tree
  id_at n tree e = r.stand n (slice_index ids n) tree (slice_get-get_or ids n 0 (node_within n tree e)) (record { found = e })

  formula_case : (n : ℕ) (o : Option plain.Tree) → slice_get (plain.trees nodes) n ≡ o → plain.IsFormula o →
      Has vertices (slice_index ids n) (of_core (core (formula_over columns (plain.formula_in o))))
  formula_case n None e h = absurd h
  formula_case n (Some (plain.number a)) e h = absurd h
  formula_case n (Some (plain.formula p)) e h = id_at n (plain.formula p) e

  pub formula_there : (n : ℕ) → plain.IsFormula (slice_get (plain.trees nodes) n) → Has vertices (slice_index ids n) (of_core (core (formula_over columns (plain.node_formula (plain.trees nodes) n))))
  formula_there n h = formula_case n (slice_get (plain.trees nodes) n) refl h

  number_case : (n : ℕ) (o : Option plain.Tree) → slice_get (plain.trees nodes) n ≡ o → plain.IsNumber o → Has vertices (slice_index ids n) (of_term (term_over columns (plain.term_in o)))
  number_case n None e h = absurd h
  number_case n (Some (plain.formula p)) e h = absurd h
  number_case n (Some (plain.number a)) e h = id_at n (plain.number a) e

  pub number_there : (n : ℕ) → plain.IsNumber (slice_get (plain.trees nodes) n) → Has vertices (slice_index ids n) (of_term (term_over columns (plain.node_term (plain.trees nodes) n)))
  number_there n h = number_case n (slice_get (plain.trees nodes) n) refl h

  formula_within : (n : ℕ) (o : Option plain.Tree) → slice_get (plain.trees nodes) n ≡ o → plain.IsFormula o → n < length ids
  formula_within n None e h = absurd h
  formula_within n (Some (plain.number a)) e h = absurd h
  formula_within n (Some (plain.formula p)) e h = node_within n (plain.formula p) e

  pub formula_named : (n : ℕ) → plain.IsFormula (slice_get (plain.trees nodes) n) → n < length ids
  formula_named n h = formula_within n (slice_get (plain.trees nodes) n) refl h

  number_within : (n : ℕ) (o : Option plain.Tree) → slice_get (plain.trees nodes) n ≡ o → plain.IsNumber o → n < length ids
  number_within n None e h = absurd h
  number_within n (Some (plain.formula p)) e h = absurd h
  number_within n (Some (plain.number a)) e h = node_within n (plain.number a) e

  pub number_named : (n : ℕ) → plain.IsNumber (slice_get (plain.trees nodes) n) → n < length ids
  number_named n h = number_within n (slice_get (plain.trees nodes) n) refl h

  -- each node has a vertex
  stands_within : (n : ℕ) (tree : plain.Tree) → Represents columns vertices n tree → n < length vertices
  stands_within n (plain.number a) h = h.within
  stands_within n (plain.formula p) h = h.within

  pub ids_within : All (λ n. n < length vertices) ids
  ids_within k d l =
      let inside : k < length (plain.trees nodes) = omega (arith, length-trees nodes, r.count) in
      let tree : plain.Tree = get_or (plain.trees nodes) k (plain.formula always) in
      let there : slice_get (plain.trees nodes) k ≡ Some tree = slice_get-get_or (plain.trees nodes) k (plain.formula always) inside in
      stands_within (get_or ids k d) tree (r.stand k (get_or ids k d) tree (slice_get-get_or ids k d l) (record { found = there }))

  pub out_named : (o : PlainOut) → NamesFormulas (plain.trees nodes) o → NamesNodes (length ids) o
  out_named (Formula e n name) h = formula_named n h
  out_named (Contract e n m name) h = (formula_named n h.0, formula_named m h.1)

  pub outs_named : (outs : List PlainOut) → All (NamesFormulas (plain.trees nodes)) outs → All (NamesNodes (length ids)) outs
  outs_named outs h = λ k d l. out_named (get_or outs k d) (h k d l)

  -- roots are core formulas
  roots_by_are : (p : Part) (o : PlainOut) → NamesFormulas (plain.trees nodes) o →
      trees_of vertices (roots_by p ids o) ≡ map of_core (if asks p (asked_by (plain.trees nodes) o).engine then cores_of_output (asked_over columns (asked_by (plain.trees nodes) o)).output else [])
  roots_by_are p (Formula e n name) h = go (asks p e)
    where
      go : (b : Bool) → trees_of vertices (if b then slice_index ids n ∷ [] else [])
          ≡ map of_core (if b then core (formula_over columns (plain.node_formula (plain.trees nodes) n)) ∷ [] else [])
      go true = ap (λ t. t ∷ []) (formula_there n h).is
      go false = refl
  roots_by_are p (Contract e n m name) h = go (asks p e)
    where
      go : (b : Bool) → trees_of vertices (if b then slice_index ids n ∷ slice_index ids m ∷ [] else [])
          ≡ map of_core (if b then core (formula_over columns (plain.node_formula (plain.trees nodes) n)) ∷ core (formula_over columns (plain.node_formula (plain.trees nodes) m)) ∷ [] else [])
      go true = ap₂ (λ t u. t ∷ u ∷ []) (formula_there n h.0).is (formula_there m h.1).is
      go false = refl

  pub roots_are : (p : Part) (outs : List PlainOut) → Each (NamesFormulas (plain.trees nodes)) outs →
      trees_of vertices (roots_of p ids outs) ≡ map of_core (flat_map (λ a. if asks p a.engine then cores_of_output a.output else []) (map (asked_over columns) (map (asked_by (plain.trees nodes)) outs)))
  roots_are p [] h = refl
  roots_are p (o ∷ outs) h =
      let a : Asked = asked_over columns (asked_by (plain.trees nodes) o) in
      let rest : List Asked = map (asked_over columns) (map (asked_by (plain.trees nodes)) outs) in
      map-append (tree_at (trees vertices)) (roots_by p ids o) (roots_of p ids outs)
      ∙ (ap₂ ◌++◌ (roots_by_are p o h.0) (roots_are p outs h.1)
      ∙ sym (map-append of_core (if asks p a.engine then cores_of_output a.output else []) (flat_map (λ a. if asks p a.engine then cores_of_output a.output else []) rest)))

  -- outputs by the places of their formulas
  module _ (all : List Asked) (ft pt : List ℕ) (place : (e : Engine) (p : Core) (n : ℕ) → listed same p (subformulas e all) ≡ true → Has vertices n (of_core p) → slice_index (places_for e ft pt) n ≡ place_of same p (subformulas e all)) where
    out_is : (o : PlainOut) → NamesFormulas (plain.trees nodes) o →
        Each (λ p. listed same p (subformulas (asked_by (plain.trees nodes) o).engine all) ≡ true) (cores_of_output (asked_over columns (asked_by (plain.trees nodes) o)).output) →
        placed_out ids ft pt o ≡ out_by (subformulas (asked_by (plain.trees nodes) o).engine all) (asked_by (plain.trees nodes) o).engine (asked_by (plain.trees nodes) o).name (asked_over columns (asked_by (plain.trees nodes) o)).output
    out_is (Formula e n name) h l =
        ap (λ k. out.Formula e k name) (place e (core (formula_over columns (plain.node_formula (plain.trees nodes) n))) (slice_index ids n) l.0 (formula_there n h))
    out_is (Contract e n m name) h l =
        ap₂ (λ j k. out.Contract e j k name) (place e (core (formula_over columns (plain.node_formula (plain.trees nodes) n))) (slice_index ids n) l.0 (formula_there n h.0))
        (place e (core (formula_over columns (plain.node_formula (plain.trees nodes) m))) (slice_index ids m) l.1.0 (formula_there m h.1))

    pub outs_are : (outs : List PlainOut) → Each (NamesFormulas (plain.trees nodes)) outs →
        Each (λ a. Each (λ p. listed same p (subformulas a.engine all) ≡ true) (cores_of_output a.output)) (map (asked_over columns) (map (asked_by (plain.trees nodes)) outs)) →
        map (placed_out ids ft pt) outs ≡ map (λ a. out_by (subformulas a.engine all) a.engine a.name a.output) (map (asked_over columns) (map (asked_by (plain.trees nodes)) outs))
    outs_are [] h l = refl
    outs_are (o ∷ outs) h l = ap₂ ◌∷◌ (out_is o h.0 l.0) (outs_are outs h.1 l.1)

each_listed : (P : Core → Type 0) (ps : List Core) (p : Core) → Each P ps → listed same p ps ≡ true → P p
unfolding listed
each_listed P [] p h l = absurd (false≢true l)
each_listed P (q ∷ ps) p h l = go (same p q) refl l (each_listed P ps p h.1)
  where
    go : (b : Bool) → same p q ≡ b → (b || listed same p ps) ≡ true → (listed same p ps ≡ true → P p) → P p
    go true e l f = subst P (sym (same_sound p q e)) h.0
    go false e l f = f l

-- the atoms that an engine loads are listed
pub loaded : (e : Engine) (outs : List Asked) (a : Atom) → listed same (catom a) (subformulas e outs) ≡ true → listed same_expression (truth a) (bz_expressions outs) ≡ true
loaded e outs a h =
    let have : Each (Deep (HasAtom (bz_expressions outs))) (cores_for e outs)
    = cores_of_engine (Deep (HasAtom (bz_expressions outs))) e outs (fold_have (all_cores outs) []) in
    each_listed (HasAtom (bz_expressions outs)) (subformulas e outs) (catom a) (fold_all (HasAtom (bz_expressions outs)) (cores_for e outs) [] have tt) h

pub outputs_listed : (outs : List Asked) → Each (λ a. Each (λ p. listed same p (subformulas a.engine outs) ≡ true) (cores_of_output a.output)) outs
outputs_listed outs = all_listed outs

-- roots are vertices that stand for nodes
root_inside : (size : ℕ) (ids : List ℕ) → All (λ k. k < size) ids → (n : ℕ) → n < length ids → slice_index ids n < size
root_inside size ids h n l = h n 0 l

roots_by_inside : (size : ℕ) (ids : List ℕ) → All (λ k. k < size) ids → (p : Part) (o : PlainOut) → NamesNodes (length ids) o → Each (λ k. k < size) (roots_by p ids o)
roots_by_inside size ids h p (Formula e n name) l = go (asks p e)
  where
    go : (b : Bool) → Each (λ k. k < size) (if b then slice_index ids n ∷ [] else [])
    go true = (root_inside size ids h n l, tt)
    go false = tt
roots_by_inside size ids h p (Contract e n m name) l = go (asks p e)
  where
    go : (b : Bool) → Each (λ k. k < size) (if b then slice_index ids n ∷ slice_index ids m ∷ [] else [])
    go true = (root_inside size ids h n l.0, (root_inside size ids h m l.1, tt))
    go false = tt

roots_each_inside : (size : ℕ) (ids : List ℕ) → All (λ k. k < size) ids → (p : Part) (outs : List PlainOut) → Each (NamesNodes (length ids)) outs → Each (λ k. k < size) (roots_of p ids outs)
roots_each_inside size ids h p [] l = tt
roots_each_inside size ids h p (o ∷ outs) l =
    each_append (λ k. k < size) (roots_by p ids o) (roots_of p ids outs) (roots_by_inside size ids h p o l.0) (roots_each_inside size ids h p outs l.1)

pub roots_inside : (size : ℕ) (ids : List ℕ) → All (λ k. k < size) ids → (p : Part) (outs : List PlainOut) → All (NamesNodes (length ids)) outs → All (λ k. k < size) (roots_of p ids outs)
roots_inside size ids h p outs l = all_from_each (λ k. k < size) (roots_of p ids outs) (roots_each_inside size ids h p outs (each_from_all (NamesNodes (length ids)) outs l))
