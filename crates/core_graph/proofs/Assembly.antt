-- The lists of a graph are those of its specification.

use Rattle.std.proofs.Common.{◌≡◌, ℕ, ◌<◌, ◌≤◌, true, filter, if◌then◌else◌, List, [], All, flat_map, length, map, slice_index, sym, subst, ap, ◌∙◌, arith, inl, inr}
use Rattle.std.proofs.lemmas.List.{length-map}
use Rattle.mltl_base.specs.declared.interval.Engine.{Engine}
use Rattle.mltl_base.specs.declared.interval.Engine.TheVariants as engine
use Rattle.mltl_base.specs.declared.interval.Part.{Part}
use Rattle.mltl_base.specs.declared.interval.Part.TheVariants.{Bz, Ft, Pt}
use Rattle.mltl_base.specs.declared.limits.TheConstants.{MAX_INSTRUCTIONS}
use Rattle.mltl_base.specs.Atoms.{Atom}
use Rattle.mltl_base.specs.Formula.{Core, catom}
use Rattle.mltl_base.specs.Programs.{truth}
use Rattle.mltl_base.specs.Subformulas.{same_expression, same, listed, place_of, cores_of_output, all_cores, cores_for, subformulas, bz_expressions, bz_list, ft_list, pt_list, out_list}
use Rattle.mltl_base.proofs.Sameness.{same_sound, same_self}
use Rattle.mltl_base.proofs.Unfolding.{each_from_all}
use Rattle.c2po_ast.specs.declared.nodes.Plain.{Plain}
use Rattle.c2po_ast.specs.declared.nodes.PlainOut.{PlainOut}
use Rattle.c2po_ast.specs.Nodes as plain
use Rattle.c2po_ast.specs.Outputs.{NamesFormulas}
use Rattle.core_graph.specs.declared.vertex.Vertex.{Vertex}
use Rattle.core_graph.specs.Trees.{LabelTree, completed}
use Rattle.core_graph.specs.Vertices.{Has}
use Rattle.core_graph.specs.Images.{of_atom, of_expression, of_core}
use Rattle.core_graph.specs.Limits.{AreFew, AreMany}
use Rattle.core_graph.specs.Reading.{AreRead}
use Rattle.core_graph.specs.Walks.{trees_of}
use Rattle.core_graph.specs.Listings.{asks, is_in, listed_trees, asked_of_nodes, roots_of, IsListing, vertex_at, bz_op_of, ft_op_of, pt_op_of, places_for, placed_out}
use Rattle.core_graph.proofs.Orders.{completed_closed}
use Rattle.core_graph.proofs.Outputs.{roots_are, outs_are, loaded, outputs_listed}
use Rattle.core_graph.proofs.Parts.{cores_completed, expressions_completed}
use Rattle.core_graph.proofs.Placing.{IsBz, IsEngine, place_is, expression_place, bz_ops_are, ft_ops_are, pt_ops_are}

module _ (columns : List ℕ) (vertices : List Vertex) (nodes : List Plain) (ids : List ℕ) (outs : List PlainOut) (read : AreRead columns vertices nodes ids) (named : All (NamesFormulas (plain.trees nodes)) outs) where
  part_roots : (p : Part) →
      trees_of vertices (roots_of p ids outs) ≡ map of_core (flat_map (λ a. if asks p a.engine then cores_of_output a.output else []) (asked_of_nodes columns nodes outs))
  part_roots p = roots_are columns vertices nodes ids read p outs (each_from_all (NamesFormulas (plain.trees nodes)) outs named)

  pub bz_trees : listed_trees vertices Bz ids outs ≡ map of_expression (bz_expressions (asked_of_nodes columns nodes outs))
  bz_trees = ap (λ ts. filter (is_in Bz) (completed ts)) (part_roots Bz) ∙ expressions_completed (all_cores (asked_of_nodes columns nodes outs))

  pub ft_trees : listed_trees vertices Ft ids outs ≡ map of_core (subformulas engine.Ft (asked_of_nodes columns nodes outs))
  ft_trees = ap (λ ts. filter (is_in Ft) (completed ts)) (part_roots Ft) ∙ cores_completed (cores_for engine.Ft (asked_of_nodes columns nodes outs))

  pub pt_trees : listed_trees vertices Pt ids outs ≡ map of_core (subformulas engine.Pt (asked_of_nodes columns nodes outs))
  pt_trees = ap (λ ts. filter (is_in Pt) (completed ts)) (part_roots Pt) ∙ cores_completed (cores_for engine.Pt (asked_of_nodes columns nodes outs))

  -- a part that is too long
  pub many_bz : MAX_INSTRUCTIONS < length (listed_trees vertices Bz ids outs) → AreMany (asked_of_nodes columns nodes outs)
  many_bz h = inl (subst (λ n. MAX_INSTRUCTIONS < n) (ap length bz_trees ∙ length-map (bz_expressions (asked_of_nodes columns nodes outs)) of_expression) h)

  pub many_ft : MAX_INSTRUCTIONS < length (listed_trees vertices Ft ids outs) → AreMany (asked_of_nodes columns nodes outs)
  many_ft h = inr (inl (subst (λ n. MAX_INSTRUCTIONS < n) (ap length ft_trees ∙ length-map (subformulas engine.Ft (asked_of_nodes columns nodes outs)) of_core) h))

  pub many_pt : MAX_INSTRUCTIONS < length (listed_trees vertices Pt ids outs) → AreMany (asked_of_nodes columns nodes outs)
  many_pt h = inr (inr (subst (λ n. MAX_INSTRUCTIONS < n) (ap length pt_trees ∙ length-map (subformulas engine.Pt (asked_of_nodes columns nodes outs)) of_core) h))

  module _ (bz_ids bz_places ft_ids ft_places pt_ids pt_places : List ℕ)
      (bz : IsListing vertices (listed_trees vertices Bz ids outs) bz_ids bz_places)
      (ft : IsListing vertices (listed_trees vertices Ft ids outs) ft_ids ft_places)
      (pt : IsListing vertices (listed_trees vertices Pt ids outs) pt_ids pt_places) where
    bz_listing : IsListing vertices (map of_expression (bz_expressions (asked_of_nodes columns nodes outs))) bz_ids bz_places
    bz_listing = subst (λ ts. IsListing vertices ts bz_ids bz_places) bz_trees bz

    ft_listing : IsListing vertices (map of_core (subformulas engine.Ft (asked_of_nodes columns nodes outs))) ft_ids ft_places
    ft_listing = subst (λ ts. IsListing vertices ts ft_ids ft_places) ft_trees ft

    pt_listing : IsListing vertices (map of_core (subformulas engine.Pt (asked_of_nodes columns nodes outs))) pt_ids pt_places
    pt_listing = subst (λ ts. IsListing vertices ts pt_ids pt_places) pt_trees pt

    is_bz : IsBz vertices (completed (trees_of vertices (roots_of Bz ids outs))) (bz_expressions (asked_of_nodes columns nodes outs)) bz_ids bz_places
    is_bz = record { forest = read.forest; closed = completed_closed (trees_of vertices (roots_of Bz ids outs)); part = bz_trees; listing = bz_listing }

    loads : (e : Engine) (a : Atom) (n : ℕ) → listed same (catom a) (subformulas e (asked_of_nodes columns nodes outs)) ≡ true → Has vertices n (of_atom a) →
        slice_index bz_places n ≡ place_of same_expression (truth a) (bz_expressions (asked_of_nodes columns nodes outs))
    loads e a n h g =
        expression_place vertices (completed (trees_of vertices (roots_of Bz ids outs))) (bz_expressions (asked_of_nodes columns nodes outs)) bz_ids bz_places is_bz (truth a) n (loaded e (asked_of_nodes columns nodes outs) a h) g

    is_ft : IsEngine vertices (completed (trees_of vertices (roots_of Ft ids outs))) (subformulas engine.Ft (asked_of_nodes columns nodes outs)) ft_ids ft_places (bz_expressions (asked_of_nodes columns nodes outs)) bz_places
    is_ft = record { forest = read.forest; closed = completed_closed (trees_of vertices (roots_of Ft ids outs)); part = ft_trees; listing = ft_listing; loaded = loads engine.Ft }

    is_pt : IsEngine vertices (completed (trees_of vertices (roots_of Pt ids outs))) (subformulas engine.Pt (asked_of_nodes columns nodes outs)) pt_ids pt_places (bz_expressions (asked_of_nodes columns nodes outs)) bz_places
    is_pt = record { forest = read.forest; closed = completed_closed (trees_of vertices (roots_of Pt ids outs)); part = pt_trees; listing = pt_listing; loaded = loads engine.Pt }

    pub bz_made : map (λ n. bz_op_of bz_places (vertex_at vertices n)) bz_ids ≡ bz_list (asked_of_nodes columns nodes outs)
    bz_made = bz_ops_are vertices (completed (trees_of vertices (roots_of Bz ids outs))) (bz_expressions (asked_of_nodes columns nodes outs)) bz_ids bz_places is_bz

    pub ft_made : map (λ n. ft_op_of bz_places ft_places (vertex_at vertices n)) ft_ids ≡ ft_list (asked_of_nodes columns nodes outs)
    ft_made =
        ft_ops_are vertices (completed (trees_of vertices (roots_of Ft ids outs))) (subformulas engine.Ft (asked_of_nodes columns nodes outs)) ft_ids ft_places
        (bz_expressions (asked_of_nodes columns nodes outs)) bz_places is_ft

    pub pt_made : map (λ n. pt_op_of bz_places pt_places (vertex_at vertices n)) pt_ids ≡ pt_list (asked_of_nodes columns nodes outs)
    pt_made =
        pt_ops_are vertices (completed (trees_of vertices (roots_of Pt ids outs))) (subformulas engine.Pt (asked_of_nodes columns nodes outs)) pt_ids pt_places
        (bz_expressions (asked_of_nodes columns nodes outs)) bz_places is_pt

    engine_place : (e : Engine) (p : Core) (n : ℕ) → listed same p (subformulas e (asked_of_nodes columns nodes outs)) ≡ true → Has vertices n (of_core p) →
        slice_index (places_for e ft_places pt_places) n ≡ place_of same p (subformulas e (asked_of_nodes columns nodes outs))
    engine_place engine.Ft p n h g =
        place_is same same_sound same_self of_core vertices ft_ids ft_places (subformulas engine.Ft (asked_of_nodes columns nodes outs)) read.forest ft_listing p n h g
    engine_place engine.Pt p n h g =
        place_is same same_sound same_self of_core vertices pt_ids pt_places (subformulas engine.Pt (asked_of_nodes columns nodes outs)) read.forest pt_listing p n h g

    pub outs_made : map (placed_out ids ft_places pt_places) outs ≡ out_list (asked_of_nodes columns nodes outs)
    outs_made =
        outs_are columns vertices nodes ids read (asked_of_nodes columns nodes outs) ft_places pt_places engine_place outs
        (each_from_all (NamesFormulas (plain.trees nodes)) outs named) (outputs_listed (asked_of_nodes columns nodes outs))

    short : {X : Type 0} (image : X → LabelTree) (xs : List X) (ns places : List ℕ) → IsListing vertices (map image xs) ns places → length xs ≤ MAX_INSTRUCTIONS
    short image xs ns places l =
        let size : length ns ≡ length xs = sym (length-map ns _) ∙ (ap length l.in_order ∙ length-map xs image) in
        let few : length ns ≤ MAX_INSTRUCTIONS = l.few in
        omega arith

    pub few_made : AreFew (asked_of_nodes columns nodes outs)
    few_made = record {
      bz = short of_expression (bz_expressions (asked_of_nodes columns nodes outs)) bz_ids bz_places bz_listing;
      ft = short of_core (subformulas engine.Ft (asked_of_nodes columns nodes outs)) ft_ids ft_places ft_listing;
      pt = short of_core (subformulas engine.Pt (asked_of_nodes columns nodes outs)) pt_ids pt_places pt_listing;
    }
