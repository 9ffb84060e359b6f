-- The beginning and the end of a walk.
use Rattle.std.proofs.Common.{ℕ, false, replicate, get_or, ap, ◌∙◌}
use Rattle.std.proofs.lemmas.Option.{slice_get-get_or}
use Rattle.core_graph.specs.Walks.{trees_of}
use Rattle.core_graph.proofs.Walking.{start_walk}
use Rattle.core_graph.proofs.walk.completion.Goals as goal

pub loop-root-init : goal.loop-root-init
loop-root-init c = record {
  walk = start_walk c.args.forest.now c.new.result.items c.in_ok-vec.field-0.items c.new.ensures.items
      (c.in_ok-vec.ensures.items_if_clones_equal (λ y h. h) ∙ ap (λ (n : ℕ). replicate n false) c.len.ensures);
  visited = ap (trees_of c.args.forest.now) c.new.ensures.items;
}

pub returns-clause-within : goal.returns-clause-within
returns-clause-within c = λ k d l.
    c.loop-root.invariant.walk.within k (get_or c.loop-root.walk.order.items k d) (slice_get-get_or c.loop-root.walk.order.items k d l)
