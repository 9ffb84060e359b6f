-- One more place.
use Rattle.std.proofs.Common.{◌≡◌, ◌<◌, ℕ, length, get_or, subst, sym, ◌∙◌}
use Rattle.std.proofs.lemmas.List.{length-set, get_or_default}
use Rattle.core_graph.proofs.Lists.{place_more}
use Rattle.core_graph.proofs.listing.places.Goals as goal

pub loop-i-preserved : goal.loop-i-preserved
loop-i-preserved c =
    let id : ℕ = get_or c.args.ids.now c.loop-i.i 0 in
    let same : get_or c.args.ids.now c.loop-i.i id ≡ id = get_or_default c.args.ids.now c.loop-i.i id 0 c.loop-i-test.true in
    let inside : id < length c.loop-i.places.items = subst (λ (n : ℕ). id < n) (sym c.loop-i.invariant.count) (c.requires.there c.loop-i.i 0 c.loop-i-test.true) in
    record {
      count = length-set c.loop-i.places.items id c.loop-i.i ∙ c.loop-i.invariant.count;
      placed = place_more c.args.ids.now c.loop-i.places.items c.loop-i.i id c.loop-i-test.true same c.requires.once inside c.loop-i.invariant.placed;
    }
