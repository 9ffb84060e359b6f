-- The lists are those of the outputs' nodes, part by part.
use Rattle.std.proofs.Common.{◌≡◌, ◌<◌, Err, All, List, ℕ, length, map, subst, sym, ap, ◌∙◌}
use Rattle.std.proofs.lemmas.Result.{err_from_is_err_and}
use Rattle.core_graph.specs.declared.graph.GraphFault.TheVariants.{TooManyNodes}
use Rattle.core_graph.specs.Listings.{placed_out}
use Rattle.core_graph.proofs.Assembly.{many_bz, many_ft, many_pt, bz_made, ft_made, pt_made, outs_made, few_made}
use Rattle.core_graph.proofs.Lists.{all_within}
use Rattle.core_graph.proofs.graph.graph_in.Goals as goal

pub returns-in_err-bz-clause-too_many : goal.returns-in_err-bz-clause-too_many
returns-in_err-bz-clause-too_many c = λ columns nodes read named e.
    let p = err_from_is_err_and c.from_residual.result c.from_residual.ensures.1 in
    let fault : c.in_err-bz.field-0.0 ≡ TooManyNodes = cc (p.1, p.2, e) in
    many_bz columns c.args.forest.now nodes c.args.ids.now c.args.outs.now read named (c.in_err-bz.ensures.too_many (ap (λ f. Err f) fault))

pub returns-in_err-ft-clause-too_many : goal.returns-in_err-ft-clause-too_many
returns-in_err-ft-clause-too_many c = λ columns nodes read named e.
    let p = err_from_is_err_and c.from_residual-in_err-ft.result c.from_residual-in_err-ft.ensures.1 in
    let fault : c.in_err-ft.field-0.0 ≡ TooManyNodes = cc (p.1, p.2, e) in
    many_ft columns c.args.forest.now nodes c.args.ids.now c.args.outs.now read named (c.in_err-ft.ensures.too_many (ap (λ f. Err f) fault))

pub returns-in_err-pt-clause-too_many : goal.returns-in_err-pt-clause-too_many
returns-in_err-pt-clause-too_many c = λ columns nodes read named e.
    let p = err_from_is_err_and c.from_residual-in_err-pt.result c.from_residual-in_err-pt.ensures.1 in
    let fault : c.in_err-pt.field-0.0 ≡ TooManyNodes = cc (p.1, p.2, e) in
    many_pt columns c.args.forest.now nodes c.args.ids.now c.args.outs.now read named (c.in_err-pt.ensures.too_many (ap (λ f. Err f) fault))

pub bz_ops-requires-clause-there : goal.bz_ops-requires-clause-there
bz_ops-requires-clause-there c = all_within c.args.forest.now c.in_ok-bz.bz.ids.items c.in_ok-bz.ensures.listing.within

pub ft_ops-requires-clause-there : goal.ft_ops-requires-clause-there
ft_ops-requires-clause-there c = all_within c.args.forest.now c.in_ok-ft.ft.ids.items c.in_ok-ft.ensures.listing.within

pub pt_ops-requires-clause-there : goal.pt_ops-requires-clause-there
pt_ops-requires-clause-there c = all_within c.args.forest.now c.in_ok-pt.pt.ids.items c.in_ok-pt.ensures.listing.within

pub numbered_outs-requires-clause-ft : goal.numbered_outs-requires-clause-ft
numbered_outs-requires-clause-ft c =
    let size : length c.deref.result.now ≡ length c.args.forest.now = ap length c.deref.ensures.value ∙ c.in_ok-ft.ensures.listing.count in
    subst (λ (m : ℕ). All (λ n. n < m) c.args.ids.now) (sym size) c.requires.there

pub numbered_outs-requires-clause-pt : goal.numbered_outs-requires-clause-pt
numbered_outs-requires-clause-pt c =
    let size : length c.deref-2.result.now ≡ length c.args.forest.now = ap length c.deref-2.ensures.value ∙ c.in_ok-pt.ensures.listing.count in
    subst (λ (m : ℕ). All (λ n. n < m) c.args.ids.now) (sym size) c.requires.there

pub returns-clause-graph : goal.returns-clause-graph
returns-clause-graph c = λ columns nodes read named.
    let vertices = c.args.forest.now in
    let ids : List ℕ = c.args.ids.now in
    let outs = c.args.outs.now in
    let bz = c.in_ok-bz.bz in
    let ft = c.in_ok-ft.ft in
    let pt = c.in_ok-pt.pt in
    let listed = c.in_ok-bz.ensures.listing in
    let listed' = c.in_ok-ft.ensures.listing in
    let listed'' = c.in_ok-pt.ensures.listing in
    record {
      bz = c.in_ok-bz_list.ensures ∙ bz_made columns vertices nodes ids outs read named bz.ids.items bz.places.items ft.ids.items ft.places.items pt.ids.items pt.places.items listed listed' listed'';
      ft = c.in_ok-ft_list.ensures ∙ ft_made columns vertices nodes ids outs read named bz.ids.items bz.places.items ft.ids.items ft.places.items pt.ids.items pt.places.items listed listed' listed'';
      pt = c.in_ok-pt_list.ensures ∙ pt_made columns vertices nodes ids outs read named bz.ids.items bz.places.items ft.ids.items ft.places.items pt.ids.items pt.places.items listed listed' listed'';
      reports = c.in_ok-reports.ensures
          ∙ (ap (λ (ns : List ℕ). map (placed_out ids ns c.deref-2.result.now) outs) c.deref.ensures.value
          ∙ (ap (λ (ns : List ℕ). map (placed_out ids ft.places.items ns) outs) c.deref-2.ensures.value
          ∙ outs_made columns vertices nodes ids outs read named bz.ids.items bz.places.items ft.ids.items ft.places.items pt.ids.items pt.places.items listed listed' listed''));
    }

pub returns-clause-few : goal.returns-clause-few
returns-clause-few c = λ columns nodes read named.
    let bz = c.in_ok-bz.bz in
    let ft = c.in_ok-ft.ft in
    let pt = c.in_ok-pt.pt in
    few_made columns c.args.forest.now nodes c.args.ids.now c.args.outs.now read named bz.ids.items bz.places.items ft.ids.items ft.places.items pt.ids.items pt.places.items c.in_ok-bz.ensures.listing c.in_ok-ft.ensures.listing c.in_ok-pt.ensures.listing
