use Rattle.std.proofs.Common.{◌≡◌, ℕ, ◌+◌, false, List, [], ◌∷◌, ◌++◌, length, get_or, sum, arith, refl, ap, subst, sym, ◌∙◌}
use Rattle.std.proofs.lemmas.Grind.{common_steps}
use Rattle.std.proofs.lemmas.List.{length-map, length-replicate, take_all}
use Rattle.mltl_base.specs.declared.program.Program.{Program}
use Rattle.mltl_base.specs.Queues.{boxes_of}
use Rattle.obs_verify.proofs.RunLaws.{runs_past}
use Rattle.pt_boxes.specs.declared.boxes.Span.{Span}
use Rattle.pt_boxes.specs.declared.rows.Node.{Node}
use Rattle.pt_boxes.proofs.Making.{Started, made_stands, started_more, started_none}
use Rattle.pt_boxes.proofs.engine.Pt.make.Goals as goal

pub loop-size-init : goal.loop-size-init
loop-size-init c = record {
  room = c.in_ok-nodes.ensures.exact;
  count = grind (arith, common_steps);
  total = grind (arith, common_steps);
  started = started_none c.as_slice-sizes.result.now c.in_ok-nodes.nodes.items;
}

pub loop-size-preserved : goal.loop-size-preserved
loop-size-preserved c =
    let sizes : List ℕ = c.as_slice-sizes.result.now in
    let nodes : List Node = c.loop-size.nodes.items in
    let size : ℕ = get_or sizes c.loop-size.size-index 0 in
    let new : Node = record { boxes = c.none.result; truth = false; seat = record { start = c.loop-size.start; size = size } } in
    let ok = c.loop-size.nodes.ok.0 in
    let count : length nodes ≡ c.loop-size.size-index = omega (arith, c.loop-size.invariant.count) in
    let items : c.push_reserved.new.self.items ≡ nodes ++ new ∷ [] = c.push_reserved.ensures.items in
    record {
      room = c.push_reserved.ensures.capacity ∙ c.loop-size.invariant.room;
      count = c.push_reserved.ensures.len ∙ ap (λ (k : ℕ). k + 1) c.loop-size.invariant.count;
      total = grind (arith, common_steps, c.loop-size.invariant.total);
      started = subst (λ (ns : List Node). Started sizes ns (c.loop-size.start + size) (c.loop-size.size-index + 1)) (sym items)
          (started_more sizes nodes c.loop-size.start c.loop-size.size-index new count c.loop-size.invariant.started (record { boxes = c.none.ensures; size = refl }) refl);
    }

pub overflow_add-start : goal.overflow_add-start
overflow_add-start c =
    let program : Program = c.args.checked.now in
    let runs = runs_past program c.program-program.ensures.layout c.program-program.ensures.well_formed in
    let sizes : c.as_slice-sizes.result.now ≡ program.sizes.pt = c.as_slice-sizes.ensures ∙ ap (λ (p : Program). p.sizes.pt) c.program-program.ensures.program in
    grind (arith, common_steps, runs.few, sizes, c.loop-size.invariant.total)

pub returns : goal.returns
returns c =
    let program : Program = c.args.checked.now in
    let runs = runs_past program c.program-program.ensures.layout c.program-program.ensures.well_formed in
    let sizes : c.as_slice-sizes.result.now ≡ program.sizes.pt = c.as_slice-sizes.ensures ∙ ap (λ (p : Program). p.sizes.pt) c.program-program.ensures.program in
    let empty : Span = record { first = 0; last = 0 } in
    let ok = c.loop-size.nodes.ok.0 in
    let count : length program.sizes.pt ≡ length program.pt = ap (λ (ns : List ℕ). length ns) runs.sizes ∙ length-map program.pt boxes_of in
    let end : c.loop-size.size-index ≡ length program.pt = omega (arith, ap (λ (ns : List ℕ). length ns) sizes) in
    let long : c.loop-size.start ≡ length c.in_ok-slab.slab = sym (ap (λ (spans : List Span). length spans) c.in_ok-slab.ensures ∙ length-replicate c.loop-size.start empty) in
    let nodes : c.loop-size.nodes.items ≡ c.of.result = sym c.of.ensures in
    let started : Started program.sizes.pt c.of.result (length c.in_ok-slab.slab) (length program.pt) =
    subst (λ (ns : List Node). Started program.sizes.pt ns (length c.in_ok-slab.slab) (length program.pt)) nodes
    (subst (λ (ns : List ℕ). Started ns c.loop-size.nodes.items (length c.in_ok-slab.slab) (length program.pt)) sizes
    (subst (λ (k : ℕ). Started c.as_slice-sizes.result.now c.loop-size.nodes.items k (length program.pt)) long
    (subst (λ (k : ℕ). Started c.as_slice-sizes.result.now c.loop-size.nodes.items c.loop-size.start k) end c.loop-size.invariant.started))) in
    record {
      stands = made_stands program _ runs (omega (arith, c.loop-size.invariant.count, ap (λ (ns : List Node). length ns) nodes))
          started
          refl
          (sym long ∙ c.loop-size.invariant.total ∙ ap (λ (ns : List ℕ). sum ns) (take_all c.loop-size.size-index c.as_slice-sizes.result.now (omega arith) ∙ sizes));
    }
