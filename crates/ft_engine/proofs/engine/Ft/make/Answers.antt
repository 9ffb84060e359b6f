use Rattle.std.proofs.Common.{◌≡◌, ℕ, ◌+◌, List, [], ◌∷◌, ◌++◌, length, get_or, sum, arith, refl, ap, subst, sym, ◌∙◌}
use Rattle.std.proofs.lemmas.Grind.{common_steps}
use Rattle.std.proofs.lemmas.List.{length-replicate, take_all}
use Rattle.mltl_base.specs.declared.operators.FtOp.{FtOp}
use Rattle.mltl_base.specs.declared.program.Program.{Program}
use Rattle.mltl_base.proofs.Seats.{none_seated}
use Rattle.obs_verify.proofs.RunLaws.{runs_future}
use Rattle.scq_ring.specs.declared.Slot.{Slot}
use Rattle.ft_engine.specs.declared.queue.Queue.{Queue}
use Rattle.ft_engine.specs.Queues.{no_queue}
use Rattle.ft_engine.proofs.Making.{Started, made_sound, made_stands, started_as, started_more}
use Rattle.ft_engine.proofs.Standings.{sizes_count}
use Rattle.ft_engine.proofs.engine.Ft.make.Goals as goal

pub loop-i-init : goal.loop-i-init
loop-i-init c = record {
  room = c.in_ok-queues.ensures.exact;
  count = grind (arith, common_steps);
  total = grind (arith, common_steps);
  started = record { fresh = λ j h. absurd (omega arith); seated = none_seated no_queue (λ queue. queue.seat) c.in_ok-queues.queues.items };
}

pub loop-i-preserved : goal.loop-i-preserved
loop-i-preserved c =
    let ops : List FtOp = c.as_slice-ops.result.now in
    let sizes : List ℕ = c.as_slice-sizes.result.now in
    let queues : List Queue = c.loop-i.queues.items in
    let size : ℕ = get_or sizes c.loop-i.i 0 in
    let new : Queue = record { ring = c.make.result; reads_at = c.first_read.result; seat = record { start = c.loop-i.start; size = size } } in
    let ok = c.loop-i.queues.ok.0 in
    let count : length queues ≡ c.loop-i.i = omega (arith, c.loop-i.invariant.count) in
    let items : c.push_reserved.new.self.items ≡ queues ++ new ∷ [] = c.push_reserved.ensures.items in
    record {
      room = c.push_reserved.ensures.capacity ∙ c.loop-i.invariant.room;
      count = c.push_reserved.ensures.len ∙ ap (λ (k : ℕ). k + 1) c.loop-i.invariant.count;
      total = grind (arith, common_steps, c.loop-i.invariant.total);
      started = subst (λ (qs : List Queue). Started ops sizes qs (c.loop-i.start + size) (c.loop-i.i + 1)) (sym items)
          (started_more ops sizes queues c.loop-i.start c.loop-i.i new count c.loop-i.invariant.started
          (record { frontier = c.make.ensures.frontier; low = c.make.ensures.low; belongs = c.make.ensures.belongs; reads_at = c.first_read.ensures; size = refl }) refl);
    }

pub bounds-sizes-i : goal.bounds-sizes-i
bounds-sizes-i c =
    let program : Program = c.args.checked.now in
    let runs = runs_future program c.program-program.ensures.layout c.program-program.ensures.well_formed in
    let same = c.program-program.ensures.program in
    let ops : c.as_slice-ops.result.now ≡ program.ft = c.as_slice-ops.ensures ∙ ap (λ (p : Program). p.ft) same in
    let sizes : c.as_slice-sizes.result.now ≡ program.sizes.ft = c.as_slice-sizes.ensures ∙ ap (λ (p : Program). p.sizes.ft) same in
    omega (arith, sizes_count program runs, ap (λ (xs : List FtOp). length xs) ops, ap (λ (ns : List ℕ). length ns) sizes)

pub overflow_add-start : goal.overflow_add-start
overflow_add-start c =
    let program : Program = c.args.checked.now in
    let runs = runs_future program c.program-program.ensures.layout c.program-program.ensures.well_formed in
    let sizes : c.as_slice-sizes.result.now ≡ program.sizes.ft = c.as_slice-sizes.ensures ∙ ap (λ (p : Program). p.sizes.ft) c.program-program.ensures.program in
    grind (arith, common_steps, runs.few, sizes, c.loop-i.invariant.total)

pub invariant_of-result : goal.invariant_of-result
invariant_of-result c =
    let program : Program = c.args.checked.now in
    let runs = runs_future program c.program-program.ensures.layout c.program-program.ensures.well_formed in
    let same = c.program-program.ensures.program in
    let ops : c.as_slice-ops.result.now ≡ program.ft = c.as_slice-ops.ensures ∙ ap (λ (p : Program). p.ft) same in
    let sizes : c.as_slice-sizes.result.now ≡ program.sizes.ft = c.as_slice-sizes.ensures ∙ ap (λ (p : Program). p.sizes.ft) same in
    let ok = c.loop-i.queues.ok.0 in
    let end : c.loop-i.i ≡ length program.ft = omega (arith, ap (λ (xs : List FtOp). length xs) ops) in
    let long : c.loop-i.start ≡ length c.in_ok-slab.slab = sym (ap (λ (slots : List Slot). length slots) c.in_ok-slab.ensures ∙ length-replicate c.loop-i.start c.clear.result) in
    let queues : c.loop-i.queues.items ≡ c.of-queues.result = sym c.of-queues.ensures in
    record {
      sound = made_sound program _ _ runs (omega (arith, c.loop-i.invariant.count, end, ap (λ (qs : List Queue). length qs) queues))
          (subst (λ (qs : List Queue). Started program.ft program.sizes.ft qs (length c.in_ok-slab.slab) (length program.ft)) queues (started_as ops sizes long end c.loop-i.invariant.started));
    }

pub returns : goal.returns
returns c =
    let program : Program = c.args.checked.now in
    let runs = runs_future program c.program-program.ensures.layout c.program-program.ensures.well_formed in
    let same = c.program-program.ensures.program in
    let ops : c.as_slice-ops.result.now ≡ program.ft = c.as_slice-ops.ensures ∙ ap (λ (p : Program). p.ft) same in
    let sizes : c.as_slice-sizes.result.now ≡ program.sizes.ft = c.as_slice-sizes.ensures ∙ ap (λ (p : Program). p.sizes.ft) same in
    let ok = c.loop-i.queues.ok.0 in
    let end : c.loop-i.i ≡ length program.ft = omega (arith, ap (λ (xs : List FtOp). length xs) ops) in
    let long : c.loop-i.start ≡ length c.in_ok-slab.slab = sym (ap (λ (slots : List Slot). length slots) c.in_ok-slab.ensures ∙ length-replicate c.loop-i.start c.clear.result) in
    let queues : c.loop-i.queues.items ≡ c.of-queues.result = sym c.of-queues.ensures in
    record {
      stands = made_stands program _ runs (omega (arith, c.loop-i.invariant.count, end, ap (λ (qs : List Queue). length qs) queues))
          (subst (λ (qs : List Queue). Started program.ft program.sizes.ft qs (length c.in_ok-slab.slab) (length program.ft)) queues (started_as ops sizes long end c.loop-i.invariant.started))
          (sym long ∙ c.loop-i.invariant.total ∙ ap (λ (ns : List ℕ). sum ns) (take_all c.loop-i.i c.as_slice-sizes.result.now (omega (arith, sizes_count program runs, ap (λ (ns : List ℕ). length ns) sizes, end)) ∙ sizes));
    }
