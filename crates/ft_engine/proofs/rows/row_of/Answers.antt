use Rattle.std.proofs.Common.{false, ◌≡◌, ℕ, suc, ◌+◌, ◌<◌, ◌≤◌, length, ◌^◌, List, ◌++◌, get_or, take, set, drop, arith, refl, subst, sym, ap, ◌∙◌}
use Rattle.mltl_base.specs.declared.operators.FtOp.{FtOp}
use Rattle.scq_ring.specs.declared.Slot.{Slot}
use Rattle.ft_engine.specs.declared.queue.Queue.{Queue}
use Rattle.ft_engine.specs.Queues.{IsAhead, no_queue, op_at, queue_at, size_in, work_before, work_of}
use Rattle.ft_engine.specs.Plans.{IsOnPlan, IsPaced, ReadsNextAt, IsReadyForRow, IsSeated, Plan}
use Rattle.ft_engine.specs.Tables.{IsScanned, KnowsVerdicts, IsUpToDate}
use Rattle.mltl_base.proofs.Pieces.{first_after}
use Rattle.mltl_base.proofs.Seats.{Stepped, stepped}
use Rattle.ft_engine.proofs.Turning.{Turned, ready_here, turned_on, seats_on, told_here, Retold, retold_on, work_same, first_size, first_sizes, ahead_same, frontiers_before}
use Rattle.ft_engine.proofs.rows.row_of.Goals as goal

pub step-requires-clause-ready : goal.step-requires-clause-ready
step-requires-clause-ready g c =
    let plan : Plan = c.requires.ready.0 in
    let n : ℕ = c.requires.ready.1 in
    let few : n < 2 ^ 40 = c.requires.ready.2 in
    let paced : IsPaced plan c.args.ops.now c.args.queues.now c.args.slab.now n = c.requires.ready.3 in
    let queues = c.loop-i.queues in
    let slab = c.loop-i.slab in
    let before = c.split_at_mut-before.result.0.now in
    let rest = c.split_at_mut-before.result.1.now in
    let low = c.split_at_mut-earlier.result.0.now in
    let high = c.split_at_mut-earlier.result.1.now in
    let before_count : length before ≡ c.loop-i.i = c.split_at_mut-before.ensures.front_len in
    let blank : Queue = record { ring = record { frontier = 0; low = 0; since = 0; oldest = 0; used = 0; value = false }; reads_at = 0; seat = record { start = 0; size = 0 } } in
    let queue : Queue = get_or rest 0 blank in
    let t0 : Turned plan c.args.ops.now queues slab n c.loop-i.i = c.loop-i.invariant.turned plan n few paced in
    let turned : Turned plan c.args.ops.now queues slab n (length before) = subst (λ (i : ℕ). Turned plan c.args.ops.now queues slab n i) (sym before_count) t0 in
    let back : length rest + c.loop-i.i ≡ length queues = c.split_at_mut-before.ensures.back_len in
    let some : 0 < length rest = omega (arith, t0.same_length) in
    let queue_is : queue ≡ queue_at queues (length before) = first_after before rest blank no_queue some ∙ ap (λ (ns : List Queue). get_or ns (length before) no_queue) (sym c.split_at_mut-before.ensures.value) in
    let low_is : length low ≡ queue.seat.start = c.split_at_mut-earlier.ensures.front_len in
    let in_ops : length before < length c.args.ops.now = omega arith in
    let ready : IsReadyForRow plan n (op_at c.args.ops.now (length before)) before low queue (take queue.seat.size high) =
    ready_here plan c.args.ops.now queues slab n before rest low high queue c.split_at_mut-before.ensures.value c.split_at_mut-earlier.ensures.value some queue_is low_is turned few in_ops in
    (plan, n, subst (λ (i : ℕ). IsReadyForRow plan n (op_at c.args.ops.now i) before low queue (take queue.seat.size high)) before_count ready)

pub loop-i-preserved : goal.loop-i-preserved
loop-i-preserved g c =
    let plan : Plan = c.requires.ready.0 in
    let n : ℕ = c.requires.ready.1 in
    let few : n < 2 ^ 40 = c.requires.ready.2 in
    let paced : IsPaced plan c.args.ops.now c.args.queues.now c.args.slab.now n = c.requires.ready.3 in
    let queues = c.loop-i.queues in
    let slab = c.loop-i.slab in
    let before = c.split_at_mut-before.result.0.now in
    let rest = c.split_at_mut-before.result.1.now in
    let low = c.split_at_mut-earlier.result.0.now in
    let high = c.split_at_mut-earlier.result.1.now in
    let before_count : length before ≡ c.loop-i.i = c.split_at_mut-before.ensures.front_len in
    let blank : Queue = record { ring = record { frontier = 0; low = 0; since = 0; oldest = 0; used = 0; value = false }; reads_at = 0; seat = record { start = 0; size = 0 } } in
    let queue : Queue = get_or rest 0 blank in
    let t0 : Turned plan c.args.ops.now queues slab n c.loop-i.i = c.loop-i.invariant.turned plan n few paced in
    let turned : Turned plan c.args.ops.now queues slab n (length before) = subst (λ (i : ℕ). Turned plan c.args.ops.now queues slab n i) (sym before_count) t0 in
    let back : length rest + c.loop-i.i ≡ length queues = c.split_at_mut-before.ensures.back_len in
    let some : 0 < length rest = omega (arith, t0.same_length) in
    let queue_is : queue ≡ queue_at queues (length before) = first_after before rest blank no_queue some ∙ ap (λ (ns : List Queue). get_or ns (length before) no_queue) (sym c.split_at_mut-before.ensures.value) in
    let low_is : length low ≡ queue.seat.start = c.split_at_mut-earlier.ensures.front_len in
    let new_queue : Queue = c.step.new.queue in
    let own : List Slot = c.step.new.own in
    let queues' : List Queue = before ++ set rest 0 new_queue in
    let slab' : List Slot = low ++ (own ++ drop queue.seat.size high) in
    let i = c.loop-i.invariant in
    let in_ops : length before < length c.args.ops.now = omega arith in
    let st : Stepped no_queue (λ (m : Queue). m.seat) queues slab (length before) new_queue own queues' slab' =
    stepped before rest low high queue turned.laid c.split_at_mut-before.ensures.value c.split_at_mut-earlier.ensures.value some queue_is low_is new_queue own c.step.ensures.seat c.step.auto.own in
    let op_same : op_at c.args.ops.now (length before) ≡ op_at c.args.ops.now c.loop-i.i = ap (λ (k : ℕ). op_at c.args.ops.now k) before_count in
    record {
      seats = seats_on queues slab (length before) new_queue own queues' slab' st c.args.queues.now i.seats;
      turned = λ plan n few paced.
          let t : Turned plan c.args.ops.now queues slab n (length before) = subst (λ (k : ℕ). Turned plan c.args.ops.now queues slab n k) (sym before_count) (i.turned plan n few paced) in
          let ready : IsReadyForRow plan n (op_at c.args.ops.now c.loop-i.i) before low queue (take queue.seat.size high) =
          subst (λ (op : FtOp). IsReadyForRow plan n op before low queue (take queue.seat.size high)) op_same
          (ready_here plan c.args.ops.now queues slab n before rest low high queue c.split_at_mut-before.ensures.value c.split_at_mut-earlier.ensures.value some queue_is low_is t few in_ops) in
          let on_plan : IsOnPlan plan (op_at c.args.ops.now c.loop-i.i) before new_queue own (n + 1) = c.step.ensures.pace plan n ready in
          subst (λ (k : ℕ). Turned plan c.args.ops.now queues' slab' n (k + 1)) before_count
          (turned_on queues slab (length before) new_queue own queues' slab' st plan c.args.ops.now n t (omega arith) on_plan.paced
          (subst (λ (op : FtOp). ReadsNextAt plan (length before) op new_queue (n + 1)) (sym op_same) on_plan.placed)
          (ahead_same plan (length before) (op_at c.args.ops.now (length before)) before queues new_queue new_queue
          (t.planned (length before) in_ops).seated (frontiers_before plan c.args.ops.now queues slab n before rest low high queue c.split_at_mut-before.ensures.value c.split_at_mut-earlier.ensures.value some queue_is low_is t) refl
          (subst (λ (op : FtOp). IsAhead before op new_queue) (sym op_same) on_plan.ahead)));
      told = λ plan truth n old new row agree.
          let t : Turned plan c.args.ops.now queues slab n (length before) = subst (λ (k : ℕ). Turned plan c.args.ops.now queues slab n k) (sym before_count) (i.turned plan n row.few row.paced) in
          let r : Retold c.args.ops.now old new queues slab (length before) = subst (λ (k : ℕ). Retold c.args.ops.now old new queues slab k) (sym before_count) (i.told plan truth n old new row agree) in
          let told : KnowsVerdicts plan truth n (op_at c.args.ops.now c.loop-i.i) before low queue (take queue.seat.size high) old new =
          subst (λ (op : FtOp). KnowsVerdicts plan truth n op before low queue (take queue.seat.size high) old new) op_same
          (told_here plan c.args.ops.now queues slab n before rest low high queue c.split_at_mut-before.ensures.value c.split_at_mut-earlier.ensures.value some queue_is low_is t truth old new row.few in_ops row.table row.extends r) in
          let up : IsUpToDate (op_at c.args.ops.now c.loop-i.i) new before new_queue own = c.step.ensures.verdicts plan truth n old new told (agree c.loop-i.i c.loop-i-test.true) in
          subst (λ (k : ℕ). Retold c.args.ops.now old new queues' slab' (k + 1)) before_count
          (retold_on queues slab (length before) new_queue own queues' slab' st c.args.ops.now old new r (omega arith) up.verdicts
          (subst (λ (op : FtOp). IsScanned op new new_queue) (sym op_same) up.scanned));
      counted =
          let first : List Queue = c.args.queues.now in
          let seated : IsSeated plan (length before) (op_at c.args.ops.now c.loop-i.i) = subst (λ (op : FtOp). IsSeated plan (length before) op) op_same (turned.planned (length before) in_ops).seated in
          let size : length (take queue.seat.size high) ≡ (queue_at first c.loop-i.i).seat.size =
          first_size plan c.args.ops.now queues slab n before rest low high queue c.split_at_mut-before.ensures.value c.split_at_mut-earlier.ensures.value some queue_is low_is turned first i.seats ∙ ap (λ (k : ℕ). (queue_at first k).seat.size) before_count in
          let work : work_of (size_in before) (op_at c.args.ops.now c.loop-i.i) (length (take queue.seat.size high)) ≤ work_of (size_in first) (op_at c.args.ops.now c.loop-i.i) (queue_at first c.loop-i.i).seat.size =
          work_same plan (op_at c.args.ops.now c.loop-i.i) before first (length (take queue.seat.size high)) (queue_at first c.loop-i.i).seat.size seated
          (first_sizes plan c.args.ops.now queues slab n before rest low high queue c.split_at_mut-before.ensures.value c.split_at_mut-earlier.ensures.value some queue_is low_is turned first i.seats) size in
          let one_more : c.loop-i.i + 1 ≡ suc c.loop-i.i = omega arith in
          let sum : work_before c.args.ops.now (size_in first) (c.loop-i.i + 1) ≡ work_before c.args.ops.now (size_in first) c.loop-i.i + work_of (size_in first) (op_at c.args.ops.now c.loop-i.i) (queue_at first c.loop-i.i).seat.size =
          ap (λ (k : ℕ). work_before c.args.ops.now (size_in first) k) one_more in
          omega (arith, sum, work, i.counted, c.step.ensures.counted);
    }

pub returns-clause-paced : goal.returns-clause-paced
returns-clause-paced g c = λ plan n few p.
    let t = c.loop-i.invariant.turned plan n few p in
    record { same_length = t.same_length; planned = t.planned; laid = t.laid; paced = λ i h. t.done i (omega (arith, t.same_length)); placed = λ i h. t.done_placed i (omega (arith, t.same_length)); ahead = λ i h. t.done_ahead i (omega (arith, t.same_length)) }

pub returns-clause-verdicts : goal.returns-clause-verdicts
returns-clause-verdicts g c = λ plan truth n old new row agree.
    let t = c.loop-i.invariant.turned plan n row.few row.paced in
    let r = c.loop-i.invariant.told plan truth n old new row agree in
    record { verdicts = λ i h. r.done i (omega (arith, t.same_length)); scanned = λ i h. r.done_scanned i (omega (arith, t.same_length)) }
