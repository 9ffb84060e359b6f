-- Queues that are new.
use Rattle.std.proofs.Common.{◌≡◌, ℕ, ◌+◌, ◌<◌, Bool, List, [], ◌∷◌, ◌++◌, subst, length, get_or, sum, arith, ap, sym, ◌∙◌}
use Rattle.mltl_base.specs.declared.operators.FtOp.{FtOp}
use Rattle.mltl_base.specs.declared.operators.FtOp.TheVariants.{True, Load, Until}
use Rattle.mltl_base.specs.declared.program.Program.{Program}
use Rattle.mltl_base.specs.Programs.{atoms}
use Rattle.obs_verify.specs.Running.{RunsFuture}
use Rattle.scq_ring.specs.declared.Slot.{Slot}
use Rattle.scq_ring.specs.Runs.{Belongs, frontier_of, low_of}
use Rattle.mltl_base.specs.Seats.{AreSeated, part}
use Rattle.mltl_base.proofs.Seats.{each_more, length-part, seated_more}
use Rattle.ft_engine.specs.declared.engine.Ft.{Ft}
use Rattle.ft_engine.specs.declared.queue.Queue.{Queue}
use Rattle.ft_engine.specs.Plans.{IsPaced, ReadsNextAt, IsPlannedFor, IsSeated, Plan, plan_of}
use Rattle.ft_engine.specs.Queues.{QueuesAreSound, IsAhead, first_read_of, no_queue, op_at, queue_at}
use Rattle.ft_engine.specs.Standing.{FtHasTaken}
use Rattle.ft_engine.specs.Tables.{HaveVerdicts, IsScanned, VerdictTable, known_table}
use Rattle.ft_engine.proofs.Standings.{paced_sound, program_planned, stands_with}
use Rattle.ft_engine.proofs.Tabled.{nothing}

-- a queue without verdicts
pub record IsFresh (op : FtOp) (slots : ℕ) (queue : Queue) : Type 0 where
  pub frontier : frontier_of queue.ring ≡ 0
  pub low : low_of queue.ring ≡ 0
  pub belongs : (xs : List Slot) → 0 < length xs → Belongs queue.ring xs
  pub reads_at : queue.reads_at ≡ first_read_of op
  pub size : queue.seat.size ≡ slots

-- an until begins at the lower end of its window
first_placed : (plan : Plan) (i : ℕ) (op : FtOp) (queue : Queue) → IsSeated plan i op → frontier_of queue.ring ≡ 0 → queue.reads_at ≡ first_read_of op → ReadsNextAt plan i op queue 0
first_placed plan i (Until l r window) queue s f p =
    let worst = s.5 in
    (omega (arith, f, p), omega (arith, p, worst), omega (arith, p))
first_placed plan i _ queue s f p = tt

-- nothing is ahead of queues without verdicts
first_ahead : (plan : Plan) (i : ℕ) (op : FtOp) (queues : List Queue) (queue : Queue) → IsSeated plan i op → ((g : ℕ) → g < i → frontier_of (queue_at queues g).ring ≡ 0) → IsAhead queues op queue
first_ahead plan i True queues queue s f = tt
first_ahead plan i (Load k) queues queue s f = tt
first_ahead plan i _ queues queue s f = omega (arith, f _ s.0)

-- and nothing was scanned
first_scanned : (op : FtOp) (table : VerdictTable) (queue : Queue) → frontier_of queue.ring ≡ 0 → queue.reads_at ≡ first_read_of op → IsScanned op table queue
first_scanned (Until l r window) table queue f p = record {
  reach = omega (arith, f, p);
  order = omega arith;
  left = λ k from to. absurd (omega (arith, f, p));
  right = λ k from to. absurd (omega (arith, f, p));
}
first_scanned _ table queue f p = tt

-- the first i queues, whose parts end at `start`
pub record Started (ops : List FtOp) (sizes : List ℕ) (queues : List Queue) (start i : ℕ) : Type 0 where
  pub fresh : (j : ℕ) → j < i → IsFresh (op_at ops j) (get_or sizes j 0) (queue_at queues j)
  pub seated : AreSeated no_queue (λ queue. queue.seat) queues start i

-- one more queue, whose part begins where those before end
pub started_more : (ops : List FtOp) (sizes : List ℕ) (queues : List Queue) (start i : ℕ) (new : Queue) → length queues ≡ i
    → Started ops sizes queues start i → IsFresh (op_at ops i) (get_or sizes i 0) new → new.seat.start ≡ start → Started ops sizes (queues ++ new ∷ []) (start + get_or sizes i 0) (i + 1)
started_more ops sizes queues start i new count s fresh begins = record {
  fresh = each_more no_queue queues i new count (λ j m. IsFresh (op_at ops j) (get_or sizes j 0) m) s.fresh fresh;
  seated = subst (λ (size : ℕ). AreSeated no_queue (λ (queue : Queue). queue.seat) (queues ++ new ∷ []) (start + size) (i + 1)) fresh.size
      (seated_more no_queue queues i new count (λ queue. queue.seat) start s.seated begins);
}

-- the same by equal lists and numbers
pub started_as : {ops ops' : List FtOp} {sizes sizes' : List ℕ} {queues : List Queue} {start start' i i' : ℕ} → ops ≡ ops' → sizes ≡ sizes' → start ≡ start' → i ≡ i'
    → Started ops sizes queues start i → Started ops' sizes' queues start' i'
started_as {ops} {ops'} {sizes} {sizes'} {queues} {start} {start'} {i} {i'} same_ops same_sizes same_start same_i s =
    subst (λ (x : List FtOp). Started x sizes' queues start' i') same_ops
    (subst (λ (x : List ℕ). Started ops x queues start' i') same_sizes
    (subst (λ (x : ℕ). Started ops sizes queues x i') same_start (subst (λ (x : ℕ). Started ops sizes queues start x) same_i s)))

module _ (ops : List FtOp) (sizes : List ℕ) (queues : List Queue) (slab : List Slot) (same_length : length queues ≡ length ops)
    (started : Started ops sizes queues (length slab) (length ops)) where
  -- they are on plan before the first row
  made_paced : (plan : Plan) → IsPlannedFor plan ops (λ j. get_or sizes j 0) → IsPaced plan ops queues slab 0
  made_paced plan planned = record {
    same_length = same_length;
    planned = planned.planned;
    laid = record { within = λ j h. started.seated.within j (omega arith); apart = λ j k jk h. started.seated.apart j k jk (omega arith) };
    paced = λ i h.
        let i_in : i < length ops = omega arith in
        let fresh = started.fresh i i_in in
        let size = planned.sizes i i_in in
        let queue : Queue = queue_at queues i in
        let long : length (part slab queue.seat) ≡ queue.seat.size = length-part slab queue.seat (started.seated.within i i_in) in
        record {
          belongs = fresh.belongs (part slab queue.seat) (omega (arith, long, fresh.size, size));
          long = long ∙ fresh.size ∙ size;
          at_least = omega arith;
          at_most = omega (arith, fresh.frontier);
          low = omega (arith, fresh.low);
        };
    placed = λ i h.
        let i_in : i < length ops = omega arith in
        let fresh = started.fresh i i_in in
        first_placed plan i (op_at ops i) (queue_at queues i) (planned.planned i i_in).seated fresh.frontier fresh.reads_at;
    ahead = λ i h.
        let i_in : i < length ops = omega arith in
        first_ahead plan i (op_at ops i) queues (queue_at queues i) (planned.planned i i_in).seated (λ g g_in. (started.fresh g (omega arith)).frontier);
  }

  -- and have no verdicts
  made_table : (table : VerdictTable) → ((i : ℕ) → table i ≡ []) → HaveVerdicts ops table queues slab
  made_table table none = record {
    verdicts = λ i h.
        let frontier = (started.fresh i (omega arith)).frontier in
        record { count = frontier ∙ sym (ap (λ (vs : List Bool). length vs) (none i)); kept = λ t from to. absurd (omega (arith, frontier)) };
    scanned = λ i h.
        let fresh = started.fresh i (omega arith) in
        first_scanned (op_at ops i) table (queue_at queues i) fresh.frontier fresh.reads_at;
  }

-- new queues stand for no rows
pub made_stands : (program : Program) (ft : Ft) → RunsFuture program → length ft.queues ≡ length program.ft
    → Started program.ft program.sizes.ft ft.queues (length ft.slab) (length program.ft) → length ft.slab ≡ sum program.sizes.ft → FtHasTaken program [] ft
made_stands program ft runs same_length started total =
    let queues : List Queue = ft.queues in
    let slab : List Slot = ft.slab in
    stands_with program [] ft runs
    (made_paced program.ft program.sizes.ft queues slab same_length started (plan_of program.ft program.outs) (program_planned program runs))
    (made_table program.ft program.sizes.ft queues slab same_length started (known_table [] (atoms program.bz) program.ft) (λ i. nothing (atoms program.bz) program.ft i))
    total

-- and so each ring has its part of the slab
pub made_sound : (program : Program) (queues : List Queue) (slab : List Slot) → RunsFuture program → length queues ≡ length program.ft
    → Started program.ft program.sizes.ft queues (length slab) (length program.ft) → QueuesAreSound queues slab
made_sound program queues slab runs same_length started =
    paced_sound (plan_of program.ft program.outs) program.ft queues slab 0
    (made_paced program.ft program.sizes.ft queues slab same_length started (plan_of program.ft program.outs) (program_planned program runs))
