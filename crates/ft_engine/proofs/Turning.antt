-- The middle of a row: the instructions before one index have taken it, those from there on have not.
use Rattle.std.proofs.Common.{◌≡◌, ℕ, ◌+◌, ◌<◌, ◌≤◌, ◌^◌, List, ◌++◌, length, take, inl, inr, ◌≢◌, arith, subst, sym, ap, ◌∙◌}
use Rattle.std.proofs.lemmas.Bool.{cases_eq}
use Rattle.mltl_base.specs.declared.operators.FtOp.{FtOp}
use Rattle.mltl_base.specs.declared.operators.FtOp.TheVariants.{Not, And, Until}
use Rattle.mltl_base.specs.declared.seat.Seat.{Seat}
use Rattle.scq_ring.specs.declared.Slot.{Slot}
use Rattle.scq_ring.specs.Runs.{frontier_of}
use Rattle.mltl_base.specs.Seats.{part}
use Rattle.mltl_base.proofs.Seats.{Stepped, before_kept, each_kept, each_on, here_kept, node_before, other_kept, own_long, part_in_front, seat_stays, seated_on, sizes_are}
use Rattle.ft_engine.specs.declared.queue.Queue.{Queue}
use Rattle.ft_engine.specs.Plans.{ReadsNextAt, IsPlanned, IsReadyForRow, IsSeated, Paced, Plan}
use Rattle.ft_engine.specs.Queues.{AreLaid, IsAhead, KeepsSeats, no_queue, op_at, queue_at, reads_from, size_in, work_of}
use Rattle.ft_engine.specs.Tables.{Extends, HasVerdicts, IsScanned, IsTable, KnowsVerdicts, Loads, VerdictTable}

-- the first i instructions have taken n + 1 rows, the others n
pub record Turned (plan : Plan) (ops : List FtOp) (queues : List Queue) (slab : List Slot) (n i : ℕ) : Type 0 where
  pub same_length : length queues ≡ length ops
  pub planned : (j : ℕ) → j < length ops → IsPlanned plan j (op_at ops j)
  pub laid : AreLaid queues slab
  pub done : (j : ℕ) → j < i → Paced plan j (queue_at queues j) (part slab (queue_at queues j).seat) (n + 1)
  pub done_placed : (j : ℕ) → j < i → ReadsNextAt plan j (op_at ops j) (queue_at queues j) (n + 1)
  pub done_ahead : (j : ℕ) → j < i → IsAhead queues (op_at ops j) (queue_at queues j)
  pub todo : (j : ℕ) → i ≤ j → j < length queues → Paced plan j (queue_at queues j) (part slab (queue_at queues j).seat) n
  pub todo_placed : (j : ℕ) → i ≤ j → j < length queues → ReadsNextAt plan j (op_at ops j) (queue_at queues j) n

-- an instruction that is ahead of some queues is ahead of others with the same frontiers before it, where it reads from the same time
pub ahead_same : (plan : Plan) (i : ℕ) (op : FtOp) (queues queues' : List Queue) (queue queue' : Queue) → IsSeated plan i op
    → ((g : ℕ) → g < i → frontier_of (queue_at queues' g).ring ≡ frontier_of (queue_at queues g).ring) → reads_from op queue' ≡ reads_from op queue
    → IsAhead queues op queue → IsAhead queues' op queue'
ahead_same plan i (Not g) queues queues' queue queue' s same e h = omega (arith, same g s.0)
ahead_same plan i (And l r) queues queues' queue queue' s same e h = omega (arith, same l s.0, same r s.1)
ahead_same plan i (Until l r window) queues queues' queue queue' s same e h = omega (arith, same l s.0, same r s.1)
ahead_same plan i _ queues queues' queue queue' s same e h = tt

-- the first i instructions have the verdicts of the newer table, the others those of the older one
pub record Retold (ops : List FtOp) (old new : VerdictTable) (queues : List Queue) (slab : List Slot) (i : ℕ) : Type 0 where
  pub done : (j : ℕ) → j < i → HasVerdicts (queue_at queues j).ring (part slab (queue_at queues j).seat) (new j)
  pub done_scanned : (j : ℕ) → j < i → IsScanned (op_at ops j) new (queue_at queues j)
  pub todo : (j : ℕ) → i ≤ j → j < length queues → HasVerdicts (queue_at queues j).ring (part slab (queue_at queues j).seat) (old j)
  pub todo_scanned : (j : ℕ) → i ≤ j → j < length queues → IsScanned (op_at ops j) old (queue_at queues j)

module _ (queues : List Queue) (slab : List Slot) (i : ℕ) (new : Queue) (own : List Slot) (queues' : List Queue) (slab' : List Slot)
    (st : Stepped no_queue (λ queue. queue.seat) queues slab i new own queues' slab') where
  -- each queue keeps its seat
  pub seats_on : (first : List Queue) → KeepsSeats first queues → KeepsSeats first queues'
  seats_on first seats = record {
    same_length = st.same_length ∙ seats.same_length;
    seat = λ j. seat_stays st j ∙ seats.seat j;
  }

  -- one more instruction has taken the row
  pub turned_on : (plan : Plan) (ops : List FtOp) (n : ℕ) → Turned plan ops queues slab n i → i < length queues
      → Paced plan i new own (n + 1) → ReadsNextAt plan i (op_at ops i) new (n + 1) → IsAhead queues (op_at ops i) new
      → Turned plan ops queues' slab' n (i + 1)
  turned_on plan ops n t i_in paced placed ahead = record {
    same_length = st.same_length ∙ t.same_length;
    planned = t.planned;
    laid = seated_on st t.laid;
    done = λ j h. each_kept st (λ k m xs. Paced plan k m xs (n + 1)) j (omega arith) (λ other. t.done j (omega arith)) paced;
    done_placed = λ j h. each_on st (λ k m. ReadsNextAt plan k (op_at ops k) m (n + 1)) j (λ other. t.done_placed j (omega arith)) placed;
    done_ahead = λ j h. elim (cases_eq j i) [
      | inl same ↦
          subst (λ (k : ℕ). IsAhead queues' (op_at ops k) (queue_at queues' k)) (sym same)
          (ahead_same plan i (op_at ops i) queues queues' new (queue_at queues' i)
          (t.planned i (omega (arith, t.same_length))).seated (λ g g_in. let other : g ≢ i = omega arith in ap (λ (m : Queue). frontier_of m.ring) (st.others g other)) (ap (λ (m : Queue). reads_from (op_at ops i) m) st.here) ahead)
      | inr other ↦
          ahead_same plan j (op_at ops j) queues queues' (queue_at queues j) (queue_at queues' j)
          (t.planned j (omega (arith, t.same_length))).seated (λ g g_in. let apart : g ≢ i = omega arith in ap (λ (m : Queue). frontier_of m.ring) (st.others g apart)) (ap (λ (m : Queue). reads_from (op_at ops j) m) (st.others j other)) (t.done_ahead j (omega arith))
    ];
    todo = λ j from h. let other : j ≢ i = omega arith in other_kept st (λ m xs. Paced plan j m xs n) j other (omega (arith, st.same_length)) (t.todo j (omega arith) (omega (arith, st.same_length)));
    todo_placed = λ j from h. let other : j ≢ i = omega arith in subst (λ (m : Queue). ReadsNextAt plan j (op_at ops j) m n) (sym (st.others j other)) (t.todo_placed j (omega arith) (omega (arith, st.same_length)));
  }

  -- one more instruction is told
  pub retold_on : (ops : List FtOp) (older newer : VerdictTable) → Retold ops older newer queues slab i → i < length queues
      → HasVerdicts new.ring own (newer i) → IsScanned (op_at ops i) newer new → Retold ops older newer queues' slab' (i + 1)
  retold_on ops older newer t i_in has scanned = record {
    done = λ j h. each_kept st (λ k m xs. HasVerdicts m.ring xs (newer k)) j (omega arith) (λ other. t.done j (omega arith)) has;
    done_scanned = λ j h. each_on st (λ k m. IsScanned (op_at ops k) newer m) j (λ other. t.done_scanned j (omega arith)) scanned;
    todo = λ j from h. let other : j ≢ i = omega arith in other_kept st (λ m xs. HasVerdicts m.ring xs (older j)) j other (omega (arith, st.same_length)) (t.todo j (omega arith) (omega (arith, st.same_length)));
    todo_scanned = λ j from h. let other : j ≢ i = omega arith in subst (λ (m : Queue). IsScanned (op_at ops j) older m) (sym (st.others j other)) (t.todo_scanned j (omega arith) (omega (arith, st.same_length)));
  }

module _ (plan : Plan) (ops : List FtOp) (queues : List Queue) (slab : List Slot) (n : ℕ) (before rest : List Queue) (low high : List Slot) (queue : Queue)
    (queues_are : queues ≡ before ++ rest) (slab_is : slab ≡ low ++ high) (some : 0 < length rest) (queue_is : queue ≡ queue_at queues (length before)) (low_is : length low ≡ queue.seat.start)
    (turned : Turned plan ops queues slab n (length before)) where
  -- the queue has its first size, and so have those before
  pub first_sizes : (first : List Queue) → KeepsSeats first queues → (j : ℕ) → j < length before → (queue_at before j).seat.size ≡ (queue_at first j).seat.size
  first_sizes first seats j h =
      ap (λ (m : Queue). m.seat.size) (sym (node_before before rest low high queue turned.laid queues_are slab_is some queue_is low_is j h)) ∙ ap (λ (m : Seat). m.size) (seats.seat j)

  pub first_size : (first : List Queue) → KeepsSeats first queues → length (take queue.seat.size high) ≡ (queue_at first (length before)).seat.size
  first_size first seats =
      own_long before rest low high queue turned.laid queues_are slab_is some queue_is low_is ∙ ap (λ (m : Queue). m.seat.size) queue_is ∙ ap (λ (m : Seat). m.size) (seats.seat (length before))

  -- what the instruction meets
  pub ready_here : n < 2 ^ 40 → length before < length ops → IsReadyForRow plan n (op_at ops (length before)) before low queue (take queue.seat.size high)
  ready_here few in_ops = record {
    planned = turned.planned (length before) in_ops;
    operands = record {
      within = λ j h. subst (λ (m : Queue). m.seat.start + m.seat.size ≤ length low) (node_before before rest low high queue turned.laid queues_are slab_is some queue_is low_is j h) (part_in_front before rest low high queue turned.laid queues_are slab_is some queue_is low_is j h);
      each = λ j h. before_kept before rest low high queue turned.laid queues_are slab_is some queue_is low_is (λ m xs. Paced plan j m xs (n + 1)) j h (turned.done j h);
    };
    paced = here_kept before rest low high queue turned.laid queues_are slab_is some queue_is low_is (λ m xs. Paced plan (length before) m xs n) (turned.todo (length before) (omega arith) (omega (arith, sizes_are before rest low high queue turned.laid queues_are slab_is some queue_is low_is)));
    placed = subst (λ (m : Queue). ReadsNextAt plan (length before) (op_at ops (length before)) m n) (sym queue_is) (turned.todo_placed (length before) (omega arith) (omega (arith, sizes_are before rest low high queue turned.laid queues_are slab_is some queue_is low_is)));
    few = few;
  }

  -- the frontiers of its operands
  pub frontiers_before : (g : ℕ) → g < length before → frontier_of (queue_at queues g).ring ≡ frontier_of (queue_at before g).ring
  frontiers_before g h = ap (λ (m : Queue). frontier_of m.ring) (node_before before rest low high queue turned.laid queues_are slab_is some queue_is low_is g h)

  -- and what it is told
  pub told_here : (truth : Loads) (old new : VerdictTable) → n < 2 ^ 40 → length before < length ops → IsTable ops truth (n + 1) new → Extends old new → Retold ops old new queues slab (length before)
      → KnowsVerdicts plan truth n (op_at ops (length before)) before low queue (take queue.seat.size high) old new
  told_here truth old new few in_ops table extends retold = record {
    ready = ready_here few in_ops;
    longest = table.each (length before) in_ops;
    extends = extends;
    operands = λ j h. before_kept before rest low high queue turned.laid queues_are slab_is some queue_is low_is (λ m xs. HasVerdicts m.ring xs (new j)) j h (retold.done j h);
    verdicts = here_kept before rest low high queue turned.laid queues_are slab_is some queue_is low_is (λ m xs. HasVerdicts m.ring xs (old (length before))) (retold.todo (length before) (omega arith) (omega (arith, sizes_are before rest low high queue turned.laid queues_are slab_is some queue_is low_is)));
    scanned = subst (λ (m : Queue). IsScanned (op_at ops (length before)) old m) (sym queue_is) (retold.todo_scanned (length before) (omega arith) (omega (arith, sizes_are before rest low high queue turned.laid queues_are slab_is some queue_is low_is)));
  }

-- an instruction takes no more steps than it may by the first sizes
pub work_same : (plan : Plan) (op : FtOp) (before first : List Queue) (size size' : ℕ) → IsSeated plan (length before) op
    → ((j : ℕ) → j < length before → (queue_at before j).seat.size ≡ (queue_at first j).seat.size) → size ≡ size' → work_of (size_in before) op size ≤ work_of (size_in first) op size'
work_same plan (Not g) before first size size' seated same e = omega (arith, same g seated.0)
work_same plan (And l r) before first size size' seated same e = omega (arith, same l seated.0, same r seated.1)
work_same plan (Until l r window) before first size size' seated same e = omega (arith, same l seated.0, same r seated.1)
work_same plan _ before first size size' seated same e = omega arith
