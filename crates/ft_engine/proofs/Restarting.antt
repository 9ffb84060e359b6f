-- Queues that begin again stand for no rows.

use Rattle.std.proofs.Common.{◌≡◌, ◌+◌, ◌<◌, ℕ, List, [], length, set, inl, inr, arith, ap, subst, sym, ◌∙◌, length-set}
use Rattle.std.proofs.lemmas.Bool.{cases_eq}
use Rattle.std.proofs.lemmas.List.{get_or-set_other, get_or-set_same}
use Rattle.mltl_base.specs.declared.operators.FtOp.{FtOp}
use Rattle.mltl_base.specs.declared.program.Program.{Program}
use Rattle.mltl_base.specs.Atoms.{Row}
use Rattle.obs_verify.specs.Running.{RunsFuture}
use Rattle.scq_ring.specs.declared.Slot.{Slot}
use Rattle.mltl_base.specs.declared.seat.Seat.{Seat}
use Rattle.ft_engine.specs.declared.engine.Ft.{Ft}
use Rattle.ft_engine.specs.declared.queue.Queue.{Queue}
use Rattle.ft_engine.specs.Queues.{QueuesAreSound, KeepsSeats, no_queue, op_at, queue_at}
use Rattle.ft_engine.specs.Restarts.{IsEmptied}
use Rattle.ft_engine.specs.Standing.{FtHasTaken, slot_total, slots_at}
use Rattle.ft_engine.proofs.Making.{Started, made_sound, made_stands}

-- one more queue that begins again
pub seats_more : (old queues : List Queue) (i : ℕ) (new : Queue) → i < length queues → KeepsSeats old queues → new.seat ≡ (queue_at queues i).seat → KeepsSeats old (set queues i new)
seats_more old queues i new inside keeps same = record {
  same_length = length-set queues i new ∙ keeps.same_length;
  seat = λ j. elim (cases_eq j i) [
    | inl here ↦ subst (λ (k : ℕ). (queue_at (set queues i new) k).seat ≡ (queue_at old k).seat) (sym here)
        (ap (λ (q : Queue). q.seat) (get_or-set_same queues i new no_queue inside) ∙ same ∙ keeps.seat i)
    | inr other ↦ ap (λ (q : Queue). q.seat) (get_or-set_other queues i j new no_queue other) ∙ keeps.seat j
  ];
}

pub emptied_more : (ops : List FtOp) (queues : List Queue) (i : ℕ) (new : Queue) → i < length queues → ((j : ℕ) → j < i → IsEmptied (op_at ops j) (queue_at queues j)) → IsEmptied (op_at ops i) new
    → (j : ℕ) → j < i + 1 → IsEmptied (op_at ops j) (queue_at (set queues i new) j)
emptied_more ops queues i new inside before latest j below = elim (cases_eq j i) [
  | inl here ↦ subst (λ (k : ℕ). IsEmptied (op_at ops k) (queue_at (set queues i new) k)) (sym here)
      (subst (λ (q : Queue). IsEmptied (op_at ops i) q) (sym (get_or-set_same queues i new no_queue inside)) latest)
  | inr other ↦ subst (λ (q : Queue). IsEmptied (op_at ops j) q) (sym (get_or-set_other queues i j new no_queue other)) (before j (omega arith))
]

-- all queues have begun again, each with its part of the slab
pub record AreRestarted (ops : List FtOp) (old new : List Queue) : Type 0 where
  pub seats : KeepsSeats old new
  pub emptied : (i : ℕ) → i < length ops → IsEmptied (op_at ops i) (queue_at new i)

-- the same by equal lists
pub as_restarted : {ops ops' : List FtOp} {old old' new new' : List Queue} → ops ≡ ops' → old ≡ old' → new ≡ new' → AreRestarted ops old new → AreRestarted ops' old' new'
as_restarted {ops} {ops'} {old} {old'} {new} {new'} same_ops same_old same_new again =
    subst (λ (xs : List FtOp). AreRestarted xs old' new') same_ops
    (subst (λ (qs : List Queue). AreRestarted ops qs new') same_old (subst (λ (qs : List Queue). AreRestarted ops old qs) same_new again))

-- the queues of an engine that stands for some rows, once they begin again, are as those that are new
pub restarted : (program : Program) (rows : List Row) (ft : Ft) (queues : List Queue) → FtHasTaken program rows ft → AreRestarted program.ft ft.queues queues → Started program.ft program.sizes.ft queues (length ft.slab) (length program.ft)
unfolding slots_at
restarted program rows ft queues stands again =
    let laid = stands.paced.laid in
    let many : length ft.queues ≡ length program.ft = stands.paced.same_length in
    let start : (j : ℕ) → (queue_at queues j).seat.start ≡ (queue_at ft.queues j).seat.start = λ j. ap (λ (s : Seat). s.start) (again.seats.seat j) in
    let size : (j : ℕ) → (queue_at queues j).seat.size ≡ (queue_at ft.queues j).seat.size = λ j. ap (λ (s : Seat). s.size) (again.seats.seat j) in
    record {
      fresh = λ j inside.
          let e = again.emptied j inside in
          record { frontier = e.frontier; low = e.low; belongs = e.belongs; reads_at = e.reads_at; size = size j ∙ stands.sizes j inside };
      seated = record {
        within = λ j inside. omega (arith, start j, size j, laid.within j (omega arith));
        apart = λ j k jk inside. omega (arith, start j, size j, start k, laid.apart j k jk (omega arith));
      };
    }

pub reset_sound : (program : Program) (rows : List Row) (old : Ft) (queues : List Queue) → RunsFuture program → FtHasTaken program rows old → AreRestarted program.ft old.queues queues → QueuesAreSound queues old.slab
reset_sound program rows old queues runs stands again =
    made_sound program queues old.slab runs (again.seats.same_length ∙ stands.paced.same_length) (restarted program rows old queues stands again)

pub reset_stands : (program : Program) (rows : List Row) (old new : Ft) → RunsFuture program → FtHasTaken program rows old → AreRestarted program.ft old.queues new.queues → new.slab ≡ old.slab → FtHasTaken program [] new
unfolding slot_total
reset_stands program rows old new runs stands again same =
    let slab : length new.slab ≡ length old.slab = ap (λ (xs : List Slot). length xs) same in
    made_stands program new runs (again.seats.same_length ∙ stands.paced.same_length)
    (subst (λ (n : ℕ). Started program.ft program.sizes.ft new.queues n (length program.ft)) (sym slab) (restarted program rows old new.queues stands again))
    (slab ∙ stands.total)
