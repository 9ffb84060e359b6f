use Rattle.std.proofs.Common.{◌≡◌, ℕ, ◌+◌, ◌≤◌, ◌⊎◌, List, length, arith, refl, subst, sym, ◌∙◌, inl, inr}
use Rattle.scq_ring.specs.Runs.{IsClosed, Spans, low_of, runs_of, verdict_at}
use Rattle.scq_ring.specs.declared.runs.Ring.{Ring}
use Rattle.scq_ring.specs.declared.runs.Slot.{Slot}
use Rattle.std.proofs.lemmas.Bool.{cases_lt}
use Rattle.scq_ring.proofs.RunLemmas.{Alternate-none, Spans-room, verdict_before}
use Rattle.scq_ring.proofs.runs.Ring.close.Goals as goal

pub returns-then-self : goal.returns-then-self
returns-then-self c =
    let ring = c.args.self.now in
    let slots = c.args.slots.now in
    let b = c.requires.belongs in
    let none : ring.frontier ≡ 0 = elim (cases_lt 0 ring.frontier) [
      | inl some ↦ absurd (omega (arith, b.some_time some, c.if-self.true))
      | inr early ↦ omega arith
    ] in
    let room = Spans-room ring.low (runs_of ring slots) ring.since b.spans in
    record {
      closed = record {
        oldest_in = b.oldest_in;
        used_in = b.used_in;
        spans = subst (Spans ring.low (runs_of ring slots)) c.if-self.true b.spans;
        alternate = λ next other. Alternate-none (runs_of ring slots) next (omega (arith, room, none, c.if-self.true));
        frontier = refl;
        rises = omega arith;
        bounded = inl refl;
        kept = λ t from to. sym (verdict_before ring slots t (omega arith));
      };
    }

-- a ring that may have let the oldest run go, and stays the same otherwise
record LetsGo (old : Ring) (slots : List Slot) (mid : Ring) : Type 0 where
  frontier : mid.frontier ≡ old.frontier
  value : mid.value ≡ old.value
  rises : old.low ≤ mid.low
  bounded : (mid.low ≡ old.low) ⊎ (mid.low + length slots ≤ old.frontier)
  kept : (t : ℕ) → mid.low ≤ t → verdict_at mid slots t ≡ verdict_at old slots t

closed_after : (old mid new : Ring) (slots new_slots : List Slot) → LetsGo old slots mid → new.low ≡ mid.low → IsClosed mid slots new new_slots → IsClosed old slots new new_slots
closed_after old mid new slots new_slots lets low is =
    let frontier = lets.frontier in
    let rises = lets.rises in
    record {
      oldest_in = is.oldest_in;
      used_in = is.used_in;
      spans = is.spans;
      alternate = λ next other. is.alternate next (λ same. other (same ∙ lets.value));
      frontier = is.frontier ∙ frontier;
      rises = omega arith;
      bounded = elim lets.bounded [ inl same ↦ inl (low ∙ same) | inr few ↦ inr (omega arith) ];
      kept = λ t from to. is.kept t from (omega arith) ∙ lets.kept t (omega arith);
    }

pub returns : goal.returns
unfolding low_of
returns c =
    let ring = c.args.self.now in
    let slots = c.args.slots.now in
    let begun = c.requires.belongs.begun in
    let some_time = c.if-self.false in
    let room = c.make_room.ensures in
    let newest = room.newest in
    let lets : LetsGo ring slots c.make_room.new.self = record {
      frontier = newest.frontier;
      value = newest.value;
      rises = room.rises;
      bounded = elim room.bounded [ inl same ↦ inl same | inr few ↦ inr (omega (arith, few, begun, some_time)) ];
      kept = room.kept;
    } in
    record { closed = closed_after ring c.make_room.new.self c.add.new.self slots c.add.new.slots lets c.add.ensures.low c.add.ensures.closed }
