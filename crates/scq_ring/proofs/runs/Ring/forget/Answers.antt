use Rattle.std.proofs.Common.{◌≡◌, ℕ, ◌-◌, ◌<◌, ◌≤◌, List, ◌∷◌, length, get_or, arith, refl, ap, subst, sym, ◌∙◌, if◌then◌else◌, nat_le}
use Rattle.scq_ring.specs.Runs.{Alternate, low_of, no_slot, verdict_at, window, Spans, holds_in}
use Rattle.scq_ring.specs.declared.runs.Slot.{Slot}
use Rattle.scq_ring.proofs.Windows.{window_before_pop, next_within, length-window}
use Rattle.scq_ring.proofs.RunLemmas.{shortened, Shortened, Spans-upto}
use Rattle.scq_ring.proofs.runs.Ring.forget.Goals as goal

pub overflow_add-self : goal.overflow_add-self
overflow_add-self c =
    let ring = c.args.self.now in
    let slots = c.args.slots.now in
    let runs : List Slot = window ring.oldest ring.used slots in
    let size : length runs ≡ ring.used = length-window ring.oldest ring.used slots c.requires.belongs.oldest_in c.requires.belongs.used_in in
    let some : 0 < ring.used = c.requires.some_run in
    let first_is : get_or runs 0 no_slot ≡ get_or slots ring.oldest no_slot =
    ap (λ (rs : List Slot). get_or rs 0 no_slot) (window_before_pop ring.oldest ring.used slots c.requires.belongs.oldest_in c.requires.belongs.used_in no_slot some) in
    let P : Slot → Type 0 = λ r. r.upto < ring.since in
    let ends : (get_or slots ring.oldest no_slot).upto < ring.since = subst P first_is (Spans-upto ring.low runs ring.since c.requires.belongs.spans 0 (omega arith)) in
    omega arith

pub returns : goal.returns
unfolding low_of verdict_at
returns c =
    let ring = c.args.self.now in
    let slots = c.args.slots.now in
    let first : Slot = get_or slots ring.oldest no_slot in
    let rest : List Slot = window c.ring_index-self.result (ring.used - 1) slots in
    let e : window ring.oldest ring.used slots ≡ first ∷ rest =
    window_before_pop ring.oldest ring.used slots c.requires.belongs.oldest_in c.requires.belongs.used_in no_slot c.requires.some_run
    ∙ ap (λ (j : ℕ). first ∷ window j (ring.used - 1) slots) (sym c.ring_index-self.ensures.ring_index) in
    let q : Shortened ring.low first rest ring.since =
    shortened ring.low first rest ring.since (subst (λ (rs : List Slot). Spans ring.low rs ring.since) e c.requires.belongs.spans) in
    let alternate : Alternate (first ∷ rest) ring.value = subst (λ (rs : List Slot). Alternate rs ring.value) e c.requires.belongs.alternate in
    let P : ℕ → Type 0 = λ j. j < length slots in
    let oldest_in : c.ring_index-self.result < length slots = subst P (sym c.ring_index-self.ensures.ring_index) (next_within ring.oldest (length slots) c.requires.belongs.oldest_in) in
    let used_in : ring.used - 1 ≤ length slots = omega (arith, c.requires.belongs.used_in) in
    let size : length rest ≡ ring.used - 1 = length-window c.ring_index-self.result (ring.used - 1) slots oldest_in used_in in
    record {
      belongs = record {
        oldest_in = oldest_in;
        used_in = used_in;
        spans = q.spans;
        begun = c.requires.belongs.begun;
        some_time = c.requires.belongs.some_time;
        alternate = alternate.1;
      };
      newest = record { frontier = refl; since = refl; value = refl };
      rises = omega arith;
      fewer = omega arith;
      bounded = omega arith;
      kept = λ t from. ap (λ v. if nat_le ring.since t then ring.value else v) (q.kept t from ∙ ap (λ (rs : List Slot). holds_in rs t) (sym e));
    }
