use Rattle.std.proofs.Common.{◌≡◌, ℕ, ◌+◌, ◌-◌, List, [], ◌∷◌, ◌++◌, set, arith, refl, ap, subst, sym, ◌∙◌, inl, inr}
use Rattle.std.proofs.lemmas.Bool.{cases_lt}
use Rattle.std.proofs.lemmas.List.{length-set}
use Rattle.scq_ring.specs.Runs.{Alternate, Spans, window}
use Rattle.scq_ring.specs.declared.runs.Slot.{Slot}
use Rattle.scq_ring.proofs.Windows.{window_after_push}
use Rattle.scq_ring.proofs.RunLemmas.{Alternate-push, pushed, verdict_before, verdict_newest}
use Rattle.scq_ring.proofs.runs.Ring.add.Goals as goal

pub returns-clause-closed : goal.returns-clause-closed
returns-clause-closed c =
    let ring = c.args.self.now in
    let slots = c.args.slots.now in
    let r : Slot = record { upto = ring.frontier - 1; value = ring.value } in
    let ends : ring.frontier - 1 + 1 ≡ ring.frontier = omega arith in
    let e : window ring.oldest (ring.used + 1) (set slots c.ring_index.result r) ≡ window ring.oldest ring.used slots ++ r ∷ [] =
    ap (λ (j : ℕ). window ring.oldest (ring.used + 1) (set slots j r)) c.ring_index.ensures.ring_index
    ∙ window_after_push ring.oldest ring.used slots c.requires.belongs.oldest_in c.requires.belongs.used_in r c.requires.free in
    let q = pushed ring.low (window ring.oldest ring.used slots) ring.since r c.requires.belongs.spans (omega arith) (window ring.oldest (ring.used + 1) (set slots c.ring_index.result r)) e in
    let same_length = length-set slots c.ring_index.result r in
    record {
      oldest_in = omega arith;
      used_in = omega arith;
      spans = subst (Spans ring.low (window ring.oldest (ring.used + 1) (set slots c.ring_index.result r))) ends q.spans;
      alternate = λ next other. subst (λ (rs : List Slot). Alternate rs next) (sym e) (Alternate-push (window ring.oldest ring.used slots) r next c.requires.belongs.alternate other);
      frontier = refl;
      rises = omega arith;
      bounded = inl refl;
      kept = λ t from to. elim (cases_lt t ring.since) [
        | inl before ↦ q.kept t from before ∙ sym (verdict_before ring slots t before)
        | inr after ↦ q.written t after (omega arith) ∙ sym (verdict_newest ring slots t after)
      ];
    }
