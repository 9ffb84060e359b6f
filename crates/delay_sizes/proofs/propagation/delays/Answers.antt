use Rattle.std.proofs.Common.{◌≡◌, ℕ, ◌+◌, ◌≤◌, List, ◌++◌, ◌∷◌, [], length, drop, slice_index, slice_index_or, All, arith, ap, sym, ◌∙◌, subst}
use Rattle.std.proofs.lemmas.List.{length_push}
use Rattle.std.proofs.lemmas.List.Elements.{All-push}
use Rattle.mltl_base.specs.declared.operators.FtOp.{FtOp}
use Rattle.mltl_base.specs.declared.operators.FtOp.TheVariants.{True}
use Rattle.mltl_base.specs.Queues.{best_of, worst_of, best_delays, worst_delays, numbered_after, HasBounds, IsFirstLate}
use Rattle.delay_sizes.proofs.DelayLaws.{numbered_more, numbered_all, first_late, best_below_worst, below_push}
use Rattle.delay_sizes.proofs.propagation.delays.Goals as goal

pub returns-then-latest-gt-MAX_DELAY-clause-too_late : goal.returns-then-latest-gt-MAX_DELAY-clause-too_late
returns-then-latest-gt-MAX_DELAY-clause-too_late c = λ i e.
    let items : List FtOp = c.as_slice-op-items.result.now in
    let latest : c.worst_delay-latest.result ≡ worst_of c.loop-i.worst (slice_index_or items c.loop-i.i True) = c.worst_delay-latest.ensures ∙ ap (λ ws. worst_of ws (slice_index_or items c.loop-i.i True)) c.as_slice-in-loop-i.ensures in
    let first : IsFirstLate 16777216 (worst_delays items) c.loop-i.i = first_late c.loop-i.worst items c.loop-i.i c.worst_delay-latest.result c.loop-i-test.true latest c.loop-i.invariant.worst_len c.loop-i.invariant.worst c.loop-i.invariant.in_time c.if-latest-gt-MAX_DELAY.true in
    let P : List FtOp → Type 0 = λ ops. IsFirstLate 16777216 (worst_delays ops) c.loop-i.i in
    let Q : ℕ → Type 0 = IsFirstLate 16777216 (worst_delays c.args.ft.now) in
    subst Q (cc) (subst P c.as_slice-op-items.ensures first)

pub loop-i-preserved : goal.loop-i-preserved
loop-i-preserved c =
    let items : List FtOp = c.as_slice-op-items.result.now in
    let op : FtOp = slice_index_or items c.loop-i.i True in
    let earliest : c.best_delay-earliest.result ≡ best_of c.loop-i.best op = c.best_delay-earliest.ensures ∙ ap (λ bs. best_of bs op) c.as_slice.ensures in
    let latest : c.worst_delay-latest.result ≡ worst_of c.loop-i.worst op = c.worst_delay-latest.ensures ∙ ap (λ ws. worst_of ws op) c.as_slice-in-loop-i.ensures in
    let Q : List FtOp → Type 0 = All (HasBounds 1048576) in
    let bounded : All (HasBounds 1048576) items = subst Q (sym c.as_slice-op-items.ensures) c.requires.bounded in
    record {
      best_len = ap length c.in_ok-push.ensures.pushed ∙ length_push c.loop-i.best c.best_delay-earliest.result ∙ ap (λ n. n + 1) c.loop-i.invariant.best_len;
      worst_len = ap length c.in_ok-push-2.ensures.pushed ∙ length_push c.loop-i.worst c.worst_delay-latest.result ∙ ap (λ n. n + 1) c.loop-i.invariant.worst_len;
      best = ap (λ ns. numbered_after best_of ns (drop (c.loop-i.i + 1) items)) c.in_ok-push.ensures.pushed
          ∙ sym (numbered_more best_of c.loop-i.best items c.loop-i.i c.best_delay-earliest.result True c.loop-i-test.true earliest) ∙ c.loop-i.invariant.best;
      worst = ap (λ ns. numbered_after worst_of ns (drop (c.loop-i.i + 1) items)) c.in_ok-push-2.ensures.pushed
          ∙ sym (numbered_more worst_of c.loop-i.worst items c.loop-i.i c.worst_delay-latest.result True c.loop-i-test.true latest) ∙ c.loop-i.invariant.worst;
      in_time = let P : List ℕ → Type 0 = All (λ d. d ≤ 16777216) in subst P (sym c.in_ok-push-2.ensures.pushed) (All-push (λ d. d ≤ 16777216) c.loop-i.worst c.worst_delay-latest.result c.loop-i.invariant.in_time c.if-latest-gt-MAX_DELAY.false);
      below = let lower : best_of c.loop-i.best op ≤ worst_of c.loop-i.worst op = best_below_worst c.loop-i.best c.loop-i.worst op (bounded c.loop-i.i True c.loop-i-test.true) c.loop-i.invariant.below in
          let P : List ℕ → List ℕ → Type 0 = λ bs ws. (k : ℕ) → slice_index bs k ≤ slice_index ws k in
          subst (λ bs. P bs c.push-in-loop-i.new.self) (sym c.in_ok-push.ensures.pushed) (subst (P (c.loop-i.best ++ c.best_delay-earliest.result ∷ [])) (sym c.in_ok-push-2.ensures.pushed)
          (below_push c.loop-i.best c.loop-i.worst c.best_delay-earliest.result c.worst_delay-latest.result (omega (arith, c.loop-i.invariant.best_len, c.loop-i.invariant.worst_len)) c.loop-i.invariant.below (omega (arith, lower, earliest, latest))));
    }

pub returns-clause-best : goal.returns-clause-best
returns-clause-best c = sym (numbered_all best_of c.loop-i.best c.as_slice-op-items.result.now c.loop-i.i c.loop-i-test.false) ∙ c.loop-i.invariant.best ∙ ap best_delays c.as_slice-op-items.ensures

pub returns-clause-worst : goal.returns-clause-worst
returns-clause-worst c = sym (numbered_all worst_of c.loop-i.worst c.as_slice-op-items.result.now c.loop-i.i c.loop-i-test.false) ∙ c.loop-i.invariant.worst ∙ ap worst_delays c.as_slice-op-items.ensures
