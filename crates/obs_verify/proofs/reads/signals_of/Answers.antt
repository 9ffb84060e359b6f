use Rattle.std.proofs.Common.{◌≡◌, ◌∙◌, ◌+◌, ◌++◌, ◌∷◌, [], sym, ap, false, slice_index_or, List}
use Rattle.std.proofs.lemmas.List.{append-nil}
use Rattle.mltl_base.specs.declared.program.StoredSignal.{StoredSignal}
use Rattle.obs_verify.specs.declared.signals.Kinds.{Kinds as ColumnKinds}
use Rattle.obs_verify.specs.Upgrade.{signal_in, signals_below}
use Rattle.obs_verify.proofs.UpgradeLaws.{signals_at, signals_more, signals_none, signals_some}
use Rattle.obs_verify.proofs.reads.signals_of.Goals as goal
use Rattle.obs_verify.proofs.reads.signals_of.Goals.{then-not-is_empty+in_ok-signal_in+in_ok-push, else-not-is_empty}

pub loop-c-preserved : goal.loop-c-preserved
loop-c-preserved c = λ earlier known.
    let n = c.loop-c.c in
    let none : ColumnKinds = record { whole = false; truth = false } in
    let here : ColumnKinds = slice_index_or c.args.kinds.now n none in
    let kinds = known n none c.loop-c-test.true in
    let before : c.loop-c.signals ≡ signals_below n earlier = c.loop-c.invariant earlier known in
    let more : signals_below (n + 1) earlier ≡ signals_below n earlier ++ signals_at here.whole here.truth n =
    signals_more earlier n here.whole here.truth (sym (ap (λ (k : ColumnKinds). k.whole) kinds)) (sym (ap (λ (k : ColumnKinds). k.truth) kinds)) in
    elim c.if-not-is_empty.branch [
      | then-not-is_empty+in_ok-signal_in+in_ok-push w ↦
          w.signals-is ∙ w.in_ok-push.ensures.pushed ∙ ap (λ (s : StoredSignal). c.loop-c.signals ++ s ∷ []) w.in_ok-signal_in.ensures
          ∙ ap (λ (ss : List StoredSignal). ss ++ signal_in n here.truth ∷ []) before
          ∙ ap (λ (ss : List StoredSignal). signals_below n earlier ++ ss) (sym (signals_some here.whole here.truth n (sym w.if-not-is_empty.ensures))) ∙ sym more
      | else-not-is_empty w ↦ w.signals-is ∙ before ∙ sym (append-nil (signals_below n earlier))
          ∙ ap (λ (ss : List StoredSignal). signals_below n earlier ++ ss) (sym (signals_none here.whole here.truth n (sym w.if-not-is_empty.ensures))) ∙ sym more
    ]
