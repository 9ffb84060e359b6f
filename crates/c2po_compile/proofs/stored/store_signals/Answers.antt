-- Each turn stores the next signal.
use Rattle.std.proofs.Common.{◌≡◌, ◌+◌, ◌<◌, ◌≤◌, ℕ, suc, List, ◌++◌, ◌∷◌, [], take, slice_index, slice_index_or, length, ap, sym, ◌∙◌, add-one, arith, subst}
use Rattle.std.proofs.lemmas.List.{get_or_default, take_all}
use Rattle.mltl_base.specs.declared.signal.Signal.{Signal}
use Rattle.mltl_base.specs.declared.program.StoredSignal.{StoredSignal}
use Rattle.c2po_compile.specs.Images.{stored, stored_signals}
use Rattle.c2po_compile.proofs.Columns.{no_signal, stored_more}
use Rattle.c2po_compile.proofs.stored.store_signals.Goals as goal

next : (signals : List Signal) (columns : List ℕ) (k : ℕ) (signal : Signal) (old new : List StoredSignal) (item : StoredSignal) → length columns ≡ length signals → k < length signals →
    signal ≡ slice_index_or signals k signal → old ≡ stored_signals (take k signals) (take k columns) → new ≡ old ++ item ∷ [] → item ≡ stored (signal, slice_index columns k) →
    new ≡ stored_signals (take (k + 1) signals) (take (k + 1) columns)
next signals columns k signal old new item same inside here so_far pushed is =
    let own : signal ≡ slice_index_or signals k no_signal = here ∙ get_or_default signals k signal no_signal inside in
    let more : stored_signals (take (suc k) signals) (take (suc k) columns) ≡ stored_signals (take k signals) (take k columns) ++ stored (slice_index_or signals k no_signal, slice_index columns k) ∷ []
    = stored_more signals columns k same inside in
    subst (λ (n : ℕ). new ≡ stored_signals (take n signals) (take n columns)) (sym (add-one k))
    (pushed ∙ (ap (λ (ss : List StoredSignal). ss ++ item ∷ []) so_far
    ∙ (ap (λ (s : StoredSignal). stored_signals (take k signals) (take k columns) ++ s ∷ []) (is ∙ ap (λ (s : Signal). stored (s, slice_index columns k)) own)
    ∙ sym more)))

pub loop-k-preserved : goal.loop-k-preserved
loop-k-preserved c =
    next c.args.signals.now c.args.columns.now c.loop-k.k c.index-signals-k.result c.loop-k.list c.push.new.self _ c.requires c.loop-k-test.true c.index-signals-k.is c.loop-k.invariant c.in_ok-push.ensures.pushed
    (ap (λ (name : List ℕ). record { name = name; truth = c.index-signals-k.result.truth; column = slice_index c.args.columns.now c.loop-k.k }) c.copy.ensures)

all_stored : (signals : List Signal) (columns : List ℕ) (k : ℕ) → length columns ≡ length signals → length signals ≤ k → stored_signals (take k signals) (take k columns) ≡ stored_signals signals columns
all_stored signals columns k same past = ap (λ (ss : List Signal). stored_signals ss (take k columns)) (take_all k signals past) ∙ ap (stored_signals signals) (take_all k columns (omega arith))

pub returns : goal.returns
returns c = c.loop-k.invariant ∙ all_stored c.args.signals.now c.args.columns.now c.loop-k.k c.requires c.loop-k-test.false
