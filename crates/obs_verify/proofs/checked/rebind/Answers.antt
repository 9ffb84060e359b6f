use Rattle.std.proofs.Common.{◌≡◌, ◌∙◌, ap, sym, subst, List, Option, ℕ, map, length}
use Rattle.mltl_base.specs.declared.program.Program.{Program}
use Rattle.mltl_base.specs.declared.program.StoredSignal.{StoredSignal}
use Rattle.obs_verify.specs.Bound.{bound, bound_op, bound_signals}
use Rattle.obs_verify.specs.Kept.{IsKept}
use Rattle.obs_verify.proofs.WellBound.{kept_bound}
use Rattle.obs_verify.proofs.checked.rebind.Goals as goal

pub invariant_of-result : goal.invariant_of-result
invariant_of-result c =
    let old : Program = c.checked.inside.program in
    let columns : List ℕ = c.args.columns.now.of_signal in
    let width : ℕ = c.args.columns.now.width in
    let bests : List ℕ = c.checked.inside.delays.best in
    let worsts : List ℕ = c.checked.inside.delays.worst in
    let signal_numbers : List (Option ℕ) = c.checked.inside.signal_numbers in
    let is : old ≡ c.args.checked = c.checked.view_is in
    let moved : Program = record old { bz = map (bound_op old.signals columns) old.bz } in
    let reads : c.move_reads.new.program ≡ moved = c.move_reads.ensures ∙ ap (λ (ns : List ℕ). record old { bz = map (bound_op old.signals ns) old.bz }) c.as_slice-places.ensures in
    let signals : c.move_signals.new.signals ≡ bound_signals old.signals columns =
    c.move_signals.ensures ∙ ap (λ (p : Program). bound_signals p.signals c.as_slice-places.result.now) reads ∙ ap (bound_signals old.signals) c.as_slice-places.ensures in
    let kept : IsKept (bound old width columns) bests worsts signal_numbers = kept_bound old bests worsts signal_numbers width columns (ap (λ (p : Program). p.version) is ∙ c.requires.version)
    (c.requires.one_each ∙ ap (λ (p : Program). length p.signals) (sym is)) c.requires.below c.requires.different c.requires.narrow c.checked.invariant in
    subst (λ (ss : List StoredSignal). IsKept (record c.move_reads.new.program { width = width; signals = ss }) bests worsts signal_numbers) (sym signals)
    (subst (λ (p : Program). IsKept (record p { width = width; signals = bound_signals old.signals columns }) bests worsts signal_numbers) (sym reads) kept)
