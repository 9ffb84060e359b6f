use Rattle.std.proofs.Common.{◌≡◌, ◌<◌, ◌^◌, ◌∙◌, ap, refl, sym, subst, All, None, List, [], length}
use Rattle.mltl_base.specs.declared.program.Program.{Program}
use Rattle.mltl_base.specs.declared.program.StoredSignal.{StoredSignal}
use Rattle.obs_verify.specs.Kept.{IsKept}
use Rattle.obs_verify.specs.SignalNumbers.{signals_read}
use Rattle.obs_verify.specs.Upgrade.{first_clash, raised, reads, signals_below}
use Rattle.obs_verify.proofs.WellRaised.{all_within, kept_raised, signals_within}
use Rattle.obs_verify.proofs.checked.with_signals.Goals as goal

-- the signals are those of the upgraded program
same_signals : (program checked : Program) (signals : List StoredSignal) → program ≡ checked → signals ≡ signals_below checked.width (reads checked.bz) → signals_below program.width (reads program.bz) ≡ signals
same_signals program checked signals is h = ap (λ (p : Program). signals_below p.width (reads p.bz)) is ∙ sym h

one_way_in : (program checked : Program) → program ≡ checked → first_clash [] checked.bz ≡ None → first_clash [] program.bz ≡ None
one_way_in program checked is h = ap (λ (p : Program). first_clash [] p.bz) is ∙ h

pub signal_numbers_of-requires : goal.signal_numbers_of-requires
signal_numbers_of-requires c =
    let program : Program = c.checked.inside.program in
    let one : first_clash [] program.bz ≡ None = one_way_in program c.args.checked c.checked.view_is c.requires.one_way in
    let kept : IsKept (raised program) c.checked.inside.delays.best c.checked.inside.delays.worst (signals_read (raised program)) =
    kept_raised program c.checked.inside.delays.best c.checked.inside.delays.worst c.checked.inside.signal_numbers (signals_read (raised program)) one c.checked.invariant refl in
    let same = same_signals program c.args.checked c.args.signals c.checked.view_is c.requires.signals in
    record {
      few = subst (λ (ss : List StoredSignal). length ss < 2 ^ 32) same kept.layout.few_signals;
      signals = subst (λ (ss : List StoredSignal). All (λ signal. signal.column < program.width) ss) same (signals_within (raised program) kept.well_formed);
      reads = all_within program c.checked.invariant.well_formed;
    }

pub invariant_of-result : goal.invariant_of-result
invariant_of-result c =
    let program : Program = c.checked.inside.program in
    let one : first_clash [] program.bz ≡ None = one_way_in program c.args.checked c.checked.view_is c.requires.one_way in
    let same = same_signals program c.args.checked c.args.signals c.checked.view_is c.requires.signals in
    let read : c.in_ok-signal_numbers.signal_numbers ≡ signals_read (raised program) = c.in_ok-signal_numbers.ensures ∙ ap (λ (ss : List StoredSignal). signals_read (record program { version = 2; signals = ss })) (sym same) in
    subst (λ (ss : List StoredSignal). IsKept (record program { version = 2; signals = ss }) c.checked.inside.delays.best c.checked.inside.delays.worst c.in_ok-signal_numbers.signal_numbers) same
    (kept_raised program c.checked.inside.delays.best c.checked.inside.delays.worst c.checked.inside.signal_numbers c.in_ok-signal_numbers.signal_numbers one c.checked.invariant read)
