-- What was known of outputs before a row is a prefix of what is known after it.

use Rattle.std.proofs.Common.{◌≡◌, ℕ, ◌<◌, List, [], ◌∷◌, slice_get, slice_index, length, ap, subst, ◌∙◌}
use Rattle.std.specs.Prelude.{Some}
use Rattle.std.proofs.lemmas.List.{get_or-map}
use Rattle.std.proofs.lemmas.Option.{get_or_from_slice_get, slice_get_within}
use Rattle.mltl_base.specs.declared.program.Program.{Program}
use Rattle.mltl_base.specs.Atoms.{Row}
use Rattle.mltl_base.specs.Programs.{outputs}
use Rattle.mltl_base.specs.Reports.{Output, words}
use Rattle.mltl_base.proofs.Words.{words_begin}
use Rattle.contract_status.specs.Open.{known_counts_of}
use Rattle.r2u2_monitor.specs.declared.state.State.{State}
use Rattle.r2u2_monitor.specs.Monitoring.{IsDrained, KeepsKnown, places_of, program_of}
use Rattle.r2u2_monitor.proofs.Keeping.{told_places}

pub keeps_known : (row : Row) (before after : State) → IsDrained before → program_of after ≡ program_of before → places_of after ≡ places_of before → KeepsKnown row before after
keeps_known row before after drained program_kept told rows k o stands there =
    let outs : List Output = outputs (program_of before) in
    let same : slice_get outs k ≡ Some o = subst (λ (program : Program). slice_get (outputs program) k ≡ Some o) program_kept there in
    let within : k < length outs = slice_get_within outs k o same in
    let count : slice_index (known_counts_of (program_of before) rows) k ≡ length (words rows o) =
    get_or-map (λ (x : Output). length (words rows x)) outs k o 0 within ∙ ap (λ (x : Output). length (words rows x)) (get_or_from_slice_get outs k o o same) in
    record {
      begins = words_begin rows (row ∷ []) o;
      next = ap (λ (next_times : List ℕ). slice_index next_times k) (told ∙ told_places before rows stands drained) ∙ count;
    }
