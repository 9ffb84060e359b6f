use Rattle.std.proofs.Common.{◌≡◌, ℕ, List, ap, ◌∙◌, get_or}
use Rattle.std.specs.Prelude.{◌||◌}
use Rattle.std.specs.List.{list_any}
use Rattle.std.specs.Str.{bytes_eq}
use Rattle.obs_verify.specs.Kinds.{has_name}
use Rattle.obs_verify.proofs.NameSets.{put_in_order}
use Rattle.obs_show.proofs.NameLaws.{one_more_name}
use Rattle.obs_show.proofs.names.signal_names.Goals as goal

pub loop-signal-preserved : goal.loop-signal-preserved
loop-signal-preserved c = λ (name : List ℕ).
    let signals = c.args.signals.now in
    let i : ℕ = c.loop-signal.signal-index in
    let s = c.signal-item.result in
    let key : c.in_ok-name.name.items ≡ (get_or signals i s).name = c.in_ok-name.ensures.items ∙ c.bytes.ensures.bytes ∙ ap (λ x. x.name) c.signal-item.is in
    ap (list_any (λ n. bytes_eq name n.items)) c.in_ok-insert.ensures.keys
    ∙ put_in_order name c.in_ok-name.name c.loop-signal.names.keys
    ∙ ap (λ items. bytes_eq name items || has_name c.loop-signal.names name) key
    ∙ ap (λ b. bytes_eq name (get_or signals i s).name || b) (c.loop-signal.invariant name)
    ∙ one_more_name signals i s name c.loop-signal-test.true
