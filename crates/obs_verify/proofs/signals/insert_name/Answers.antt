use Rattle.std.proofs.Common.{◌∙◌, ap}
use Rattle.std.specs.Prelude.{◌||◌, not}
use Rattle.std.specs.List.{list_any}
use Rattle.std.specs.Str.{bytes_eq}
use Rattle.obs_verify.specs.Kinds.{has_name}
use Rattle.obs_verify.proofs.NameSets.{found_by_order, put_in_order}
use Rattle.obs_verify.proofs.signals.insert_name.Goals as goal

pub returns-clause-new : goal.returns-clause-new
returns-clause-new c =
    c.in_ok-is_new.ensures.added
    ∙ ap not (found_by_order c.in_ok-key.key.items c.args.names.now.keys
    ∙ ap (has_name c.args.names.now) (c.in_ok-key.ensures.items ∙ c.bytes.ensures.bytes))

pub returns-clause-grown : goal.returns-clause-grown
returns-clause-grown c = λ new bytes.
    ap (list_any (λ name. bytes_eq bytes name.items)) c.in_ok-is_new.ensures.keys
    ∙ (put_in_order bytes c.in_ok-key.key c.args.names.now.keys
    ∙ ap (λ items. bytes_eq bytes items || has_name c.args.names.now bytes) (c.in_ok-key.ensures.items ∙ c.bytes.ensures.bytes))
