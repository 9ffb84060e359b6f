use Rattle.std.proofs.Common.{◌≡◌, None, ◌++◌, ap, sym, ◌∙◌}
use Rattle.std.proofs.lemmas.List.{append-nil}
use Rattle.obs_verify.specs.SignalNumbers.{signal_in}
use Rattle.obs_show.proofs.NumberLaws.{no_name}
use Rattle.obs_show.proofs.references.add_signal_name.Goals as goal

pub returns-in-None : goal.returns-in-None
returns-in-None c =
    let signals = c.args.checked.now.signals in
    let none : signal_in signals c.args.c ≡ None = sym c.requires ∙ sym c.signal_number.ensures ∙ c.in-None.is in
    sym (append-nil c.args.text.now.items) ∙ ap (λ ts. c.args.text.now.items ++ ts) (sym (no_name signals c.args.c none))
