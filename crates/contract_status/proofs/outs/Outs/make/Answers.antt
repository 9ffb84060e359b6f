use Rattle.std.proofs.Common.{◌≡◌, ℕ, length, replicate, ap, ◌∙◌}
use Rattle.mltl_base.specs.declared.program.Program.{Program}
use Rattle.contract_status.proofs.Moving.{counts_at_start}
use Rattle.contract_status.proofs.outs.Outs.make.Goals as goal

pub returns-clause-drained : goal.returns-clause-drained
returns-clause-drained c =
    let count : c.len.result ≡ length c.args.checked.now.outs = c.len.ensures ∙ ap (λ (program : Program). length program.outs) c.program.ensures.program in
    c.in_ok-times.ensures ∙ ap (λ (n : ℕ). replicate n 0) count ∙ counts_at_start c.args.checked.now
