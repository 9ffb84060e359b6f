use Rattle.std.proofs.Common.{◌≡◌, All, List, length, ap, subst, sym, ◌∙◌}
use Rattle.mltl_base.specs.declared.program.Out.{Out}
use Rattle.mltl_base.specs.declared.program.Program.{Program}
use Rattle.mltl_base.specs.Queues.{NamesInstructions}
use Rattle.obs_verify.proofs.RunLaws.{all_named}
use Rattle.r2u2_monitor.proofs.bursts.most_reports.Goals as goal

pub most_of_outputs-requires-clause-named : goal.most_of_outputs-requires-clause-named
most_of_outputs-requires-clause-named c =
    let outs : c.as_slice.result.now ≡ c.args.checked.now.outs = c.as_slice.ensures ∙ ap (λ (p : Program). p.outs) c.program.ensures.program in
    subst (λ (xs : List Out). All (NamesInstructions (length c.args.checked.now.ft) (length c.args.checked.now.pt)) xs) (sym outs) (all_named c.args.checked.now c.program.ensures.well_formed)
