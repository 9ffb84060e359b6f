use Rattle.std.proofs.Common.{◌≡◌, List, length, ap, sym, refl, ◌∙◌}
use Rattle.mltl_base.specs.Lending.{with_members}
use Rattle.mltl_base.proofs.FixedMembers.{with_members_is}
use Rattle.mltl_base.specs.declared.operators.FtOp.{FtOp}
use Rattle.mltl_base.specs.declared.program.Program.{Program}
use Rattle.obs_verify.proofs.RunLaws.{runs_future}
use Rattle.ft_engine.specs.declared.queue.Queue.{Queue}
use Rattle.ft_engine.proofs.Restarting.{AreRestarted, as_restarted, reset_sound, reset_stands}
use Rattle.ft_engine.proofs.engine.Ft.reset.Goals as goal

pub restart-requires : goal.restart-requires
restart-requires c =
    let program : Program = c.args.checked.now in
    let ops : c.as_slice.result.now ≡ program.ft = c.as_slice.ensures ∙ ap (λ (p : Program). p.ft) c.program-program.ensures.program in
    ap (λ (qs : List Queue). length qs) c.as_mut_slice.ensures.value ∙ c.requires.stands.1.paced.same_length ∙ sym (ap (λ (xs : List FtOp). length xs) ops)

pub invariant_of-self : goal.invariant_of-self
invariant_of-self c =
    let program : Program = c.args.checked.now in
    let runs = runs_future program c.program-program.ensures.layout c.program-program.ensures.well_formed in
    let old = c.args.self.now in
    let ops : c.as_slice.result.now ≡ program.ft = c.as_slice.ensures ∙ ap (λ (p : Program). p.ft) c.program-program.ensures.program in
    let queues : with_members old.queues c.restart.new.queues ≡ c.restart.new.queues =
    with_members_is old.queues c.restart.new.queues (c.restart.ensures.seats.same_length ∙ ap (λ (qs : List Queue). length qs) c.as_mut_slice.ensures.value) in
    let again : AreRestarted c.as_slice.result.now c.as_mut_slice.result.now c.restart.new.queues = record { seats = c.restart.ensures.seats; emptied = c.restart.ensures.emptied } in
    record { sound = reset_sound program c.requires.stands.0 old _ runs c.requires.stands.1 (as_restarted ops c.as_mut_slice.ensures.value (sym queues) again) }

pub returns : goal.returns
returns c =
    let program : Program = c.args.checked.now in
    let runs = runs_future program c.program-program.ensures.layout c.program-program.ensures.well_formed in
    let old = c.args.self.now in
    let ops : c.as_slice.result.now ≡ program.ft = c.as_slice.ensures ∙ ap (λ (p : Program). p.ft) c.program-program.ensures.program in
    let queues : with_members old.queues c.restart.new.queues ≡ c.restart.new.queues =
    with_members_is old.queues c.restart.new.queues (c.restart.ensures.seats.same_length ∙ ap (λ (qs : List Queue). length qs) c.as_mut_slice.ensures.value) in
    let again : AreRestarted c.as_slice.result.now c.as_mut_slice.result.now c.restart.new.queues = record { seats = c.restart.ensures.seats; emptied = c.restart.ensures.emptied } in
    record { stands = reset_stands program c.requires.stands.0 old _ runs c.requires.stands.1 (as_restarted ops c.as_mut_slice.ensures.value (sym queues) again) refl }
