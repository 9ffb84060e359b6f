use Rattle.std.proofs.Common.{◌≡◌, List, length, ap, sym, refl, ◌∙◌}
use Rattle.mltl_base.specs.Lending.{with_members}
use Rattle.mltl_base.proofs.FixedMembers.{with_members_is}
use Rattle.pt_boxes.specs.declared.rows.Node.{Node}
use Rattle.pt_boxes.proofs.Restarting.{AreRestarted, as_restarted, restarted}
use Rattle.pt_boxes.proofs.engine.Pt.reset.Goals as goal

pub returns : goal.returns
returns c =
    let old = c.args.self.now in
    let nodes : with_members old.nodes c.restart.new.nodes ≡ c.restart.new.nodes =
    with_members_is old.nodes c.restart.new.nodes (c.restart.ensures.many ∙ ap (λ (ns : List Node). length ns) c.as_mut_slice.ensures.value) in
    let again : AreRestarted c.as_mut_slice.result.now c.restart.new.nodes =
    record { many = c.restart.ensures.many; seats = c.restart.ensures.seats; emptied = c.restart.ensures.emptied } in
    record { stands = restarted c.args.checked.now c.requires.stands.0 old _ c.requires.stands.1 (as_restarted c.as_mut_slice.ensures.value (sym nodes) again) refl refl }
