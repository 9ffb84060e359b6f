use Rattle.std.proofs.Common.{subst, sym, ap, length}
use Rattle.c2po_types.specs.Heads.{Heads}
use Rattle.c2po_types.proofs.StoredParts.{set_count, members_count, other_members}
use Rattle.c2po_types.proofs.unfolding.Unfolding.member_count.Goals as goal

pub returns-in-Set : goal.returns-in-Set
returns-in-Set c = λ v k. set_count c.args.self.now c.args.set.now c.in-Set.field-0 c.in-Set.field-1 c.in-Set.members v c.in-Set.is k

pub returns-in-Held : goal.returns-in-Held
returns-in-Held c = λ v k.
    members_count v c.args.self.now c.held_members.result.now
    (c.held_members.ensures v (subst (λ h. Heads c.args.self.now h v) c.in-Held.is k))

pub returns-in-Nothing : goal.returns-in-Nothing
returns-in-Nothing c = λ v k. sym (ap length (other_members c.args.self.now c.args.set.now v c.in-Nothing.is k))
