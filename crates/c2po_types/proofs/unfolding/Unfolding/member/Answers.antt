use Rattle.std.proofs.Common.{subst, refl, sym, ap, length, arith, IfOk}
use Rattle.c2po_types.specs.Values.{members}
use Rattle.c2po_types.specs.Heads.{Heads}
use Rattle.c2po_types.proofs.Members.{found_at}
use Rattle.c2po_types.proofs.StoredParts.{set_count, members_count, member_open, member_held, no_member, other_members}
use Rattle.c2po_types.proofs.unfolding.Unfolding.member.Goals as goal

pub returns-in-Some-clause-head : goal.returns-in-Some-clause-head
returns-in-Some-clause-head c = λ s v k q.
    let g = subst (λ h. Heads c.args.self.now h s) c.in-Set.is k in
    let is = member_open c.in-Set.members.now g.0 c.args.i c.in-Some.expr.now s v g.2
    (found_at _ _ _ _ refl c.in-Some.ensures.lookup.3.0 c.in-Some.ensures.lookup.1) q in
    subst (λ w. IfOk c.head.result (λ h. Heads c.args.self.now h w)) (sym is) (c.head.ensures.head g.0 g.1)

pub returns-in-None-clause-head : goal.returns-in-None-clause-head
returns-in-None-clause-head c = λ s v k q.
    absurd (no_member (members s) c.args.i _ v (set_count c.args.self.now c.args.set.now c.in-Set.within c.in-Set.field-1 c.in-Set.members s c.in-Set.is k)
    c.in-None.ensures.lookup.3 q)

pub returns-in-Some-get-clause-head : goal.returns-in-Some-get-clause-head
returns-in-Some-get-clause-head c = λ s v k q.
    member_held s c.args.self.now c.held_members.result.now c.args.i c.in-Some-get.member.now v
    (c.held_members.ensures s (subst (λ h. Heads c.args.self.now h s) c.in-Held.is k))
    (found_at _ _ _ _ refl c.in-Some-get.ensures.lookup.3.0 c.in-Some-get.ensures.lookup.1) q

pub returns-in-None-get-clause-head : goal.returns-in-None-get-clause-head
returns-in-None-get-clause-head c = λ s v k q.
    absurd (no_member (members s) c.args.i _ v
    (members_count s c.args.self.now c.held_members.result.now (c.held_members.ensures s (subst (λ h. Heads c.args.self.now h s) c.in-Held.is k)))
    c.in-None-get.ensures.lookup.3 q)

pub returns-in-Nothing-clause-head : goal.returns-in-Nothing-clause-head
returns-in-Nothing-clause-head c = λ s v k q.
    absurd (no_member (members s) c.args.i 0 v (sym (ap length (other_members c.args.self.now c.args.set.now s c.in-Nothing.is k))) (omega arith) q)
