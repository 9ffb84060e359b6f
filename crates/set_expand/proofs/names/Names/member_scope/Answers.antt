use Rattle.std.proofs.Common.{refl, sym, ap, length, arith}
use Rattle.c2po_types.specs.Values.{members}
use Rattle.c2po_types.specs.Environment.{bind}
use Rattle.c2po_types.proofs.Members.{found_at}
use Rattle.c2po_types.proofs.StoredParts.{no_member}
use Rattle.set_expand.specs.Heads.{env_in, head_value}
use Rattle.set_expand.proofs.Heading.{set_count, other_members}
use Rattle.c2po_types.proofs.StoredParts.{member_open}
use Rattle.set_expand.proofs.names.Names.member_scope.Goals as goal

pub returns-in-Some : goal.returns-in-Some
returns-in-Some c = λ v q.
    let names = c.args.self.now in
    let env = env_in names c.args.scope.now in
    sym (ap (λ z. bind c.args.name.now z env)
    (member_open c.in-Set.members.now (env_in names c.in-Set.within) c.args.i c.in-Some.expr.now (head_value names c.args.set.now) v
    (ap (head_value names) c.in-Set.is)
    (found_at _ _ _ _ refl c.in-Some.ensures.lookup.3.0 c.in-Some.ensures.lookup.1) q))

pub returns-in-None : goal.returns-in-None
returns-in-None c = λ v q.
    absurd (no_member (members (head_value c.args.self.now c.args.set.now)) c.args.i _ v
    (set_count c.args.self.now c.args.set.now c.in-Set.within c.in-Set.members c.in-Set.is) c.in-None.ensures.lookup.3 q)

pub returns-in-Nothing : goal.returns-in-Nothing
returns-in-Nothing c = λ v q.
    absurd (no_member (members (head_value c.args.self.now c.args.set.now)) c.args.i 0 v
    (sym (ap length (other_members c.args.self.now c.args.set.now c.in-Nothing.is c.requires))) (omega arith) q)
