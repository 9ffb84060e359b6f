use Rattle.std.proofs.Common.{sym, ap, length}
use Rattle.set_expand.proofs.Heading.{set_count, other_members}
use Rattle.set_expand.proofs.names.Names.member_count.Goals as goal

pub returns-in-Set : goal.returns-in-Set
returns-in-Set c = set_count c.args.self.now c.args.set.now c.in-Set.field-0 c.in-Set.members c.in-Set.is

pub returns-in-Nothing : goal.returns-in-Nothing
returns-in-Nothing c = sym (ap length (other_members c.args.self.now c.args.set.now c.in-Nothing.is c.requires))
