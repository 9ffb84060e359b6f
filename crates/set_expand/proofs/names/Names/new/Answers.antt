use Rattle.set_expand.proofs.Naming.{none_numbered}
use Rattle.set_expand.proofs.names.Names.new.Goals as goal

pub invariant_of-result : goal.invariant_of-result
invariant_of-result c = rw (c.new.ensures, c.new-2.ensures) none_numbered
