use Rattle.c2po_compile.proofs.SimpleTelling.{moved_simple_called, moved_told, simple_named, simple_told}
use Rattle.c2po_compile.proofs.laws.simple_programs_tell_plain_outputs.Goals as goal

pub returns-clause-told : goal.returns-clause-told
returns-clause-told c = simple_told

pub returns-clause-moved : goal.returns-clause-moved
returns-clause-moved c = moved_told

pub returns-clause-names : goal.returns-clause-names
returns-clause-names c = simple_named

pub returns-clause-moved_names : goal.returns-clause-moved_names
returns-clause-moved_names c = moved_simple_called
