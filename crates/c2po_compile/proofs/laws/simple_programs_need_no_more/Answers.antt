use Rattle.c2po_compile.proofs.SimpleLaws.{plain_refused, simple_no_more, simple_refused}
use Rattle.c2po_compile.proofs.laws.simple_programs_need_no_more.Goals as goal

pub returns-clause-slots : goal.returns-clause-slots
returns-clause-slots c = simple_no_more

pub returns-clause-refused : goal.returns-clause-refused
returns-clause-refused c = λ text header fault. (plain_refused text header fault, simple_refused text header fault)
