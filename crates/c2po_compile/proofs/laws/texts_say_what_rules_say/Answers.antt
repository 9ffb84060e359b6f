-- No other items are said.
use Rattle.c2po_compile.proofs.ByRules.{alone}
use Rattle.c2po_compile.proofs.laws.texts_say_what_rules_say.Goals as goal

pub returns-clause-alone : goal.returns-clause-alone
returns-clause-alone c = alone
