use Rattle.c2po_parse.proofs.ItemCuts.{one_tree, one_fault, no_tree}
use Rattle.c2po_parse.proofs.laws.grammar_is_unambiguous.Goals as goal

pub returns-clause-trees : goal.returns-clause-trees
returns-clause-trees c = one_tree

pub returns-clause-faults : goal.returns-clause-faults
returns-clause-faults c = one_fault

pub returns-clause-apart : goal.returns-clause-apart
returns-clause-apart c = no_tree
