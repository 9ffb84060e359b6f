use Rattle.c2po_parse.proofs.ItemCuts.{trees_sound, trees_complete, fault_sound, fault_complete}
use Rattle.c2po_parse.proofs.laws.trees_are_found.Goals as goal

pub returns-clause-trees : goal.returns-clause-trees
returns-clause-trees c = trees_sound

pub returns-clause-all_trees : goal.returns-clause-all_trees
returns-clause-all_trees c = trees_complete

pub returns-clause-faults : goal.returns-clause-faults
returns-clause-faults c = fault_sound

pub returns-clause-all_faults : goal.returns-clause-all_faults
returns-clause-all_faults c = fault_complete
