use Rattle.count_sets.specs.Tables.{IsGateRow, GatesRise}
use Rattle.count_sets.proofs.table.Table.of.Given as goal

abbrev pub invariant-loop-k : goal.invariant-loop-k
invariant-loop-k l = IsGateRow l.plan l.k l.table.gates l.table.row.items × GatesRise l.plan l.k l.table.gates l.table.row.items
