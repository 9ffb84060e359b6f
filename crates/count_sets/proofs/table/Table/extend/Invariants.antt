use Rattle.std.proofs.Common.{length}
use Rattle.count_sets.proofs.Cells.{Before}
use Rattle.count_sets.proofs.Sharing.{Shares}
use Rattle.count_sets.proofs.table.Table.extend.Given as goal

abbrev pub invariant-loop-j : goal.invariant-loop-j
invariant-loop-j l =
    Before l.fn.plan l.k l.first (length l.fn.self.gates) l.body l.j l.self.gates l.self.row.items l.fewer
    × Shares l.fn.plan l.k (length l.fn.self.gates) l.j l.self.gates l.self.row.items l.fewer
