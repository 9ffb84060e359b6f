-- The Not of the last row's cell, or of `false` where there are no more bodies.
use Rattle.std.proofs.Common.{◌≡◌, ◌+◌, false, arith}
use Rattle.count_sets.specs.Counting.{truth, least}
use Rattle.count_sets.specs.Tables.{IsGateRow}
use Rattle.count_sets.proofs.Thresholds.{least_above}
use Rattle.count_sets.proofs.Ends.{false_stands, cell_stands, not_last, not_formed}
use Rattle.count_sets.proofs.Sharing.{alone_shared, alone_nots, not_shared}
use Rattle.count_sets.proofs.networks.at_most.Goals as goal

pub returns-then-m-n-clause-formula : goal.returns-then-m-n-clause-formula
returns-then-m-n-clause-formula c =
    let none : least (c.args.m + 1) c.args.n ≡ truth false = least_above (c.args.m + 1) c.args.n (omega arith) in
    rw none (not_last c.add.new.gates c.add-then-m-n.new.gates c.in_ok-no.no (truth false)
    (false_stands c.new-gates.result c.add.new.gates c.in_ok-no.no c.new-gates.ensures c.in_ok-no.ensures.added c.in_ok-no.ensures.number) c.in_ok-add.ensures.added)

pub returns-clause-formula : goal.returns-clause-formula
returns-clause-formula c =
    let t : IsGateRow (record { bodies = c.args.n; lowest = c.args.m + 1; highest = c.args.m + 1 }) c.args.n c.in_ok-gates.field-0.gates c.in_ok-gates.field-0.row.items
    = c.in_ok-gates.ensures.table in
    not_last c.in_ok-gates.field-0.gates c.add-2.new.gates c.index.result.now (least (c.args.m + 1) c.args.n)
    (cell_stands _ c.args.n c.in_ok-gates.field-0.gates c.in_ok-gates.field-0.row.items (c.args.m + 1) c.index.result.now t (omega arith) (omega arith) c.index.ensures)
    c.in_ok-add-2.ensures.added

pub returns-clause-formed : goal.returns-clause-formed
returns-clause-formed c =
    let t : IsGateRow (record { bodies = c.args.n; lowest = c.args.m + 1; highest = c.args.m + 1 }) c.args.n c.in_ok-gates.field-0.gates c.in_ok-gates.field-0.row.items
    = c.in_ok-gates.ensures.table in
    not_formed c.args.n c.in_ok-gates.field-0.gates c.add-2.new.gates c.index.result.now (least (c.args.m + 1) c.args.n) t.formed
    (cell_stands _ c.args.n c.in_ok-gates.field-0.gates c.in_ok-gates.field-0.row.items (c.args.m + 1) c.index.result.now t (omega arith) (omega arith) c.index.ensures)
    c.in_ok-add-2.ensures.added

pub returns-then-m-n-clause-shared : goal.returns-then-m-n-clause-shared
returns-then-m-n-clause-shared c =
    not_shared c.add.new.gates c.add-then-m-n.new.gates c.in_ok-no.no
    (alone_shared c.new-gates.result c.add.new.gates false c.new-gates.ensures c.in_ok-no.ensures.added)
    (alone_nots c.new-gates.result c.add.new.gates false c.new-gates.ensures c.in_ok-no.ensures.added)
    c.in_ok-add.ensures.added

pub returns-clause-shared : goal.returns-clause-shared
returns-clause-shared c =
    not_shared c.in_ok-gates.field-0.gates c.add-2.new.gates c.index.result.now
    c.in_ok-gates.ensures.rising.shared c.in_ok-gates.ensures.rising.nots c.in_ok-add-2.ensures.added
