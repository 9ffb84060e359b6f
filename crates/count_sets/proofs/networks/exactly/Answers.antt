-- Two cells of the last row, or `false` and its Not where there are too few bodies.
use Rattle.std.proofs.Common.{◌≡◌, ◌+◌, false, arith}
use Rattle.count_sets.specs.Counting.{truth, least}
use Rattle.count_sets.specs.Tables.{UnfoldsTo, IsGateRow}
use Rattle.count_sets.proofs.Thresholds.{least_above}
use Rattle.count_sets.proofs.Ends.{false_stands, false_formed, cell_stands, both_last, both_formed}
use Rattle.count_sets.proofs.Sharing.{alone_shared, alone_nots, last_both_shared}
use Rattle.count_sets.proofs.networks.exactly.Goals as goal

pub returns-then-m-n-clause-formula : goal.returns-then-m-n-clause-formula
returns-then-m-n-clause-formula c =
    let less : least c.args.m c.args.n ≡ truth false = least_above c.args.m c.args.n (omega arith) in
    let none : least (c.args.m + 1) c.args.n ≡ truth false = least_above (c.args.m + 1) c.args.n (omega arith) in
    let stands : UnfoldsTo c.add.new.gates c.in_ok-no.no (truth false)
    = false_stands c.new-gates.result c.add.new.gates c.in_ok-no.no c.new-gates.ensures c.in_ok-no.ensures.added c.in_ok-no.ensures.number in
    rw (less, none) (both_last c.add.new.gates c.add-then-m-n.new.gates c.add-then-m-n-2.new.gates c.in_ok-no.no c.in_ok-no.no c.in_ok-within.within
    (truth false) (truth false) stands stands c.in_ok-within.ensures.added c.in_ok-within.ensures.number c.in_ok-add.ensures.added)

pub returns-clause-formula : goal.returns-clause-formula
returns-clause-formula c =
    let t : IsGateRow (record { bodies = c.args.n; lowest = c.args.m; highest = c.args.m + 1 }) c.args.n c.in_ok-gates.field-0.gates c.in_ok-gates.field-0.row.items
    = c.in_ok-gates.ensures.table in
    both_last c.in_ok-gates.field-0.gates c.add-2.new.gates c.add-3.new.gates c.index-2.result.now c.index.result.now c.in_ok-within-2.within
    (least c.args.m c.args.n) (least (c.args.m + 1) c.args.n)
    (cell_stands _ c.args.n c.in_ok-gates.field-0.gates c.in_ok-gates.field-0.row.items c.args.m c.index-2.result.now t (omega arith) (omega arith) c.index-2.ensures)
    (cell_stands _ c.args.n c.in_ok-gates.field-0.gates c.in_ok-gates.field-0.row.items (c.args.m + 1) c.index.result.now t (omega arith) (omega arith) c.index.ensures)
    c.in_ok-within-2.ensures.added c.in_ok-within-2.ensures.number c.in_ok-add-2.ensures.added

pub returns-clause-formed : goal.returns-clause-formed
returns-clause-formed c =
    let t : IsGateRow (record { bodies = c.args.n; lowest = c.args.m; highest = c.args.m + 1 }) c.args.n c.in_ok-gates.field-0.gates c.in_ok-gates.field-0.row.items
    = c.in_ok-gates.ensures.table in
    both_formed c.args.n c.in_ok-gates.field-0.gates c.add-2.new.gates c.add-3.new.gates c.index-2.result.now c.index.result.now c.in_ok-within-2.within
    (least c.args.m c.args.n) (least (c.args.m + 1) c.args.n) t.formed
    (cell_stands _ c.args.n c.in_ok-gates.field-0.gates c.in_ok-gates.field-0.row.items c.args.m c.index-2.result.now t (omega arith) (omega arith) c.index-2.ensures)
    (cell_stands _ c.args.n c.in_ok-gates.field-0.gates c.in_ok-gates.field-0.row.items (c.args.m + 1) c.index.result.now t (omega arith) (omega arith) c.index.ensures)
    c.in_ok-within-2.ensures.added c.in_ok-within-2.ensures.number c.in_ok-add-2.ensures.added

pub returns-then-m-n-clause-shared : goal.returns-then-m-n-clause-shared
returns-then-m-n-clause-shared c =
    let stands : UnfoldsTo c.add.new.gates c.in_ok-no.no (truth false)
    = false_stands c.new-gates.result c.add.new.gates c.in_ok-no.no c.new-gates.ensures c.in_ok-no.ensures.added c.in_ok-no.ensures.number in
    last_both_shared c.args.n c.add.new.gates c.add-then-m-n.new.gates c.add-then-m-n-2.new.gates c.in_ok-no.no c.in_ok-no.no c.in_ok-within.within
    (alone_shared c.new-gates.result c.add.new.gates false c.new-gates.ensures c.in_ok-no.ensures.added)
    (alone_nots c.new-gates.result c.add.new.gates false c.new-gates.ensures c.in_ok-no.ensures.added)
    (false_formed c.args.n c.new-gates.result c.add.new.gates c.new-gates.ensures c.in_ok-no.ensures.added) stands.within
    c.in_ok-within.ensures.added c.in_ok-within.ensures.number c.in_ok-add.ensures.added

pub returns-clause-shared : goal.returns-clause-shared
returns-clause-shared c =
    let t : IsGateRow (record { bodies = c.args.n; lowest = c.args.m; highest = c.args.m + 1 }) c.args.n c.in_ok-gates.field-0.gates c.in_ok-gates.field-0.row.items
    = c.in_ok-gates.ensures.table in
    last_both_shared c.args.n c.in_ok-gates.field-0.gates c.add-2.new.gates c.add-3.new.gates c.index-2.result.now c.index.result.now c.in_ok-within-2.within
    c.in_ok-gates.ensures.rising.shared c.in_ok-gates.ensures.rising.nots t.formed
    (cell_stands _ c.args.n c.in_ok-gates.field-0.gates c.in_ok-gates.field-0.row.items (c.args.m + 1) c.index.result.now t (omega arith) (omega arith) c.index.ensures).within
    c.in_ok-within-2.ensures.added c.in_ok-within-2.ensures.number c.in_ok-add-2.ensures.added
