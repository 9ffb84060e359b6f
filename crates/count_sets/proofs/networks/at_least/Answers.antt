-- The last row's cell, or one truth alone.
use Rattle.std.proofs.Common.{◌≡◌, ℕ, ◌<◌, false, arith, refl}
use Rattle.std.specs.Prelude.{nat_eq}
use Rattle.std.proofs.lemmas.Bool.Decides.{nat_tests}
use Rattle.count_sets.specs.Counting.{truth, least}
use Rattle.count_sets.proofs.Thresholds.{least_none, least_above}
use Rattle.count_sets.proofs.Ends.{truth_last, row_last}
use Rattle.count_sets.proofs.Sharing.{alone_shared}
use Rattle.count_sets.proofs.networks.at_least.Goals as goal
use Rattle.count_sets.proofs.networks.at_least.Goals.{then-m-eq0-via-then-m-eq0, then-m-eq0-via-else-m-eq0+then-m-n}

all_of_none : (m n : ℕ) → m ≡ 0 → least m n ≡ truth (nat_eq m 0)
all_of_none m n e = rw e (least_none n)

none_of_few : (m n : ℕ) → n < m → least m n ≡ truth (nat_eq m 0)
none_of_few m n h = let e : nat_eq m 0 ≡ false = grind (arith, nat_tests) in rw e (least_above m n h)

pub returns-then-m-eq0-clause-formula : goal.returns-then-m-eq0-clause-formula
returns-then-m-eq0-clause-formula c =
    truth_last c.new-gates.result c.add.new.gates (nat_eq c.args.m 0) c.args.m c.args.n c.new-gates.ensures c.in_ok-add.ensures.added
    (elim c.then-m-eq0.branch [
      | then-m-eq0-via-then-m-eq0 w ↦ all_of_none c.args.m c.args.n (omega arith)
      | then-m-eq0-via-else-m-eq0+then-m-n w ↦ none_of_few c.args.m c.args.n (omega arith)
    ])

pub returns-clause-formula : goal.returns-clause-formula
returns-clause-formula c =
    row_last (record { bodies = c.args.n; lowest = c.args.m; highest = c.args.m }) c.args.n c.args.m
    c.in_ok-gates.field-0.gates c.in_ok-gates.field-0.row.items c.in_ok-gates.ensures.table refl refl (omega arith) (omega arith) (omega arith)

pub returns-then-m-eq0-clause-shared : goal.returns-then-m-eq0-clause-shared
returns-then-m-eq0-clause-shared c =
    alone_shared c.new-gates.result c.add.new.gates (nat_eq c.args.m 0) c.new-gates.ensures c.in_ok-add.ensures.added

pub returns-clause-shared : goal.returns-clause-shared
returns-clause-shared c = c.in_ok-gates.ensures.rising.shared
