use Rattle.std.proofs.Common.{ℕ, List, ◌++◌, take}
use Rattle.obs_show.specs.TableText.{HasText}
use Rattle.obs_show.specs.Table.{ft_record, csv_lines, numbered}
use Rattle.obs_show.proofs.table.put_ft.Given as goal

abbrev pub invariant-loop-i : goal.invariant-loop-i
invariant-loop-i l = (text : List ℕ) → HasText l.initial.lines text → HasText l.lines (text ++ csv_lines (numbered (ft_record l.checked) (take l.i l.op-items)))
