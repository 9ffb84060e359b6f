use Rattle.std.proofs.Common.{◌≡◌, ◌++◌, take, drop}
use Rattle.std.specs.List.{flat_map, zip, AllByRecursion}
use Rattle.obs_binary.specs.Layout.{pt_entry, FitsPt}
use Rattle.obs_binary.proofs.writer.put_pt.Given as goal

abbrev pub invariant-loop-i : goal.invariant-loop-i
invariant-loop-i l = record {
  written : l.out.items ++ flat_map pt_entry (zip (drop l.i l.ops) (drop l.i l.sizes)) ≡ l.initial.out.items ++ flat_map pt_entry (zip l.ops l.sizes);
  fits : AllByRecursion FitsPt (take l.i l.ops);
}
