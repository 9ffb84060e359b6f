use Rattle.std.proofs.Common.{◌≡◌, ◌++◌, take}
use Rattle.std.specs.List.{flat_map, AllByRecursion}
use Rattle.obs_binary.specs.Layout.{bz_entry, FitsBz}
use Rattle.obs_binary.proofs.writer.put_bz.Given as goal

abbrev pub invariant-loop-op : goal.invariant-loop-op
invariant-loop-op l = record {
  written : l.out.items ≡ l.initial.out.items ++ flat_map bz_entry (take l.op-index l.ops);
  fits : AllByRecursion FitsBz (take l.op-index l.ops);
}
