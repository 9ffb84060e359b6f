use Rattle.std.proofs.Common.{◌≡◌, ◌++◌, take}
use Rattle.std.specs.List.{flat_map, AllByRecursion}
use Rattle.obs_binary.specs.Layout.{out_entry, out_head, FitsOut}
use Rattle.obs_binary.proofs.writer.put_outs.Given as goal

abbrev pub invariant-loop-whole : goal.invariant-loop-whole
invariant-loop-whole l = record {
  written : l.out.items ≡ l.initial.out.items ++ flat_map (λ o. out_entry (out_head o)) (take l.whole-index l.outs);
  fits : AllByRecursion FitsOut (take l.whole-index l.outs);
}
