use Rattle.std.proofs.Common.{◌≡◌, take}
use Rattle.std.specs.List.{flat_map}
use Rattle.mltl_base.specs.Programs.{out_name}
use Rattle.obs_binary.proofs.writer.joined_out_names.Given as goal

abbrev pub invariant-loop-whole : goal.invariant-loop-whole
invariant-loop-whole l = l.names.items ≡ flat_map out_name (take l.whole-index l.outs)
