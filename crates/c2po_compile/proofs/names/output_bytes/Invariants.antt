use Rattle.std.proofs.Common.{◌≡◌, ◌≤◌, ◌*◌, take, length}
use Rattle.std.specs.List.{flat_map}
use Rattle.mltl_base.specs.Programs.{out_name}
use Rattle.c2po_compile.proofs.names.output_bytes.Given as goal

-- the bytes of the names so far, at most 64 of each
abbrev pub invariant-loop-out : goal.invariant-loop-out
invariant-loop-out l = (l.bytes ≡ length (flat_map out_name (take l.out-index l.outs))) × (l.bytes ≤ 64 * l.out-index)
