use Rattle.std.proofs.Common.{◌≡◌, ◌++◌, drop, map, take}
use Rattle.mltl_base.specs.declared.program.Program.{Program}
use Rattle.obs_verify.specs.Bound.{bound_op}
use Rattle.obs_verify.proofs.columns.move_reads.Given as goal

abbrev pub invariant-loop-i : goal.invariant-loop-i
invariant-loop-i l =
    let old : Program = l.initial.program in
    l.program ≡ record old { bz = map (bound_op old.signals l.columns) (take l.i old.bz) ++ drop l.i old.bz }
