use Rattle.std.proofs.Common.{◌≡◌}
use Rattle.tool_io.specs.MemFiles.{no_files}
use Rattle.worked_cases.proofs.host.put_files.Given as goal

abbrev pub invariant-loop-file : goal.invariant-loop-file
invariant-loop-file l = l.host.store.readings ≡ no_files.readings
