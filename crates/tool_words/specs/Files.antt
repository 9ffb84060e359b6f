-- The file that a run reads whole: a specification, or a program.

use Rattle.std.specs.Prelude.{ℕ}
use Rattle.mltl_base.specs.declared.limits.TheConstants.{MAX_SPEC_BYTES, MAX_PROGRAM_BYTES}
use Rattle.tool_io.specs.declared.host.Place.{Place}
use Rattle.tool_io.specs.declared.host.Place.TheVariants as at
use Rattle.tool_words.specs.declared.file_kind.FileKind.{FileKind}
use Rattle.tool_words.specs.declared.file_kind.FileKind.TheVariants.{Spec, Program}
use Rattle.obs_binary.specs.declared.file_fault.FileFault.{FileFault}
use Rattle.obs_binary.specs.declared.file_fault.FileFault.TheVariants as file_fault
use Rattle.tool_words.specs.declared.status.Status as status

-- the place of the file
abbrev pub file_place : FileKind → Place
file_place Spec = at.Spec
file_place Program = at.Program

-- the most bytes that the file may have
abbrev pub file_limit : FileKind → ℕ
file_limit Spec = MAX_SPEC_BYTES
file_limit Program = MAX_PROGRAM_BYTES

-- the status of a run whose program isn't opened
abbrev pub file_status : FileFault → status.Status
file_status (file_fault.Program fault) = status.TheVariants.BadProgram fault
file_status file_fault.Memory = status.TheVariants.Memory
