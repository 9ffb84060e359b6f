use Rattle.std.proofs.lemmas.List.Elements.{recursion_from_All}
use Rattle.mltl_base.specs.Programs.{FitsRow}
use Rattle.booleanizer.proofs.Sound.{sound-computes}
use Rattle.booleanizer.proofs.soundness.sound_instructions_compute.Goals as goal

pub returns : goal.returns
returns c = λ row ops fit sound. sound-computes row ops (recursion_from_All (FitsRow row) ops fit) sound
