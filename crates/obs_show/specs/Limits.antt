-- The reason why a program has no text.

use Rattle.std.specs.Prelude.{if◌then◌else◌, nat_lt, Option, Some, None, length}
use Rattle.mltl_base.specs.declared.limits.TheConstants.{MAX_SHOWN_BYTES, MAX_WEIGHT}
use Rattle.mltl_base.specs.declared.program.Program.{Program}
use Rattle.obs_show.specs.declared.fault.ShowFault.{ShowFault}
use Rattle.obs_show.specs.declared.fault.ShowFault.TheVariants.{TooLong, Wide}
use Rattle.obs_show.specs.Text.{text}
use Rattle.obs_show.specs.Weight.{program_weight}

-- the first limit that a program is past, if any: the bytes of its text, then its weight
abbrev pub show_fault : Program → Option ShowFault
show_fault program =
    if nat_lt MAX_SHOWN_BYTES (length (text program)) then Some TooLong
    else if nat_lt MAX_WEIGHT (program_weight program) then Some Wide
    else None
