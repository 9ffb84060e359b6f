-- The lines of a well-formed program mean its formulas.

use Rattle.std.proofs.Common.{◌≡◌, map, None}
use Rattle.mltl_base.specs.declared.program.Program.{Program}
use Rattle.mltl_base.specs.Subformulas.{unfolded_outputs}
use Rattle.c2po_ast.specs.Outputs.{asked_over}
use Rattle.obs_verify.specs.WellFormed.{IsWellFormed}
use Rattle.c2po_types.specs.FirstFault.{first_fault}
use Rattle.c2po_types.specs.Outputs.{outputs_of}
use Rattle.obs_show.specs.Text.{shown_lines}
use Rattle.show_roundtrip.specs.Said.{line_items}
use Rattle.show_roundtrip.proofs.Fresh.{lines_are_new}
use Rattle.show_roundtrip.proofs.Formed.{well_formed_said}
use Rattle.show_roundtrip.proofs.Whole.{lines_ask}

pub program_asks : (program : Program) → IsWellFormed program → program.version ≡ 2 → first_fault (line_items 1 (shown_lines program)) ≡ None
    → map (asked_over (map (λ signal. signal.column) program.signals)) (outputs_of (line_items 1 (shown_lines program))) ≡ unfolded_outputs program
program_asks program formed version none = lines_ask program (well_formed_said program formed version) (lines_are_new (shown_lines program) none)
