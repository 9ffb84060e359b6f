-- The demo's items have no fault.

use Rattle.std.proofs.Common.{◌≡◌, ◌∙◌, refl, sym}
use Rattle.std.specs.Prelude.{None}
use Rattle.mltl_base.specs.Ranges.{range}
use Rattle.c2po_ast.specs.Faults.{formula_fault}
use Rattle.c2po_ast.specs.Tenses.{has_past, has_future}
use Rattle.c2po_types.specs.Checking.{fault_of}
use Rattle.c2po_types.specs.FirstFault.{first_fault}
use Rattle.c2po_types.specs.Stepwise.{checked}
use Rattle.c2po_types.proofs.Ruling.{rule_is}
use Rattle.r2u2_cli.proofs.DemoTrees.{demo_items}

-- the check goes over each of them
all_pass : fault_of (checked demo_items) ≡ None
unfolding checked formula_fault has_past has_future range
all_pass = refl

pub faultless : first_fault demo_items ≡ None
faultless = sym (rule_is demo_items) ∙ all_pass
