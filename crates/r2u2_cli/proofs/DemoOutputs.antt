-- What the demo's items ask for, and the limits that it keeps.

use Rattle.std.proofs.Common.{◌≡◌, refl}
use Rattle.std.specs.Prelude.{None}
use Rattle.mltl_base.specs.Atoms.{atom_over, term_over}
use Rattle.mltl_base.specs.Formula.{core, formula_over, neg}
use Rattle.mltl_base.specs.Queues.{greatest, numbered_after}
use Rattle.mltl_base.specs.Subformulas.{add_expressions, add_subformulas, add_terms, listed, place_of, same, same_atom, same_expression, same_term}
use Rattle.c2po_types.specs.Outputs.{asked_from, outputs_of}
use Rattle.c2po_compile.specs.Image.{over_columns}
use Rattle.c2po_compile.specs.Limits.{limit_refusal}
use Rattle.r2u2_monitor.specs.Header.{columns_in_order}
use Rattle.r2u2_cli.specs.Text.{demo_outputs}
use Rattle.r2u2_cli.proofs.DemoTrees.{demo_items}

pub outputs_found : outputs_of demo_items ≡ demo_outputs
unfolding outputs_of asked_from
outputs_found = refl

pub within_limits : limit_refusal (over_columns (columns_in_order 3) demo_outputs) ≡ None
unfolding limit_refusal core neg greatest numbered_after add_expressions add_subformulas add_terms listed place_of same same_atom same_expression same_term formula_over atom_over term_over
within_limits = refl
