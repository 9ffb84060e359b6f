use Rattle.std.proofs.Common.{length, take, ap, refl, arith}
use Rattle.c2po_ast.specs.declared.nodes.Plain.TheVariants.{Truth}
use Rattle.c2po_ast.specs.Nodes.{formula, trees}
use Rattle.mltl_simplify.proofs.Reading.{found, has_place}
use Rattle.mltl_simplify.proofs.Heads.{truth_told, none_told}
use Rattle.mltl_simplify.proofs.rules.truth_at.Goals as goal

pub bounds : goal.bounds
bounds c = omega (arith, has_place c.args.nodes.now c.args.n (formula c.requires.the) c.requires.has, ap length c.as_slice.ensures)

pub bounds-as_slice-n : goal.bounds-as_slice-n
bounds-as_slice-n c = omega (arith, has_place c.args.nodes.now c.args.n (formula c.requires.the) c.requires.has, ap length c.as_slice.ensures)

pub returns-in-Truth : goal.returns-in-Truth
returns-in-Truth c = λ p h.
    truth_told (trees (take c.args.n c.args.nodes.now)) c.in-Truth.value p
    (found c.args.nodes.now c.as_slice.result.now c.args.n (Truth c.in-Truth.value) (formula p) c.as_slice.ensures c.in-Truth.is h)

pub returns-in_default : goal.returns-in_default
returns-in_default c = λ p h.
    none_told (trees (take c.args.n c.args.nodes.now)) _ p
    (found c.args.nodes.now c.as_slice.result.now c.args.n _ (formula p) c.as_slice.ensures refl h) c.in_default.not-Truth
