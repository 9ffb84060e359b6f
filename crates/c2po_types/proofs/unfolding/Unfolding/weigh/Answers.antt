use Rattle.std.proofs.Common.{◌∙◌}
use Rattle.c2po_ast.specs.Shape.{shape}
use Rattle.c2po_types.proofs.Knowing.{tells_fault, tells_past, tells_future}
use Rattle.c2po_types.specs.Environment.{value_of}
use Rattle.c2po_types.specs.Values.{tree_in}
use Rattle.c2po_types.proofs.unfolding.Unfolding.weigh.Goals as goal

pub returns-clause-weighs : goal.returns-clause-weighs
returns-clause-weighs c = λ env h.
    let o = tree_in (value_of (shape c.args.e.now) env) in
    let found = c.in_ok-weight.ensures.holds env h in
    record {
      weight = found.weight;
      fault = c.fault_of.ensures ∙ tells_fault c.in_ok-weight.field-0.fact o found.fact;
      past = c.tenses_of.ensures.past ∙ tells_past c.in_ok-weight.field-0.fact o found.fact;
      future = c.tenses_of.ensures.future ∙ tells_future c.in_ok-weight.field-0.fact o found.fact;
    }
