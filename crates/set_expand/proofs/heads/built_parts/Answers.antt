use Rattle.std.proofs.Common.{ap, sym, ◌∙◌}
use Rattle.c2po_ast.specs.Shape.{shapes}
use Rattle.c2po_ast.proofs.Rows.{shape_of-Build}
use Rattle.c2po_types.specs.Values.{built}
use Rattle.c2po_types.specs.Environment.{value_of, values_of}
use Rattle.set_expand.proofs.heads.built_parts.Goals as goal

pub returns-in-Build-clause-built : goal.returns-in-Build-clause-built
returns-in-Build-clause-built c = λ env.
    ap (λ s. value_of s env) (shape_of-Build c.args.e.now c.in-Build.name c.in-Build.parts c.in-Build.is)
    ∙ ap (λ es. built c.in-Build.name (values_of (shapes es) env)) (sym c.as_slice.ensures.value)
