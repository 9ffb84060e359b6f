use Rattle.std.proofs.Common.{ap, sym, ◌∙◌}
use Rattle.c2po_ast.specs.Shape.{shapes}
use Rattle.c2po_ast.proofs.Rows.{shape_of-Build, shape_of-Group}
use Rattle.c2po_types.specs.Values.{built, grouped}
use Rattle.c2po_types.specs.Environment.{value_of, values_of}
use Rattle.set_expand.specs.Heads.{env_in, named_value}
use Rattle.set_expand.proofs.names.Names.head_of.Goals as goal

pub returns-in-Build-clause-head : goal.returns-in-Build-clause-head
returns-in-Build-clause-head c =
    let env = env_in c.args.self.now c.in-Open.scope in
    sym (ap (named_value c.args.self.now) c.in-Open.is
    ∙ (ap (λ s. value_of s env) (shape_of-Build c.in-Open.expr.now c.in-Build.name c.in-Build.parts c.in-Build.is)
    ∙ ap (λ es. built c.in-Build.name (values_of (shapes es) env)) (sym c.as_slice.ensures.value)))

pub returns-in-Group-clause-head : goal.returns-in-Group-clause-head
returns-in-Group-clause-head c =
    let env = env_in c.args.self.now c.in-Open.scope in
    sym (ap (named_value c.args.self.now) c.in-Open.is
    ∙ (ap (λ s. value_of s env) (shape_of-Group c.in-Open.expr.now c.in-Group.members c.in-Group.is)
    ∙ ap (λ es. grouped (values_of (shapes es) env)) (sym c.as_slice-in-Group.ensures.value)))
