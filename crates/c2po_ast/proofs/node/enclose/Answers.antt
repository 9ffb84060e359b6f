use Rattle.std.proofs.Common.{ap, refl, sym, ◌∙◌, map}
use Rattle.c2po_ast.specs.declared.tree.Node.{Group, Build}
use Rattle.c2po_ast.specs.Shape.{shape}
use Rattle.c2po_ast.specs.Parts.{enclosed}
use Rattle.c2po_ast.proofs.Rows.{shape_of-Group, shape_of-Build}
use Rattle.c2po_ast.proofs.node.enclose.Goals as goal

pub returns-in-Curly : goal.returns-in-Curly
returns-in-Curly c =
    shape_of-Group (record { line = c.in-Curly.line; node = Group c.args.elements }) c.args.elements refl
    ∙ ap (λ b. enclosed b (map shape c.args.elements.items)) (sym c.in-Curly.is)

pub returns-in-Call : goal.returns-in-Call
returns-in-Call c =
    shape_of-Build (record { line = c.in-Call.line; node = Build c.in-Call.name c.args.elements }) c.in-Call.name c.args.elements refl
    ∙ ap (λ b. enclosed b (map shape c.args.elements.items)) (sym c.in-Call.is)
