use Rattle.std.proofs.lemmas.Result.{IfOk-weaker, IfErr-weaker}
use Rattle.c2po_ast.specs.ItemShape.{spec_shape}
use Rattle.c2po_parse.proofs.ItemCuts.{trees_sound, fault_sound, one_tree, no_tree}
use Rattle.c2po_parse.proofs.parser.parse.Goals as goal

pub returns-clause-tree : goal.returns-clause-tree
returns-clause-tree c =
    IfOk-weaker c.read_pieces.result _ _ (λ tree is. trees_sound c.args.tokens.now (spec_shape tree) is) c.read_pieces.ensures.tree

pub returns-clause-unique : goal.returns-clause-unique
returns-clause-unique c =
    IfOk-weaker c.read_pieces.result _ _
    (λ tree is items other. one_tree c.args.tokens.now items (spec_shape tree) other (trees_sound c.args.tokens.now (spec_shape tree) is))
    c.read_pieces.ensures.tree

pub returns-clause-no_tree : goal.returns-clause-no_tree
returns-clause-no_tree c =
    IfErr-weaker c.read_pieces.result _ _
    (λ fault is lasting items. no_tree c.args.tokens.now items fault (fault_sound c.args.tokens.now fault (is lasting))) c.read_pieces.ensures.fault

pub returns-clause-first_fault : goal.returns-clause-first_fault
returns-clause-first_fault c =
    IfErr-weaker c.read_pieces.result _ _ (λ fault is lasting. fault_sound c.args.tokens.now fault (is lasting)) c.read_pieces.ensures.fault
