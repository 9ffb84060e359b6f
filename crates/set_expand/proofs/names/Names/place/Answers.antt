use Rattle.std.proofs.Common.{◌++◌, ◌∷◌, [], sym, subst}
use Rattle.c2po_ast.specs.Nodes.{Has, tree_of, trees}
use Rattle.c2po_ast.proofs.Pushing.{has_new}
use Rattle.set_expand.specs.Nodes.{IsMore}
use Rattle.set_expand.proofs.Growing.{more_push}
use Rattle.set_expand.proofs.names.Names.place.Goals as goal

pub returns-clause-more : goal.returns-clause-more
returns-clause-more c =
    subst (IsMore c.args.self.now c.args.nodes.now) (sym c.in_ok-place.ensures.pushed)
    (more_push c.args.self.now c.args.nodes.now c.args.node c.requires.formed)

pub returns-clause-has : goal.returns-clause-has
returns-clause-has c =
    subst (λ ns. Has ns c.in_ok-place.place (tree_of (trees c.args.nodes.now) c.args.node)) (sym c.in_ok-place.ensures.pushed)
    (subst (λ n. Has (c.args.nodes.now ++ c.args.node ∷ []) n (tree_of (trees c.args.nodes.now) c.args.node)) (sym c.in_ok-place.ensures.place)
    (has_new c.args.nodes.now c.args.node))
