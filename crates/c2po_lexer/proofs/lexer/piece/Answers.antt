use Rattle.std.proofs.Common.{◌∙◌, ap}
use Rattle.std.proofs.lemmas.List.{take_rest}
use Rattle.c2po_lexer.specs.Cut.{size_of}
use Rattle.c2po_lexer.proofs.Steps.{after_piece}
use Rattle.c2po_lexer.proofs.lexer.piece.Goals as goal

pub returns-clause-next : goal.returns-clause-next
returns-clause-next c =
    after_piece c.args.text.now c.args.at.start c.size.result c.args.at.line c.newlines.result _ c.requires.inside
    (take_rest c.args.text.now c.args.at.start) (c.size.ensures ∙ ap size_of c.of-front.ensures.longest)
    (rw c.size.ensures c.of-front.ensures.inside) c.requires.line c.newlines.ensures
