use Rattle.std.proofs.Common.{◌≡◌, length, map, sym, ◌∙◌, Ok, rules}
use Rattle.c2po_ast.specs.ItemShape.{item_shape}
use Rattle.c2po_lexer.specs.Tokens.{HasPlainLetters}
use Rattle.c2po_parse.proofs.Words.{words-all}
use Rattle.c2po_parse.specs.Specification.{spec_of}
use Rattle.c2po_parse.proofs.Spans.{reads_all, reads_end}
use Rattle.c2po_parse.proofs.ItemNames.{spec-names}
use Rattle.c2po_parse.proofs.parser.read_pieces.Goals as goal

pub loop-rest-init : goal.loop-rest-init
loop-rest-init c = rw (c.new-items.ensures, c.as_slice-rest.ensures) (reads_all c.args.tokens.now)

pub returns-clause-tree : goal.returns-clause-tree
returns-clause-tree c =
    let none : length c.loop-rest.rest.now ≡ 0 = search rules in
    sym c.loop-rest.invariant ∙ reads_end (map item_shape c.loop-rest.items) c.loop-rest.section c.loop-rest.rest.now none

pub returns-clause-names : goal.returns-clause-names
returns-clause-names c =
    λ all. let none : length c.loop-rest.rest.now ≡ 0 = search rules in
    let tree : spec_of c.args.tokens.now ≡ Ok (map item_shape c.loop-rest.items) =
    sym c.loop-rest.invariant ∙ reads_end (map item_shape c.loop-rest.items) c.loop-rest.section c.loop-rest.rest.now none in
    spec-names c.args.tokens.now (map item_shape c.loop-rest.items) tree (words-all HasPlainLetters c.args.tokens.now all)
