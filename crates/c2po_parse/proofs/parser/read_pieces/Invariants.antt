use Rattle.std.proofs.Common.{◌≡◌, length, map}
use Rattle.c2po_ast.specs.ItemShape.{item_shape}
use Rattle.c2po_parse.specs.Specification.{reads_on, spec_of}
use Rattle.c2po_parse.proofs.parser.read_pieces.Given as goal

abbrev pub invariant-loop-rest : goal.invariant-loop-rest
invariant-loop-rest l = reads_on (map item_shape l.items) l.section l.rest ≡ spec_of l.tokens

abbrev pub decreases-loop-rest : goal.decreases-loop-rest
decreases-loop-rest l = length l.rest
