use Rattle.std.proofs.Common.{subst, arith}
use Rattle.c2po_ast.specs.Shape.{shape}
use Rattle.c2po_parse.specs.Gives.{GivesTree}
use Rattle.c2po_parse.proofs.Agree.{agree}
use Rattle.c2po_parse.proofs.expression.read_expression.Goals as goal

pub returns : goal.returns
returns c = record { tree = subst (GivesTree shape c.climbed.result) (agree 4097 c.args.tokens.now (omega arith)) c.climbed.ensures }
