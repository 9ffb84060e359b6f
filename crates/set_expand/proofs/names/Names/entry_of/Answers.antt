use Rattle.std.proofs.Common.{sym, ap, subst}
use Rattle.c2po_ast.specs.Shape.{shape}
use Rattle.c2po_types.specs.Environment.{value, value_of}
use Rattle.set_expand.specs.Nodes.{MadeAs}
use Rattle.set_expand.proofs.names.Names.entry_of.Goals as goal

pub returns-then-is_some-clause-means : goal.returns-then-is_some-clause-means
returns-then-is_some-clause-means c = ap (λ env. value (value_of (shape c.args.e.now) env)) c.requires.all

pub returns-then-is_some-clause-kept : goal.returns-then-is_some-clause-kept
returns-then-is_some-clause-kept c = λ nodes h made.
    subst (λ env. MadeAs nodes (value_of (shape c.args.e.now) env) c.args.made) (sym c.requires.all) made
