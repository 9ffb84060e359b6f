use Rattle.std.proofs.Common.{length, ap, ◌∙◌}
use Rattle.c2po_compile.proofs.ColumnLaws.{names_differ}
use Rattle.c2po_compile.proofs.compiler.columns_named.Goals as goal

pub returns-clause-serve : goal.returns-clause-serve
returns-clause-serve c = record {
  one_each = c.in_ok-columns.ensures.one_each ∙ ap length c.signals_of.ensures.signals;
  below = c.in_ok-columns.ensures.below;
  different = c.in_ok-columns.ensures.different (names_differ c.signals_of.result.now c.signals_of.ensures.named);
  narrow = c.in_ok-columns.ensures.narrow;
}
