use Rattle.std.proofs.Common.{length, sym}
use Rattle.c2po_compile.proofs.ColumnLaws.{order_serves}
use Rattle.c2po_compile.proofs.compiler.columns_in_order.Goals as goal

pub returns-clause-serve : goal.returns-clause-serve
returns-clause-serve c = rw (c.in_ok-columns.ensures, sym c.signals_of.ensures.signals) (order_serves (length c.signals_of.result.now) c.signals_of.ensures.few)
