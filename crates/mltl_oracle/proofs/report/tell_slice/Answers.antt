-- A word more was told, or is told by a later report.
use Rattle.std.proofs.lemmas.List.{get_or_default}
use Rattle.mltl_oracle.proofs.Rows.{due_step, due_end}
use Rattle.mltl_oracle.proofs.report.tell_slice.Goals as goal

pub loop-t-preserved : goal.loop-t-preserved
loop-t-preserved c = due_step _ _ _ _ _ _ _ _ _ c.loop-t-test.true (get_or_default _ _ _ _ c.loop-t-test.true) (c.ends.ensures _) c.in_ok-put_if.ensures.told c.loop-t.invariant

pub returns-clause-told : goal.returns-clause-told
returns-clause-told c = due_end _ _ _ _ _ _ c.loop-t-test.false c.loop-t.invariant
