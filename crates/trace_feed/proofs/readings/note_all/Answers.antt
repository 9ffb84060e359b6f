use Rattle.std.proofs.Common.{List, subst, sym, take, ◌∙◌}
use Rattle.std.proofs.lemmas.List.{take_more}
use Rattle.mltl_base.specs.declared.operators.BzOp.{BzOp}
use Rattle.mltl_base.specs.declared.operators.BzOp.TheVariants.{Column}
use Rattle.trace_feed.specs.Readings.{AreReadings}
use Rattle.trace_feed.specs.Rows.{reading_of}
use Rattle.trace_feed.proofs.readings.note_all.Goals as goal

pub loop-op-preserved : goal.loop-op-preserved
loop-op-preserved c =
    let ops : List BzOp = c.args.ops.now in
    record {
      many = c.note.ensures.many ∙ c.loop-op.invariant.many;
      noted = subst (λ (earlier : List BzOp). AreReadings (reading_of earlier) c.note.new.readings) (sym (take_more ops c.loop-op.op-index (Column 0) c.loop-op-test.true))
          (c.note.ensures.noted (take c.loop-op.op-index ops) c.loop-op.invariant.noted);
    }
