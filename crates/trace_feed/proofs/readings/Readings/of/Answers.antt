use Rattle.std.proofs.Common.{◌≡◌, ap, subst, ◌∙◌, List, length}
use Rattle.mltl_base.specs.Lending.{with_members}
use Rattle.mltl_base.proofs.FixedMembers.{with_members_is}
use Rattle.mltl_base.specs.declared.operators.BzOp.{BzOp}
use Rattle.mltl_base.specs.declared.program.Program.{Program}
use Rattle.std.proofs.lemmas.List.{length-replicate}
use Rattle.trace_feed.specs.declared.fields.Reading.TheVariants.{Unread}
use Rattle.trace_feed.specs.Readings.{AreReadings}
use Rattle.trace_feed.specs.Rows.{reading_of}
use Rattle.trace_feed.proofs.ReadingLaws.{none_read, readings_are}
use Rattle.trace_feed.proofs.readings.Readings.of.Goals as goal

pub note_all-requires : goal.note_all-requires
note_all-requires c = none_read c.as_mut_slice.result.now c.program-program.result.now.width (c.as_mut_slice.ensures.value ∙ c.in_ok-columns.ensures)

pub returns : goal.returns
returns c =
    let program : Program = c.args.checked.now in
    let many : length c.note_all.new.readings ≡ length c.in_ok-columns.columns = c.note_all.ensures.many ∙ ap length c.as_mut_slice.ensures.value in
    let width : length c.note_all.new.readings ≡ program.width = many ∙ ap length c.in_ok-columns.ensures ∙ length-replicate c.program-program.result.now.width Unread ∙ ap (λ (p : Program). p.width) c.program-program.ensures.program in
    let written : with_members c.in_ok-columns.columns c.note_all.new.readings ≡ c.note_all.new.readings = with_members_is c.in_ok-columns.columns c.note_all.new.readings many in
    record {
      readings = written
          ∙ readings_are program c.note_all.new.readings width
          (subst (λ (ops : List BzOp). AreReadings (reading_of ops) c.note_all.new.readings) (c.as_slice.ensures ∙ ap (λ p. p.bz) c.program-program.ensures.program) c.note_all.ensures.noted);
      wide = ap length written ∙ width;
    }
