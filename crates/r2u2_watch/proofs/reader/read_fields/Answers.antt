use Rattle.std.proofs.Common.{◌∙◌, ap, refl}
use Rattle.r2u2_monitor.specs.Monitoring.{program_of}
use Rattle.trace_feed.specs.Rows.{line_meaning}
use Rattle.r2u2_watch.specs.declared.reader.Reader as reader
use Rattle.r2u2_watch.specs.Turns.{line_fault}
use Rattle.r2u2_watch.proofs.reader.read_fields.Goals as goal

pub returns-in-Stamped-clause-told : goal.returns-in-Stamped-clause-told
returns-in-Stamped-clause-told c =
    ap (λ r. line_fault r (line_meaning (program_of c.args.monitor.now) c.args.fields.now)) c.in-Stamped.is
    ∙ ap (line_fault (reader.TheVariants.Stamped c.in-Stamped.field-0)) c.in-Blank.ensures.told

pub returns-in-Width-clause-told : goal.returns-in-Width-clause-told
returns-in-Width-clause-told c = ap (line_fault c.args.reader) c.in-Width.ensures.told

pub returns-in-NotWhole-clause-told : goal.returns-in-NotWhole-clause-told
returns-in-NotWhole-clause-told c = ap (line_fault c.args.reader) c.in-NotWhole.ensures.told

pub returns-in-OutOfRange-clause-told : goal.returns-in-OutOfRange-clause-told
returns-in-OutOfRange-clause-told c = ap (line_fault c.args.reader) c.in-OutOfRange.ensures.told

pub returns-in-Good-clause-told : goal.returns-in-Good-clause-told
returns-in-Good-clause-told c = (refl, refl, c.in-Good.ensures.told)

pub returns-in-Plain-clause-told : goal.returns-in-Plain-clause-told
returns-in-Plain-clause-told c = (c.in-Plain.is, c.in-Blank.ensures.told)
