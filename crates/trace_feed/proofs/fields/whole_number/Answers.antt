use Rattle.std.proofs.Common.{◌∙◌, sym}
use Rattle.trace_feed.proofs.FieldLaws.{numeral_utf8, refused}
use Rattle.trace_feed.proofs.fields.whole_number.Goals as goal

pub unreachable-requires : goal.unreachable-requires
unreachable-requires c = c.in-Err.ensures.cases.0 (numeral_utf8 c.args.field.now (sym c.is_numeral.ensures ∙ c.if-not-is_numeral.false))

pub returns-in-Err-parse : goal.returns-in-Err-parse
returns-in-Err-parse c =
    refused c.args.field.now c.in-Err-parse.field-0 (rw c.in-Ok.ensures.cases.0 at c.in-Err-parse.ensures.value.0) (sym c.is_numeral.ensures ∙ c.if-not-is_numeral.false)
