use Rattle.std.proofs.Common.{◌∙◌, ap, sym, take}
use Rattle.trace_feed.specs.Rows.{field_value}
use Rattle.trace_feed.proofs.DigitLaws.{numeral_ends, numeral_value}
use Rattle.trace_feed.proofs.fields.plain_field.Goals as goal

pub returns-then-may_end-clause-size : goal.returns-then-may_end-clause-size
returns-then-may_end-clause-size c =
    let numeral = c.in_ok-numeral.ensures in
    sym (numeral_ends c.args.line.now c.in_ok-numeral.numeral.size numeral.within numeral.numeral (c.may_end.ensures c.if-may_end.true))

pub returns-then-may_end-clause-value : goal.returns-then-may_end-clause-value
returns-then-may_end-clause-value c = λ reading.
    let numeral = c.in_ok-numeral.ensures in
    let line = c.args.line.now in
    let size = c.in_ok-numeral.numeral.size in
    ap (λ n. field_value reading (take n line)) (numeral_ends line size numeral.within numeral.numeral (c.may_end.ensures c.if-may_end.true))
    ∙ numeral_value reading (take size line) c.in_ok-numeral.numeral.number numeral.numeral numeral.number
