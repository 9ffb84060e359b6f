use Rattle.std.proofs.Common.{◌≢◌, rules, arith, get_or}
use Rattle.tool_words.proofs.NumberLaws.{number_in-read, number_in-refused}
use Rattle.tool_words.proofs.numbers.Numbers.read.Goals as goal

pub returns-in-Ok-clause-read : goal.returns-in-Ok-clause-read
returns-in-Ok-clause-read c =
    let no_plus : get_or c.args.text.now 0 0 ≢ 43 = search rules in
    number_in-read c.args.self.digits c.args.self.least c.args.self.greatest c.args.text.now c.in-Ok.n c.in-Ok.ensures.value.0 no_plus (omega (arith, c.if-text-self.false)) (omega (arith, c.if-self-n.true)) (omega (arith, c.if-n-self.true))

pub returns-in_default-3-clause-read : goal.returns-in_default-3-clause-read
returns-in_default-3-clause-read c =
    let no_plus : get_or c.args.text.now 0 0 ≢ 43 = search rules in
    number_in-refused c.args.self.digits c.args.self.least c.args.self.greatest c.args.text.now c.in_default.field-0 c.in_default.ensures.value.0 no_plus (omega (arith, c.well_formed))
