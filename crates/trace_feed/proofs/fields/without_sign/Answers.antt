use Rattle.trace_feed.proofs.DigitLaws.{after_sign}
use Rattle.trace_feed.proofs.fields.without_sign.Goals as goal

pub returns : goal.returns
returns c = after_sign c.args.field.now c.sign_size.result c.sign_size.ensures.size
