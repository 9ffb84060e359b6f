-- The next word, if there is one, is the first of the rest.
use Rattle.std.proofs.Common.{arith}
use Rattle.mltl_oracle.proofs.Rows.{goes_read}
use Rattle.mltl_oracle.proofs.report.continues.Goals as goal

pub returns-then-t-ws : goal.returns-then-t-ws
returns-then-t-ws c = λ w. goes_read c.args.ws.now c.args.t w c.same.result (omega arith) c.same.ensures
