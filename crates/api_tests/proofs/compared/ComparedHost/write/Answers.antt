use Rattle.std.proofs.Common.{◌∙◌}
use Rattle.api_tests.proofs.Kept.{after_write}
use Rattle.api_tests.proofs.compared.ComparedHost.write.Goals as goal

pub invariant_of-self : goal.invariant_of-self
invariant_of-self c whole =
    after_write c.write.result c.self.inside.host.tape.events c.write.new.self.tape.events c.args.place c.args.piece.now c.write.ensures.log ∙ c.self.invariant whole
