use Rattle.std.proofs.Common.{◌∙◌}
use Rattle.api_tests.proofs.Kept.{after_attach}
use Rattle.api_tests.proofs.compared.ComparedHost.attach.Goals as goal

pub invariant_of-self : goal.invariant_of-self
invariant_of-self c whole =
    after_attach c.attach.result c.self.inside.host.tape.events c.attach.new.self.tape.events c.args.place c.args.name.now c.attach.ensures.log ∙ c.self.invariant whole
