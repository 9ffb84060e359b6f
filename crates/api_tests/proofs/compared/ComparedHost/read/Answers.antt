use Rattle.std.proofs.Common.{◌∙◌, ◌++◌, ◌∷◌, [], ap, sym, take}
use Rattle.tool_io.specs.declared.host.Place.TheVariants.{Program}
use Rattle.tool_io.specs.Log.{Took, taken}
use Rattle.api_tests.proofs.Kept.{after_bytes, after_end}
use Rattle.api_tests.proofs.compared.ComparedHost.read.Goals as goal

pub invariant_of-self : goal.invariant_of-self
invariant_of-self c whole =
    let into = c.read-got.new.into in
    after_bytes c.in-Bytes.n c.self.inside.host.tape.events c.read-got.new.self.tape.events c.args.place into c.in-Bytes.ensures.log
    ∙ ap (λ bytes. bytes ++ taken Program (Took c.args.place (take c.in-Bytes.n into) ∷ [])) (c.self.invariant (c.both-self-inside.ensures.first whole))
    ∙ sym (c.keep-kept.ensures (c.both-self-inside.ensures.second whole))

pub invariant_of-self-in-End : goal.invariant_of-self-in-End
invariant_of-self-in-End c whole =
    after_end c.self.inside.host.tape.events c.read-got.new.self.tape.events c.args.place c.read-got.new.into c.in-End.ensures.log ∙ c.self.invariant whole
