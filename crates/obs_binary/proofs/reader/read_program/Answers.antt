use Rattle.std.proofs.Common.{ap, subst, ◌∙◌, arith}
use Rattle.obs_binary.specs.Reading.{GivesReading, program_at}
use Rattle.obs_binary.proofs.Whole.{is-found, program-again}
use Rattle.obs_binary.proofs.reader.read_program.Goals as goal

pub returns-clause-found : goal.returns-clause-found
returns-clause-found c = is-found c.args.bytes.now c.read_whole.result (λ i. omega (arith, c.type_inv.bytes i)) c.read_whole.ensures

pub returns-clause-only : goal.returns-clause-only
returns-clause-only c = λ program fits e. subst (λ read. GivesReading (λ x. x) c.read_whole.result read) (ap program_at e ∙ program-again program fits) c.read_whole.ensures
