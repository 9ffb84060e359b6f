use Rattle.contract_status.proofs.Stretching.{covers_longest, covers_one}
use Rattle.contract_status.proofs.engines.Stretch.last_covered.Goals as goal

pub returns-in-Each : goal.returns-in-Each
returns-in-Each c = rw c.in-Each.is (record { covers = λ told longest. covers_one told c.args.from c.args.self.last c.args.self.word longest })

pub returns-in-Runs : goal.returns-in-Runs
returns-in-Runs c = rw c.in-Runs.is (record { covers = λ told longest. covers_longest told c.args.from c.args.self.last c.args.self.word longest })
