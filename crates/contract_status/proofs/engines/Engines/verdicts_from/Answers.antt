use Rattle.contract_status.proofs.Knowing.{future_shows}
use Rattle.contract_status.proofs.engines.Engines.verdicts_from.Goals as goal

pub returns-in-Ft : goal.returns-in-Ft
returns-in-Ft c =
    let readable = rw c.in-Ft.is at c.requires.readable in
    rw c.in-Ft.is (record { shows = λ program rows taken. future_shows program rows c.args.self.now.ft.now c.args.i c.args.from c.run_from.result taken.future readable.0 readable.1 c.run_from.ensures.shows })
