use Rattle.r2u2_monitor.proofs.Taking.{takes_row}
use Rattle.r2u2_monitor.proofs.running.Running.repeat.Goals as goal

pub returns-clause-takes : goal.returns-clause-takes
returns-clause-takes g c =
    takes_row c.args.self.now c.args.last.now.numbers c.args.self.now.bz c.row.new.self c.row-2.new.self c.requires.drained c.requires.early c.requires.fit c.requires.seen c.row.ensures.stands c.row-2.ensures.stands
