use Rattle.r2u2_monitor.proofs.monitor.Monitor.take.Given as goal

abbrev pub ghosts-take_alone : goal.ghosts-take_alone
ghosts-take_alone a = record { name = a.blank.name; parts = a.blank.parts }
