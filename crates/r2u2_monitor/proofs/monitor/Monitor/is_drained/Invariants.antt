use Rattle.r2u2_monitor.proofs.monitor.Monitor.is_drained.Given as goal

abbrev pub ghosts-drained_alone : goal.ghosts-drained_alone
ghosts-drained_alone a = record { name = a.blank.name; parts = a.blank.parts }
