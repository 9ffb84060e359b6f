use Rattle.r2u2_monitor.proofs.monitor.Monitor.next.Given as goal

abbrev pub ghosts-next_alone : goal.ghosts-next_alone
ghosts-next_alone a = record { name = a.blank.name; parts = a.blank.parts }
