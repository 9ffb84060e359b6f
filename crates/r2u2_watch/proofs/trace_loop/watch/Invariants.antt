use Rattle.r2u2_watch.proofs.trace_loop.watch.Given as goal

abbrev pub ghosts-turns : goal.ghosts-turns
ghosts-turns g a = record { name = a.blank.name; parts = a.blank.parts }
