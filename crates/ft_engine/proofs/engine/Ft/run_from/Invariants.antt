use Rattle.ft_engine.proofs.engine.Ft.run_from.Given as goal

abbrev pub ghosts-look : goal.ghosts-look
ghosts-look a = record { name = a.blank.name; parts = a.blank.parts }
