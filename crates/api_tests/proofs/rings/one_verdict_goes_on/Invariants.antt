use Rattle.api_tests.proofs.rings.one_verdict_goes_on.Given as goal

abbrev pub ghosts-show : goal.ghosts-show
ghosts-show g a = record { name = a.blank.name; parts = a.blank.parts }
