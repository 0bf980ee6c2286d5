use Rattle.minimiser.proofs.tests.least_of.Given as goal

abbrev pub ghosts-minimised : goal.ghosts-minimised
ghosts-minimised a = record { name = a.blank.name; parts = a.blank.parts }
