use Rattle.evidence.proofs.tests.gathered_alone.Given as goal

abbrev pub ghosts-gathered : goal.ghosts-gathered
ghosts-gathered a = record { name = a.blank.name; parts = a.blank.parts }
