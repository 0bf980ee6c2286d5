use Rattle.proposer.proofs.tests.proposals_in.Given as goal

abbrev pub ghosts-proposed : goal.ghosts-proposed
ghosts-proposed a = record { name = a.blank.name; parts = a.blank.parts }
