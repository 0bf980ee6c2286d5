use Rattle.mine_workers.proofs.source.supplied_alone.Given as goal

abbrev pub ghosts-supplied : goal.ghosts-supplied
ghosts-supplied a = record { name = a.blank.name; parts = a.blank.parts }
