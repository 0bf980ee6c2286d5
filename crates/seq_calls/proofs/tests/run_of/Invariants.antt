use Rattle.seq_calls.proofs.tests.run_of.Given as goal

abbrev pub ghosts-evaluated : goal.ghosts-evaluated
ghosts-evaluated a = record { name = a.blank.name; parts = a.blank.parts }
