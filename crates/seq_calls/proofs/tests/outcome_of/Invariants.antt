use Rattle.seq_calls.proofs.tests.outcome_of.Given as goal

abbrev pub ghosts-text_evaluated : goal.ghosts-text_evaluated
ghosts-text_evaluated a = record { name = a.blank.name; parts = a.blank.parts }
