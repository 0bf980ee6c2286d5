use Rattle.evidence.proofs.mended_tests.judged_alone.Given as goal

abbrev pub ghosts-judged : goal.ghosts-judged
ghosts-judged a = record { name = a.blank.name; parts = a.blank.parts }
