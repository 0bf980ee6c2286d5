use Rattle.lex_loops.proofs.Going.{GoesOn}
use Rattle.lex_loops.proofs.progress.Progress.run.Given as goal

abbrev pub invariant-loop-self : goal.invariant-loop-self
invariant-loop-self l = GoesOn l.list l.fn.self l.fn.budget l.self l.budget

abbrev pub decreases-loop-self : goal.decreases-loop-self
decreases-loop-self l = l.budget
