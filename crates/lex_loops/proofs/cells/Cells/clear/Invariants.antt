use Rattle.lex_loops.proofs.Memories.{IsClearing}
use Rattle.lex_loops.proofs.cells.Cells.clear.Given as goal

abbrev pub invariant-loop-place : goal.invariant-loop-place
invariant-loop-place l = IsClearing l.start l.place l.logged l.fn.self.log.items l.fn.self.values.items l.self.log.items l.self.values.items
