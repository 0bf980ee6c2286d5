use Rattle.std.proofs.Common.{vec_len}
use Rattle.lex_loops.proofs.Memories.{IsUndoing}
use Rattle.lex_loops.proofs.cells.Cells.undo_to.Given as goal

abbrev pub invariant-loop-self : goal.invariant-loop-self
invariant-loop-self l = IsUndoing l.len l.fn.self.log.items l.fn.self.values.items l.self.log.items l.self.values.items

abbrev pub decreases-loop-self : goal.decreases-loop-self
decreases-loop-self l = vec_len l.self.log
