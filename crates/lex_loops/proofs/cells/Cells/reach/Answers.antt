use Rattle.std.proofs.Common.{◌+◌, ◌≤◌, length, arith}
use Rattle.lex_loops.proofs.Memories.{memory_of-more}
use Rattle.lex_loops.proofs.cells.Cells.reach.Goals as goal

pub returns-in_ok-resize-clause-memory : goal.returns-in_ok-resize-clause-memory
returns-in_ok-resize-clause-memory c =
    memory_of-more _ _ _ _ _ (c.in_ok-resize.ensures.items) c.zero.ensures (let h : length c.args.self.now.values.items ≤ c.from-len.result + 1 = omega arith in h)
