use Rattle.std.proofs.Common.{◌≡◌, ◌+◌, ◌-◌, drop}
use Rattle.loda_semantics.specs.Memory.{is_less}
use Rattle.lex_loops.specs.Memories.{memory_of, before}
use Rattle.lex_loops.proofs.cells.Cells.is_less.Given as goal

abbrev pub invariant-loop-place : goal.invariant-loop-place
invariant-loop-place l =
    is_less l.count l.start (memory_of l.self.values.items) (before (drop l.len l.self.log.items) (memory_of l.self.values.items))
    ≡ is_less (l.count - l.place) (l.start + l.place) (memory_of l.self.values.items) (before (drop l.len l.self.log.items) (memory_of l.self.values.items))
