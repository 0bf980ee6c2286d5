use Rattle.std.proofs.Common.{◌≡◌, drop}
use Rattle.lex_loops.specs.Memories.{memory_of, before}
use Rattle.lex_loops.proofs.cells.Cells.read_before.Given as goal

abbrev pub invariant-loop-write : goal.invariant-loop-write
invariant-loop-write l =
    before (drop l.write-index l.writes) (memory_of l.self.values.items) l.address ≡ before (drop l.len l.self.log.items) (memory_of l.self.values.items) l.address
