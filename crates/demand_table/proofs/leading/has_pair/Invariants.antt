use Rattle.std.proofs.Common.{take, Contains}
use Rattle.demand_table.proofs.leading.has_pair.Given as goal

abbrev pub invariant-loop-other : goal.invariant-loop-other
invariant-loop-other l = Contains (take l.other-index l.list) l.pair → ⊥
