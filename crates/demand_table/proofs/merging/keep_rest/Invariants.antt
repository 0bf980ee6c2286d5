use Rattle.std.proofs.Common.{◌≡◌, ◌++◌, drop}
use Rattle.demand_table.proofs.merging.keep_rest.Given as goal

abbrev pub invariant-loop-at : goal.invariant-loop-at
invariant-loop-at l = l.nodes.items ++ drop l.at l.old ≡ l.fn.nodes.items ++ drop l.from l.old
