use Rattle.std.proofs.Common.{◌≡◌, ◌++◌, drop}
use Rattle.demand_table.specs.Written.{merged}
use Rattle.demand_table.proofs.merging.merged.Given as goal

abbrev pub invariant-loop-arg : goal.invariant-loop-arg
invariant-loop-arg l = l.nodes.items ++ merged (drop l.at l.old) l.arg-iterator ≡ merged l.old l.fn.slots.entries
