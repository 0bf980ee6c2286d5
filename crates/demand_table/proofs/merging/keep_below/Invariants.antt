use Rattle.std.proofs.Common.{◌≡◌, ◌++◌, drop}
use Rattle.demand_table.specs.Written.{nodes_below, not_below}
use Rattle.demand_table.proofs.merging.keep_below.Given as goal

abbrev pub invariant-loop-at : goal.invariant-loop-at
invariant-loop-at l = record {
  nodes : l.nodes.items ++ nodes_below l.arg (drop l.at l.old) ≡ l.fn.nodes.items ++ nodes_below l.arg (drop l.from l.old);
  rest : not_below l.arg (drop l.at l.old) ≡ not_below l.arg (drop l.from l.old);
}
