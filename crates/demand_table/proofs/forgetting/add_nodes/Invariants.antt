use Rattle.std.proofs.Common.{take, Contains, ◌≡◌}
use Rattle.std.specs.Prelude.{IsSome}
use Rattle.loda_semantics.specs.declared.kinds.Pair.{Pair}
use Rattle.demand_table.specs.Loaded.{node_in}
use Rattle.demand_table.proofs.forgetting.add_nodes.Given as goal

abbrev pub invariant-loop-node : goal.invariant-loop-node
invariant-loop-node l = record {
  kept : (p : Pair) → Contains l.fn.pairs.items p → Contains l.pairs.items p;
  nodes : (p : Pair) → p.name ≡ l.name → IsSome (node_in (take l.node-index l.node-items) p.arg) → Contains l.pairs.items p;
}
