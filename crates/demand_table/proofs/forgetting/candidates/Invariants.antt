use Rattle.std.proofs.Common.{take, Contains}
use Rattle.std.specs.Prelude.{IsSome}
use Rattle.loda_semantics.specs.declared.kinds.Pair.{Pair}
use Rattle.demand_table.specs.Loaded.{node_at}
use Rattle.demand_table.specs.Mended.{run_at}
use Rattle.demand_table.proofs.forgetting.candidates.Given as goal

abbrev pub invariant-loop-run : goal.invariant-loop-run
invariant-loop-run l = (p : Pair) → IsSome (run_at (take l.run-index l.runs) p) → Contains l.pairs.items p

abbrev pub invariant-loop-name : goal.invariant-loop-name
invariant-loop-name l = record {
  frames : (p : Pair) → IsSome (run_at l.runs p) → Contains l.pairs.items p;
  named : (p : Pair) → Contains (take l.name-index l.names) p.name → IsSome (node_at l.known.pages.now p) → Contains l.pairs.items p;
}
