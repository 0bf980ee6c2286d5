use Rattle.std.proofs.Common.{take}
use Rattle.demand_table.specs.Leading.{AddsPairs, HasJust}
use Rattle.demand_table.proofs.leading.add_pairs.Given as goal

abbrev pub invariant-loop-pair : goal.invariant-loop-pair
invariant-loop-pair l = record {
  adds : AddsPairs l.fn.pairs.items l.pairs.items (take l.pair-index l.found);
  met : HasJust l.met l.pairs.items;
}
