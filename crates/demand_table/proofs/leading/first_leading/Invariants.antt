use Rattle.std.proofs.Common.{ℕ, ◌<◌, pos}
use Rattle.demand_table.specs.Leading.{LeadsTo, AreBarren, HasJust}
use Rattle.demand_table.specs.Loaded.{node_at, the_pair}
use Rattle.demand_table.proofs.leading.first_leading.Given as goal

abbrev pub invariant-loop-index : goal.invariant-loop-index
invariant-loop-index l = record {
  none : (i : ℕ) → i < l.index → LeadsTo (node_at l.known.pages.now) (the_pair l.name (pos i)) l.to → ⊥;
  met : HasJust l.met l.pairs.items;
  barren : AreBarren (node_at l.known.pages.now) l.to l.pairs.items;
}
