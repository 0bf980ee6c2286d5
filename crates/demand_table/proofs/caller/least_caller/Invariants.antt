use Rattle.std.proofs.Common.{◌≤◌, ◌-◌}
use Rattle.text_parts.specs.declared.names.TheConstants.{GREATEST_NAME}
use Rattle.demand_table.specs.Leading.{AreBarren, HasJust}
use Rattle.demand_table.specs.Loaded.{node_at}
use Rattle.demand_table.proofs.Demanders.{NoneUpTo}
use Rattle.demand_table.proofs.caller.least_caller.Given as goal

abbrev pub invariant-loop-name : goal.invariant-loop-name
invariant-loop-name l = record {
  within : l.last ≤ GREATEST_NAME;
  below : NoneUpTo l.programs l.to.name l.to.arg l.last;
  met : HasJust l.met l.pairs.items;
  barren : AreBarren (node_at l.known.pages.now) l.to l.pairs.items;
}

abbrev pub decreases-loop-name : goal.decreases-loop-name
decreases-loop-name l = GREATEST_NAME - l.last
