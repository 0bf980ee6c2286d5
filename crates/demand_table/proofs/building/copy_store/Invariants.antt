use Rattle.std.proofs.Common.{◌≤◌, ◌-◌}
use Rattle.text_parts.specs.declared.names.TheConstants.{GREATEST_NAME}
use Rattle.demand_table.proofs.Copied.{IsCopied}
use Rattle.demand_table.proofs.building.copy_store.Given as goal

abbrev pub invariant-loop-name : goal.invariant-loop-name
invariant-loop-name l = record {
  within : l.last ≤ GREATEST_NAME;
  copied : IsCopied l.store l.programs l.folders l.last;
}

abbrev pub decreases-loop-name : goal.decreases-loop-name
decreases-loop-name l = GREATEST_NAME - l.last
