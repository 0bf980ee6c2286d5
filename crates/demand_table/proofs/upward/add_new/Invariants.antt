use Rattle.std.proofs.Common.{take}
use Rattle.demand_table.specs.Upward.{AddsNames, IsMetOnly}
use Rattle.demand_table.proofs.upward.add_new.Given as goal

abbrev pub invariant-loop-name : goal.invariant-loop-name
invariant-loop-name l = record {
  adds : AddsNames l.fn.names.items l.names.items (take l.name-index l.found);
  met : IsMetOnly l.met l.names.items;
}
