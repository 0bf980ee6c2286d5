use Rattle.std.proofs.Common.{◌-◌, ◌^◌, Contains}
use Rattle.demand_table.specs.Upward.{names_filed_under, IsMetOnly}
use Rattle.demand_table.proofs.Rising.{IsRising}
use Rattle.demand_table.proofs.upward.callers_of.Given as goal

abbrev pub invariant-loop-next : goal.invariant-loop-next
invariant-loop-next l = record {
  rising : IsRising (names_filed_under l.callers) l.names.items l.next;
  met : IsMetOnly l.met l.names.items;
  has : Contains l.names.items l.name;
}

abbrev pub decreases-loop-next : goal.decreases-loop-next
decreases-loop-next l = 2 ^ 64 - l.next
