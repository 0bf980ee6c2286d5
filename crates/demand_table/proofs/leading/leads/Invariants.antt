use Rattle.std.proofs.Common.{◌-◌, ◌^◌}
use Rattle.demand_table.specs.Leading.{HasJust}
use Rattle.demand_table.specs.Loaded.{node_at}
use Rattle.demand_table.proofs.Leads.{IsSearching}
use Rattle.demand_table.proofs.leading.leads.Given as goal

abbrev pub invariant-loop-next : goal.invariant-loop-next
invariant-loop-next l = record {
  searching : IsSearching (node_at l.known.pages.now) l.fn.from l.to l.fn.pairs.items l.pairs.items l.next;
  met : HasJust l.met l.pairs.items;
}

abbrev pub decreases-loop-next : goal.decreases-loop-next
decreases-loop-next l = 2 ^ 64 - l.next
