use Rattle.std.proofs.Common.{◌*◌, ◌-◌, ◌⊎◌, Contains, length}
use Rattle.std.specs.Prelude.{IsSome}
use Rattle.demand_table.specs.Loaded.{slots_of}
use Rattle.demand_table.specs.Settling.{IsStacked, Settles, pairs_of}
use Rattle.demand_table.proofs.settling.settle.Given as goal

abbrev pub invariant-loop-frame : goal.invariant-loop-frame
invariant-loop-frame l = record {
  stacked : IsStacked (slots_of l.known.pages.now l.work) l.stack.items l.left;
  settles : Settles (slots_of l.known.pages.now l.fn.work) (slots_of l.known.pages.now l.work);
  waits : Contains (pairs_of l.stack.items) l.pair ⊎ IsSome (slots_of l.known.pages.now l.work l.pair).total;
}

abbrev pub decreases-loop-frame : goal.decreases-loop-frame
decreases-loop-frame l = 2 * l.left - length l.stack.items
