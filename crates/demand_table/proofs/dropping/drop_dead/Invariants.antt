use Rattle.std.proofs.Common.{◌+◌, ◌*◌, ◌^◌, vec_len}
use Rattle.demand_table.specs.Loaded.{slots_of, checks_in}
use Rattle.demand_table.specs.Work.{IsDropping, KeepsTotals, runs_in}
use Rattle.demand_table.proofs.dropping.drop_dead.Given as goal

abbrev pub invariant-loop-pair : goal.invariant-loop-pair
invariant-loop-pair l = record {
  dropping : IsDropping (checks_in l.checking) (runs_in (slots_of l.known.pages.now l.fn.work)) (slots_of l.known.pages.now l.work) l.pending.items l.left;
  totals : KeepsTotals (slots_of l.known.pages.now l.fn.work) (slots_of l.known.pages.now l.work);
}

abbrev pub decreases-loop-pair : goal.decreases-loop-pair
decreases-loop-pair l = l.left * 2 ^ 64 + vec_len l.pending
