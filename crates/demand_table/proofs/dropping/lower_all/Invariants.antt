use Rattle.std.proofs.Common.{take}
use Rattle.demand_table.specs.Loaded.{slots_of}
use Rattle.demand_table.specs.Work.{AreLowered}
use Rattle.demand_table.proofs.Lowering.{IsMet}
use Rattle.demand_table.proofs.dropping.lower_all.Given as goal

abbrev pub invariant-loop-call : goal.invariant-loop-call
invariant-loop-call l = record {
  lowered : AreLowered (slots_of l.known.pages.now l.fn.work) (slots_of l.known.pages.now l.work) (take l.call-index l.calls) l.fn.pending.items l.pending.items;
  met : IsMet l.met (take l.call-index l.calls);
}
