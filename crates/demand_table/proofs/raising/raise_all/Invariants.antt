use Rattle.std.proofs.Common.{take}
use Rattle.demand_table.specs.Loaded.{slots_of}
use Rattle.demand_table.specs.Work.{AreRaised}
use Rattle.demand_table.proofs.Lowering.{IsMet}
use Rattle.demand_table.proofs.raising.raise_all.Given as goal

abbrev pub invariant-loop-call : goal.invariant-loop-call
invariant-loop-call l = record {
  raised : AreRaised (slots_of l.known.pages.now l.fn.work) (slots_of l.known.pages.now l.work) (take l.call-index l.calls);
  met : IsMet l.met (take l.call-index l.calls);
}
