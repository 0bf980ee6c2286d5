use Rattle.demand_table.specs.Gathered.{IsGathered, KeepsRuns, HasFirstRuns}
use Rattle.demand_table.proofs.gathering.with_name.Given as goal

abbrev pub invariant-loop-index : goal.invariant-loop-index
invariant-loop-index l = record {
  gathered : IsGathered l.store l.known.pages.now l.gathered;
  keeps : KeepsRuns l.known.pages.now l.fn.gathered l.gathered;
  here : HasFirstRuns l.known.pages.now l.gathered l.name l.index;
}
