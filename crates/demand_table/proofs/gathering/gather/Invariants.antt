use Rattle.std.proofs.Common.{◌≤◌, ◌-◌}
use Rattle.text_parts.specs.declared.names.TheConstants.{GREATEST_NAME}
use Rattle.demand_table.specs.Gathered.{IsGathered, HasRunsUpTo}
use Rattle.demand_table.proofs.gathering.gather.Given as goal

abbrev pub invariant-loop-name : goal.invariant-loop-name
invariant-loop-name l = record {
  within : l.last ≤ GREATEST_NAME;
  gathered : IsGathered l.store l.known.pages.now l.gathered;
  all : HasRunsUpTo l.store l.known.pages.now l.gathered l.last;
}

abbrev pub decreases-loop-name : goal.decreases-loop-name
decreases-loop-name l = GREATEST_NAME - l.last
