use Rattle.std.proofs.Common.{◌≤◌, ◌-◌}
use Rattle.judge.proofs.directory.count.Given as goal
use Rattle.text_parts.specs.declared.names.TheConstants.{GREATEST_NAME}

abbrev pub invariant-loop-name : goal.invariant-loop-name
invariant-loop-name g l = (l.count ≤ l.last) × (l.last ≤ GREATEST_NAME)

abbrev pub decreases-loop-name : goal.decreases-loop-name
decreases-loop-name g l = GREATEST_NAME - l.last
