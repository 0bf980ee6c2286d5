use Rattle.std.proofs.Common.{◌≤◌, ◌+◌, ◌-◌}
use Rattle.judge.specs.Changes.{AreChangesBefore, first_run}
use Rattle.judge.proofs.demanding.changes_of.Given as goal
use Rattle.text_parts.specs.declared.names.TheConstants.{GREATEST_NAME}

abbrev pub invariant-loop-name : goal.invariant-loop-name
invariant-loop-name g l = (l.last ≤ GREATEST_NAME) × AreChangesBefore (g.V.View.store l.view) l.limit l.proposal (first_run (l.last + 1)) l.changes

abbrev pub decreases-loop-name : goal.decreases-loop-name
decreases-loop-name g l = GREATEST_NAME - l.last
