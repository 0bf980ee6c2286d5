use Rattle.std.proofs.Common.{◌≤◌, ◌-◌}
use Rattle.judge.specs.Places.{ArePrograms}
use Rattle.judge.proofs.directory.table.Given as goal
use Rattle.text_parts.specs.declared.names.TheConstants.{GREATEST_NAME}

abbrev pub invariant-loop-name : goal.invariant-loop-name
invariant-loop-name g l = (l.last ≤ GREATEST_NAME) × ArePrograms (g.V.Library.programs l.view) l.places.items

abbrev pub decreases-loop-name : goal.decreases-loop-name
decreases-loop-name g l = GREATEST_NAME - l.last
