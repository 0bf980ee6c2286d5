use Rattle.std.proofs.Common.{◌+◌, ◌≡◌, ◌++◌}
use Rattle.std.specs.Prelude.{reverse}
use Rattle.publish_desk.specs.History.{changes_after}
use Rattle.publish_desk.proofs.desk.changes_at.Given as goal

abbrev pub invariant-loop-at : goal.invariant-loop-at
invariant-loop-at l = l.changes.items ++ changes_after (l.version + l.at-index) (reverse l.journal) ≡ changes_after l.version (reverse l.journal)
