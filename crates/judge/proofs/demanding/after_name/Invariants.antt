use Rattle.judge.specs.Changes.{AreChangesBefore}
use Rattle.judge.proofs.demanding.after_name.Given as goal

abbrev pub invariant-loop-index : goal.invariant-loop-index
invariant-loop-index g l = AreChangesBefore (g.V.View.store l.view) l.limit l.proposal (record { name = l.name; index = l.index }) l.changes
