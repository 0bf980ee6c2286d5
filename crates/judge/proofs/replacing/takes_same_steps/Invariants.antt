use Rattle.judge.specs.Replaced.{TakesSameSteps}
use Rattle.judge.proofs.replacing.takes_same_steps.Given as goal

abbrev pub invariant-loop-index : goal.invariant-loop-index
invariant-loop-index g l = TakesSameSteps (g.V.View.store l.view) l.limit l.proposal.name l.proposal.program l.index
