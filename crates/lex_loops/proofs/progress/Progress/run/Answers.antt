use Rattle.std.proofs.Common.{sym, subst, ◌∙◌}
use Rattle.lex_loops.specs.Steps.{memory_in, run_in, answered_in, Steps}
use Rattle.lex_loops.proofs.Going.{stops-after, ends}
use Rattle.lex_loops.proofs.progress.Progress.run.Goals as goal

pub returns-in-Some-clause-stops : goal.returns-in-Some-clause-stops
returns-in-Some-clause-stops c =
    let took = subst (λ s. Steps c.args.list.now c.loop-self.self c.loop-self.budget s c.step.new.budget c.step.new.self) c.in-Some.is c.in_ok-stop.ensures.steps in
    stops-after (λ callee. run_in callee c.args.list.now c.args.self.now c.args.budget.now) (λ callee. run_in callee c.args.list.now c.loop-self.self c.loop-self.budget) c.in-Some.stop c.step.new.budget
    (λ callee. answered_in callee c.args.list.now c.step.new.self) c.loop-self.invariant.same took.0

pub returns-clause-stops : goal.returns-clause-stops
returns-clause-stops c = λ callee. (
  memory_in c.loop-self.self,
  c.loop-self.invariant.same callee ∙ ends c.args.list.now c.loop-self.self c.loop-self.budget c.loop-self-test.false c.loop-self.invariant.under_way callee,
  sym c.read.ensures,
)
