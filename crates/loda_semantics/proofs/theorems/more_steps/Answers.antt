use Rattle.loda_semantics.proofs.Laws.{more_steps, more-exec}
use Rattle.loda_semantics.proofs.theorems.more_steps.Goals as goal

pub returns-clause-runs : goal.returns-clause-runs
returns-clause-runs c = λ lib t m new n left more calls h. more-exec lib t m new n left more calls h

pub returns-clause-values : goal.returns-clause-values
returns-clause-values c = λ lib p x n more v used calls h. more_steps lib p x n more v used calls h
