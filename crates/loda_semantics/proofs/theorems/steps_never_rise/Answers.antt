use Rattle.loda_semantics.proofs.Simulation.{left-exec}
use Rattle.loda_semantics.proofs.theorems.steps_never_rise.Goals as goal

pub returns : goal.returns
returns c = λ callee t m n. left-exec callee t m n
