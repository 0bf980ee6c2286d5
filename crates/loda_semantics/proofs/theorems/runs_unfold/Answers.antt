use Rattle.std.proofs.Common.{suc, ap}
use Rattle.loda_semantics.specs.Exec.{exec, run_deep}
use Rattle.loda_semantics.proofs.Simulation.{left-exec}
use Rattle.loda_semantics.proofs.Turns.{turns-is}
use Rattle.loda_semantics.proofs.Laws.{run_text-is}
use Rattle.loda_semantics.proofs.theorems.runs_unfold.Goals as goal

pub returns-clause-texts : goal.returns-clause-texts
returns-clause-texts c = λ lib p x n. run_text-is lib p x n

pub returns-clause-names : goal.returns-clause-names
returns-clause-names c = (λ lib q p x n e. ap (λ o. run_deep lib (suc n) o x n) e, λ lib q x n e. ap (λ o. run_deep lib (suc n) o x n) e)

pub returns-clause-turns : goal.returns-clause-turns
returns-clause-turns c = λ callee body k len m n. turns-is (exec callee body) (λ m n. left-exec callee body m n) k len m n
