use Rattle.loda_semantics.proofs.Laws.{suffices}
use Rattle.loda_semantics.proofs.theorems.used_steps_suffice.Goals as goal

pub returns : goal.returns
returns c = λ lib p x n n' v used calls h. suffices lib p x n n' v used calls h
