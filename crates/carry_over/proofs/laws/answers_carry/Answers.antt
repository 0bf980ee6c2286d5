use Rattle.carry_over.proofs.Wide.{carries}
use Rattle.carry_over.proofs.laws.answers_carry.Goals as goal

pub returns : goal.returns
returns c = λ older terms limit names newer q p. carries older terms limit names newer q p
