use Rattle.minimiser.proofs.Least.{unfolds}
use Rattle.minimiser.proofs.laws.minimum_unfolds.Goals as goal

pub returns : goal.returns
returns c = λ lib args limit p is. unfolds lib args limit p is
