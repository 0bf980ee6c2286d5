use Rattle.minimiser.proofs.Parts.{cut_from, cut_to}
use Rattle.minimiser.proofs.laws.cuts_take_parts.Goals as goal

pub returns : goal.returns
returns c = λ p place q is. (cut_from p place q is, cut_to p place q)
