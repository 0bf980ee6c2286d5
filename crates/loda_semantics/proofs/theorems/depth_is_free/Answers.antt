use Rattle.loda_semantics.proofs.Laws.{same-deep}
use Rattle.loda_semantics.proofs.theorems.depth_is_free.Goals as goal

pub returns : goal.returns
returns c = λ lib d1 d2 p x n h1 h2. same-deep lib d1 d2 p x n h1 h2
