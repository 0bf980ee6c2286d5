use Rattle.checked_numbers.proofs.ChooseLemmas.{choose-swap}
use Rattle.checked_numbers.proofs.binomials.ways_to_choose.Goals as goal

pub returns-else-kept-left : goal.returns-else-kept-left
returns-else-kept-left c = rw (choose-swap c.args.left c.args.kept) c.ways_of_smaller-else-kept-left.ensures
