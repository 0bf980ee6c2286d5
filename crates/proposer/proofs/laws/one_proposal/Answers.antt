use Rattle.oeis_terms.specs.Table.{row_of}
use Rattle.proposer.specs.Short.{short}
use Rattle.proposer.specs.Proposed.{first_of_list}
use Rattle.proposer.proofs.Chosen.{one_first}
use Rattle.proposer.proofs.laws.one_proposal.Goals as goal

pub returns : goal.returns
returns c = λ table limit seed job s a b h k.
    one_first s (row_of table) limit (first_of_list (short s table limit seed job)) (short s table limit seed job) a b h k
