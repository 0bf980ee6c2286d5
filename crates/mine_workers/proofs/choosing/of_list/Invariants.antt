use Rattle.std.specs.declared.option.Option.{Option}
use Rattle.oeis_terms.specs.Table.{row_of}
use Rattle.program_store.specs.declared.published.Proposal.{Proposal}
use Rattle.mine_workers.proofs.FirstAccepted.{IsRest}
use Rattle.mine_workers.proofs.choosing.of_list.Given as goal

abbrev pub invariant-loop-proposal : goal.invariant-loop-proposal
invariant-loop-proposal g l = (default : Option Proposal) → IsRest l.snapshot.store (row_of l.terms) l.limit default l.rest l.proposal-index
