use Rattle.std.proofs.Common.{◌≤◌}
use Rattle.program_store.specs.Store.{IsProposal}
use Rattle.proposer.specs.Short.{proposal_of_match}
use Rattle.proposer.proofs.Matched.{Made}
use Rattle.proposer.proofs.choosing.proposals_of.Given as goal

abbrev pub invariant-loop-found : goal.invariant-loop-found
invariant-loop-found g l = record {
  made : Made (proposal_of_match (g.B.Library.programs l.lib) l.terms l.limit l.program) IsProposal l.found-items l.found-index l.list.items;
  counted : l.fn.steps ≤ l.steps;
}
