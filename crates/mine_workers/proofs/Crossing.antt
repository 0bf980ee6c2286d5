-- What the dossiers of jobs are made of may be moved to another thread and be shared by threads.
use denote.Param.Send.{IsSend, IsSync, sendable}
use Rattle.std.proofs.Crossing.{crosses}
use Rattle.oeis_terms.proofs.table.TermTable.TheSendSync as terms
use Rattle.program_store.proofs.candidates.Candidates.TheSendSync as candidates
use Rattle.mine_workers.specs.contracts.source.JobSource as source
use Rattle.term_index.specs.contracts.index.Index as index
use Rattle.term_index.specs.contracts.entry.Entry as entry

pub entry_sync : IsSync entry.the_row
entry_sync = search (sendable, crosses) depth 60

pub index_sync : IsSync index.the_row
index_sync = search (sendable, crosses, terms.the_send, terms.the_sync, entry_sync) depth 60

pub source_sync : IsSync source.the_row
source_sync = search (sendable, crosses, terms.the_send, terms.the_sync, candidates.the_send, candidates.the_sync, index_sync) depth 60
