-- A desk may be moved to another thread and be shared by threads.
use denote.Param.Send.{IsSend, IsSync, sendable}
use Rattle.std.proofs.Crossing.{crosses}
use Rattle.oeis_terms.proofs.table.TermTable.TheSendSync as terms
use Rattle.publish_desk.proofs.origin.Origin.TheSendSync as origin
use Rattle.publish_desk.proofs.entry.Entry.TheSendSync as entry
use Rattle.demand_table.proofs.tables.Tables.TheSendSync as tables
use Rattle.publish_desk.specs.contracts.desk.Desk as desk

pub desk_send : IsSend desk.the_row
desk_send = search (sendable, crosses, terms.the_send, terms.the_sync, origin.the_field_send, entry.the_send, tables.the_send) depth 60

pub desk_sync : IsSync desk.the_row
desk_sync = search (sendable, crosses, terms.the_send, terms.the_sync, origin.the_field_sync, entry.the_sync, tables.the_sync) depth 60
