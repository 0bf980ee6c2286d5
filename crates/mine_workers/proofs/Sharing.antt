-- A desk may go to another thread, and with it a worker's post; a shared store may be shared.
use denote.Ref.{NamedLft}
use denote.Param.Send.{IsSend, IsSync, sendable}
use Rattle.std.proofs.Crossing.{crosses}
use Rattle.std.proofs.alloc.Global.TheSendSync as heap
use Rattle.oeis_terms.proofs.table.TermTable.TheSendSync as terms
use Rattle.publish_desk.proofs.origin.Origin.TheSendSync as origin
use Rattle.publish_desk.proofs.entry.Entry.TheSendSync as entry
use Rattle.demand_table.proofs.tables.Tables.TheSendSync as tables
use Rattle.turnstile.proofs.seat.Seat.TheSendSync as seat
use Rattle.turnstile.proofs.turnstile.Turnstile.TheSendSync as turnstile
use Rattle.publish_desk.specs.contracts.desk.Desk as Desk
use Rattle.mine_workers.specs.contracts.held.Held as Held
use Rattle.mine_workers.specs.contracts.shared.SharedStore as SharedStore
use Rattle.mine_workers.specs.contracts.working.Post as Post

pub desk_send : IsSend Desk.the_row
desk_send = search (sendable, crosses, terms.the_send, terms.the_sync, origin.the_field_send, entry.the_send, tables.the_send) depth 60

pub held_send : IsSend Held.the_row
held_send = search (sendable, desk_send) depth 40

pub store_sync : IsSync SharedStore.the_row
store_sync = search (sendable, crosses, turnstile.the_sync, held_send) depth 40

pub store_send : IsSend SharedStore.the_row
store_send = search (sendable, crosses, turnstile.the_send, held_send) depth 40

pub post_send : (l : NamedLft) → IsSend (Post.the_row l)
post_send l = search (sendable, crosses, seat.the_send, held_send, store_sync, heap.the_send) depth 40
