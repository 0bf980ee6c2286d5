use denote.Param.Send.{sendable}
use Rattle.publish_desk.proofs.Crossing.{desk_send, desk_sync}
use Rattle.publish_desk.proofs.tests.shared.Goals as goal

pub is_shared-requires-send-T : goal.is_shared-requires-send-T
is_shared-requires-send-T g c κs = search (sendable, desk_send) depth 40

pub is_shared-requires-sync-T : goal.is_shared-requires-sync-T
is_shared-requires-sync-T g c κs = search (sendable, desk_sync) depth 40
