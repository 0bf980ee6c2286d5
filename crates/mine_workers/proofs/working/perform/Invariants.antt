use Rattle.std.proofs.Common.{◌≡◌, false}
use Rattle.mine_workers.specs.Publishable.{IsPublishable}
use Rattle.mine_workers.specs.Shared.{IsSeatOf}
use Rattle.mine_workers.proofs.working.perform.Given as goal

abbrev pub invariant-loop : goal.invariant-loop
invariant-loop g l = IsSeatOf l.store l.seat × (l.seat.known.turn ≡ false) × IsPublishable l.store.fixed l.seat.known.seen l.dossier
