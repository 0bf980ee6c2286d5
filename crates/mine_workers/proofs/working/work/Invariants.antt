use Rattle.std.proofs.Common.{◌≡◌, false}
use Rattle.mine_workers.specs.Shared.{IsSeatOf}
use Rattle.mine_workers.proofs.working.work.Given as goal

abbrev pub invariant-loop : goal.invariant-loop
invariant-loop g l = IsSeatOf l.store l.seat × (l.seat.known.turn ≡ false)
