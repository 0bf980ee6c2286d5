use Rattle.std.proofs.Common.{◌≡◌, false}
use Rattle.turnstile.specs.Seats.{Belongs}
use Rattle.turnstile.proofs.tests.add_many.Given as goal

abbrev pub invariant-loop : goal.invariant-loop
invariant-loop g l = Belongs l.turnstile l.seat × (l.seat.known.turn ≡ false)
