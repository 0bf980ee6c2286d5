use Rattle.std.proofs.Common.{◌≡◌, false, ap}
use Rattle.turnstile.specs.declared.known.Known.{Known}
use Rattle.turnstile.specs.Seats.{SeatView, newcomer}
use Rattle.publish_desk.specs.declared.charter.Charter.{Charter}
use Rattle.publish_desk.specs.declared.entry.Entry.{Entry}
use Rattle.mine_workers.specs.Shared.{IsSeatOf}
use Rattle.mine_workers.proofs.Posts.{all_map}
use Rattle.mine_workers.proofs.shared_tests.with_two_seats.Goals as goal

pub last_of-requires : goal.last_of-requires
last_of-requires c =
    all_map (λ (s : SeatView Entry Charter). IsSeatOf c.in_ok-store.store s × (s.known ≡ newcomer c.args.desk.journal)) (λ (s : SeatView Entry Charter). IsSeatOf c.in_ok-store.store s × (s.known.turn ≡ false))
    c.in_ok-store.seats.items (λ s h. (h.0, ap (λ (k : Known Entry). k.turn) h.1)) c.in_ok-store.ensures.seats
