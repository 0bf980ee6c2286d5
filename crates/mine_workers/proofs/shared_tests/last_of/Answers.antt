use Rattle.std.proofs.Common.{◌≡◌, false, option_to_list}
use Rattle.turnstile.specs.Seats.{SeatView}
use Rattle.publish_desk.specs.declared.charter.Charter.{Charter}
use Rattle.publish_desk.specs.declared.entry.Entry.{Entry}
use Rattle.mine_workers.specs.Shared.{IsSeatOf}
use Rattle.mine_workers.proofs.Posts.{all_front, all_taken}
use Rattle.mine_workers.proofs.shared_tests.last_of.Goals as goal

pub returns-clause-seats : goal.returns-clause-seats
returns-clause-seats c =
    all_front (λ (s : SeatView Entry Charter). IsSeatOf c.args.store.now s × (s.known.turn ≡ false)) c.pop.new.self.items (option_to_list c.pop.result) c.args.seats.now.items c.pop.ensures.items c.requires

pub returns-clause-seat : goal.returns-clause-seat
returns-clause-seat c =
    all_taken (λ (s : SeatView Entry Charter). IsSeatOf c.args.store.now s × (s.known.turn ≡ false)) c.pop.new.self.items c.args.seats.now.items c.pop.result c.pop.ensures.items c.requires
