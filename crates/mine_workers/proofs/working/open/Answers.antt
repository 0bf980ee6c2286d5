use Rattle.std.proofs.Common.{◌≡◌, ℕ, All, List, subst}
use Rattle.turnstile.specs.Seats.{SeatView, newcomer}
use Rattle.publish_desk.specs.declared.charter.Charter.{Charter}
use Rattle.publish_desk.specs.declared.entry.Entry.{Entry}
use Rattle.mine_workers.specs.Shared.{IsSeatOf}
use Rattle.mine_workers.proofs.Posts.{all_last}
use Rattle.mine_workers.proofs.working.open.Goals as goal

pub returns-clause-seat : goal.returns-clause-seat
returns-clause-seat c =
    let P = λ (u : SeatView Entry Charter). IsSeatOf c.in_ok-store.store u × (u.known ≡ newcomer c.args.desk.journal) in
    all_last P c.pop.new.self.items c.in-Some.seat (subst (λ (v : List (SeatView Entry Charter)). All P v) c.in-Some.ensures.items c.in_ok-store.ensures.seats)
