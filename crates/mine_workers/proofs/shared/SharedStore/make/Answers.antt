use Rattle.std.proofs.Common.{◌≡◌, rules, sym, ap, subst, List}
use Rattle.turnstile.specs.Seats.{SeatView, Belongs, newcomer}
use Rattle.turnstile.specs.declared.known.Known.{Known}
use Rattle.publish_desk.specs.declared.charter.Charter.{Charter}
use Rattle.publish_desk.specs.declared.entry.Entry.{Entry}
use Rattle.mine_workers.specs.Shared.{IsSeatOf}
use Rattle.mine_workers.proofs.Posts.{all_map}
use Rattle.mine_workers.proofs.Found.{new_seat}
use Rattle.mine_workers.proofs.shared.SharedStore.make.Goals as goal

pub returns-clause-seats : goal.returns-clause-seats
returns-clause-seats c =
    let store = c.in_ok-turnstile.turnstile in
    all_map (λ (s : SeatView Entry Charter). Belongs store s × (s.known ≡ newcomer c.args.desk.journal)) (λ (s : SeatView Entry Charter). IsSeatOf store s × (s.known ≡ newcomer c.args.desk.journal))
    c.in_ok-turnstile.seats.items (new_seat store c.args.desk c.version.ensures.kept c.in_ok-turnstile.ensures.fixed) c.in_ok-turnstile.ensures.seats
