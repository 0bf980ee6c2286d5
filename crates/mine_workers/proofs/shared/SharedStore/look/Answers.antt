use Rattle.std.proofs.Common.{◌≡◌, ◌∙◌, rules, sym, ap, subst, List}
use Rattle.turnstile.specs.Seats.{TurnstileView}
use Rattle.publish_desk.specs.declared.charter.Charter.{Charter}
use Rattle.publish_desk.specs.declared.entry.Entry.{Entry}
use Rattle.mine_workers.specs.Shared.{IsLegalFor}
use Rattle.mine_workers.proofs.Found.{legal_for, looked, grown}
use Rattle.mine_workers.proofs.shared.SharedStore.look.Goals as goal

pub returns-clause-seat : goal.returns-clause-seat
returns-clause-seat g c =
    let taken = c.take-found.ensures.value in
    let found = c.take-found.result.desk in
    let fixed : found.charter ≡ c.args.self.now.fixed = taken.2 ∙ ap (λ (s : TurnstileView Charter). s.fixed) c.self.view_is in
    let known = looked c.args.seat.now.known c.take-found.new.seat.known c.give.new.seat.known found.journal c.requires.idle taken.0 taken.1 c.take-found.ensures.seat c.give.ensures.seat in
    (search rules, subst (λ (l : List Entry). IsLegalFor c.args.self.now.fixed l) (sym known.1) (legal_for c.args.self.now.fixed found c.version.ensures.kept fixed))

pub returns-clause-grown : goal.returns-clause-grown
returns-clause-grown g c = grown c.take-found.result.desk c.args.seat.now.known.seen c.snapshot-shown.result c.version.ensures.kept c.take-found.ensures.value.0 c.snapshot-shown.ensures
