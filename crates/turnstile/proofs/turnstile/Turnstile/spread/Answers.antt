use Rattle.std.proofs.Common.{◌≡◌, rules, All, List, sym, ap, subst, ◌∙◌}
use Rattle.std.proofs.lemmas.List.Elements.{All-push}
use Rattle.turnstile.specs.Seats.{SeatView, Belongs, fresh}
use Rattle.turnstile.proofs.turnstile.Turnstile.spread.Goals as goal

pub loop-preserved : goal.loop-preserved
loop-preserved g c =
    let i = c.loop.invariant in
    let s = c.split.ensures in
    let P = λ (u : SeatView g.row.V-Entry.Denot g.row.V-Fixed.Denot). Belongs c.args.self.now u × (u.known ≡ c.args.seat.known) in
    (s.belongs.0, s.seat ∙ i.1, search rules, subst (λ (v : List (SeatView g.row.V-Entry.Denot g.row.V-Fixed.Denot)). All P v) (sym c.in_ok-push.ensures.items) (All-push P c.loop.all.items c.split.result i.3 (s.belongs.1, s.other ∙ ap fresh i.1 ∙ sym c.requires.seat.1)))
