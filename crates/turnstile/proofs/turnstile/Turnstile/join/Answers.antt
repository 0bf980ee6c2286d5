use Rattle.std.proofs.Common.{rules, ap, ◌∙◌}
use Rattle.turnstile.specs.Seats.{Joining}
use Rattle.turnstile.proofs.Keeps.{joins, compares}
use Rattle.turnstile.proofs.Standing.{stands_joined}
use Rattle.turnstile.proofs.turnstile.Turnstile.join.Goals as goal

pub join_seat-requires : goal.join_seat-requires
join_seat-requires g c = (
  search rules,
  search rules,
  search rules,
  search rules,
  joins g.V.Kept.list g.V.Kept.fixed _ _ c.into.inside.token.me.0 _ c.other.inside.token.me.0 (ap (λ s. s.known.turn) c.into.view_is ∙ c.requires.idle.0) (ap (λ s. s.known.turn) c.other.view_is ∙ c.requires.idle.1),
)

pub load-requires : goal.load-requires
load-requires g c = (
  search rules,
  search rules,
  compares g.V.Kept.list g.V.Kept.fixed _ _ _ c.join_seat.new.seat.me (ap (λ m. m.0.known.turn) c.join_seat.ensures.2 ∙ ap (λ s. s.known.turn) c.into.view_is ∙ c.requires.idle.0),
)

pub returns-clause-belongs : goal.returns-clause-belongs
returns-clause-belongs g c =
    let known = c.args.into.now.known in
    let joining : Joining known c.args.other.known c.load.new.seat.me.0.known = search rules in
    (search rules, search rules, stands_joined known c.args.other.known c.load.new.seat.me.0.known c.requires.belongs.0.2 joining)
