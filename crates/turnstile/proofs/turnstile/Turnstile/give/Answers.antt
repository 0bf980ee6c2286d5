use Rattle.std.proofs.Common.{rules, Some, sym, ap, ◌∙◌}
use Rattle.turnstile.proofs.Keeps.{gives}
use Rattle.turnstile.proofs.Standing.{counted_fixed, stands_given}
use Rattle.turnstile.proofs.turnstile.Turnstile.give.Goals as goal

pub store-requires : goal.store-requires
store-requires g c =
    let seat_is = c.seat.view_is in
    let now = c.put_back.ensures in
    let turned = ap (λ s. s.known.turn) seat_is ∙ c.requires.holds in
    let fixed = ap (λ s. s.fixed) seat_is ∙ c.requires.belongs.1 ∙ ap Some (sym c.requires.fixed) in
    (search rules, search rules, gives g.V.Kept.list g.V.Kept.fixed _ _ _ c.put_back.new.token.me c.seat.inside.token.me.0 c.args.value turned now.slot fixed (rw (ap (λ s. s.known.seen) seat_is) c.requires.entries) now.counted)

pub returns-clause-belongs : goal.returns-clause-belongs
returns-clause-belongs g c =
    let seat_is = c.seat.view_is in
    let now = g.V.Kept.list c.args.value in (
      search rules,
      ap (λ m. m.0.fixed) c.store.ensures.2
          ∙ counted_fixed now c.seat.inside.token.me.0 c.put_back.new.token.me.0 (rw (ap (λ s. s.known.seen) seat_is) c.requires.entries) c.put_back.ensures.counted
          ∙ ap (λ s. s.fixed) seat_is
          ∙ c.requires.belongs.1,
      stands_given now c.args.seat.now.known c.store.new.seat.me.0.known c.requires.belongs.2 c.requires.entries (search rules),
    )
