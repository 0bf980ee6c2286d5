use Rattle.std.proofs.Common.{rules}
use mathlib.Core.List.{IsPrefix}
use Rattle.turnstile.specs.Seats.{Taking}
use Rattle.turnstile.proofs.Standing.{stands_taken}
use Rattle.turnstile.proofs.turnstile.Turnstile.take.Goals as goal

pub returns-in-Some-try_take-clause-belongs : goal.returns-in-Some-try_take-clause-belongs
returns-in-Some-try_take-clause-belongs g c =
    let known = c.args.seat.now.known in
    let found = g.V.Kept.list c.in-Some-try_take.value in
    let began : IsPrefix known.seen found = search rules in
    let taking : Taking found known c.try_take.new.token.me.0.known = search rules in
    (search rules, search rules, stands_taken found known c.try_take.new.token.me.0.known c.requires.belongs.2 began taking)
