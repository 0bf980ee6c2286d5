use Rattle.std.proofs.Common.{◌≡◌, ◌≤◌}
use Rattle.turnstile.specs.Rule.{Holding}
use Rattle.turnstile.proofs.turnstile.Turnstile.take.Given as goal

abbrev pub invariant-loop : goal.invariant-loop
invariant-loop g l =
    let began = l.initial.seat-inside.token in
    let now = l.seat-inside.token in
    (now.table_id ≡ began.table_id)
    × (began.me.0.known.fails ≤ now.me.0.known.fails)
    × (now.me.0 ≡ record began.me.0 { known = record began.me.0.known { fails = now.me.0.known.fails } })
    × Holding now.me l.seat-inside.taken
