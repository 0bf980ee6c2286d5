use Rattle.std.proofs.Common.{rules}
use Rattle.turnstile.proofs.Keeps.{peeks}
use Rattle.turnstile.proofs.turnstile.Turnstile.peek.Goals as goal

pub load-requires : goal.load-requires
load-requires g c = (search rules, search rules, peeks g.V.Kept.list g.V.Kept.fixed _ _ _ c.seat.inside.token.me)
