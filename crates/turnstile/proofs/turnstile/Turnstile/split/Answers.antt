use Rattle.std.proofs.Common.{rules}
use Rattle.turnstile.proofs.Keeps.{splits}
use Rattle.turnstile.proofs.turnstile.Turnstile.split.Goals as goal

pub split_seat-requires : goal.split_seat-requires
split_seat-requires g c = (search rules, search rules, splits g.V.Kept.list g.V.Kept.fixed _ _ c.seat.inside.token.me.0)
