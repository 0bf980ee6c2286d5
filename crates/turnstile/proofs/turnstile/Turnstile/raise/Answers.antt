use Rattle.std.proofs.Common.{rules, arith}
use Rattle.turnstile.proofs.Keeps.{raises}
use Rattle.turnstile.proofs.turnstile.Turnstile.raise.Goals as goal

pub compare_exchange_with-requires : goal.compare_exchange_with-requires
compare_exchange_with-requires g c =
    (search rules, search rules, raises g.V.Kept.list g.V.Kept.fixed _ _ _ _ _ c.args.token.now.me c.args.slot.now c.requires.token.1 c.requires.taken c.requires.slot (omega arith))
