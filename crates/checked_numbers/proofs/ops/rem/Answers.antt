use Rattle.std.proofs.Common.{rules}
use Rattle.checked_numbers.proofs.DivisorLemmas.{rest-is}
use Rattle.checked_numbers.proofs.ops.rem.Goals as goal

pub returns-else-b-eq0 : goal.returns-else-b-eq0
returns-else-b-eq0 c = rw (rest-is c.args.a c.args.b) (search rules)
