use Rattle.std.proofs.Common.{arith}
use Rattle.checked_numbers.proofs.ChooseLemmas.{divided_parts}
use Rattle.checked_numbers.proofs.binomials.divided_in_parts.Goals as goal

pub returns-in_err-whole : goal.returns-in_err-whole
returns-in_err-whole c = grind (arith, divided_parts c.args.a c.args.b c.args.d c.requires.positive)

pub returns-in_err-checked_add : goal.returns-in_err-checked_add
returns-in_err-checked_add c = grind (arith, divided_parts c.args.a c.args.b c.args.d c.requires.positive)

pub returns : goal.returns
returns c = grind (arith, divided_parts c.args.a c.args.b c.args.d c.requires.positive)
