use Rattle.std.proofs.Common.{arith}
use Rattle.text_parts.proofs.Number.{six_digits}
use Rattle.text_parts.proofs.names.six_digits.Goals as goal

pub overflow_cast-result : goal.overflow_cast-result
overflow_cast-result c = let six = six_digits c.args.digits.now c.in_ok-number.number c.requires c.in_ok-number.ensures in omega (arith, six.0)

pub returns-clause-value : goal.returns-clause-value
returns-clause-value c = (six_digits c.args.digits.now c.in_ok-number.number c.requires c.in_ok-number.ensures).1

pub returns-clause-small : goal.returns-clause-small
returns-clause-small c = let six = six_digits c.args.digits.now c.in_ok-number.number c.requires c.in_ok-number.ensures in omega (arith, six.0)
