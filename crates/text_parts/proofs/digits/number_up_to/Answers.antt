use Rattle.std.proofs.Common.{arith, rules}
use Rattle.text_parts.proofs.Number.{next_digit}
use Rattle.text_parts.proofs.digits.number_up_to.Goals as goal

pub loop-digit-preserved : goal.loop-digit-preserved
loop-digit-preserved c = (
  omega arith,
  next_digit c.args.most c.args.digits.now c.loop-digit.digit-index c.loop-digit.number c.next_number-number.result _ c.loop-digit-test.true (search rules) c.next_number-number.ensures c.loop-digit.invariant.1,
)
