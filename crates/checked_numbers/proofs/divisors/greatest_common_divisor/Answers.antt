use Rattle.std.proofs.Common.{arith, sym}
use Rattle.std.proofs.lemmas.Nat.Gcd.{IsGcd-from_zero, IsGcd-from_mod}
use Rattle.checked_numbers.proofs.DivisorLemmas.{gcd-is}
use Rattle.checked_numbers.proofs.divisors.greatest_common_divisor.Goals as goal

pub loop-rest-preserved : goal.loop-rest-preserved
loop-rest-preserved c g h = c.loop-rest.invariant g (IsGcd-from_mod _ _ g h)

pub returns-clause-divisor : goal.returns-clause-divisor
returns-clause-divisor c = c.loop-rest.invariant _ (IsGcd-from_zero _ _ (omega arith))

pub returns-clause-value : goal.returns-clause-value
returns-clause-value c = sym (gcd-is _ _ _ (c.loop-rest.invariant _ (IsGcd-from_zero _ _ (omega arith))))
