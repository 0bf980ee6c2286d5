use Rattle.std.proofs.Common.{◌^◌}
use Rattle.checked_numbers.proofs.SquareLemmas.{Squares}
use Rattle.checked_numbers.proofs.powers.positive_power.Given as goal

abbrev pub invariant-loop-left : goal.invariant-loop-left
invariant-loop-left l = Squares l.power l.square l.left (l.fn.base ^ l.fn.exponent)

abbrev pub decreases-loop-left : goal.decreases-loop-left
decreases-loop-left l = l.left
