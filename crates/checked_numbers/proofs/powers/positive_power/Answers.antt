use Rattle.std.proofs.Common.{◌^◌}
use Rattle.checked_numbers.proofs.SquareLemmas.{Squares-last, Squares-turned, Squares-wide_power, Squares-wide_square}
use Rattle.checked_numbers.proofs.powers.positive_power.Goals as goal

pub returns-in_err-power : goal.returns-in_err-power
returns-in_err-power c =
    rw c.from_residual.ensures
    (Squares-wide_power _ c.loop-left.power c.loop-left.square c.loop-left.left _ c.loop-left.invariant c.loop-left-test.true c.in_err-power.ensures)

pub returns-in_err-square : goal.returns-in_err-square
returns-in_err-square c =
    rw c.from_residual-in_err-square.ensures
    (Squares-wide_square _ c.loop-left.power c.loop-left.square c.loop-left.left _ c.loop-left.invariant c.loop-left-test.true c.in_err-square.ensures)

pub loop-left-preserved : goal.loop-left-preserved
loop-left-preserved c =
    Squares-turned _ _ _ _ _ _ c.loop-left.invariant c.loop-left-test.true c.in_ok-power.ensures.1 c.in_ok-square.ensures.1

pub returns : goal.returns
returns c =
    rw (Squares-last c.loop-left.power c.loop-left.square c.loop-left.left (c.args.base ^ c.args.exponent) c.loop-left.invariant c.loop-left-test.false)
    c.checked_mul-2.ensures
