use Rattle.std.proofs.Common.{arith, lit<, sym, ◌≡◌, ◌+◌, ap, ◌∙◌}
use Rattle.checked_numbers.specs.Ops.{choose}
use Rattle.checked_numbers.proofs.ChooseLemmas.{choose-none, choose-wide_from, choose-next, choose-next_wide}
use Rattle.checked_numbers.proofs.binomials.ways_of_smaller.Goals as goal

pub returns-then-smaller-ge128 : goal.returns-then-smaller-ge128
returns-then-smaller-ge128 c h = let w = choose-wide_from 128 c.args.larger c.args.smaller (omega arith) (omega arith) in omega (arith, w, h)

pub loop-i-preserved : goal.loop-i-preserved
loop-i-preserved c =
    (rw c.in_ok-ways.ensures.1 c.in_ok-ways.ensures.0, c.in_ok-ways.ensures.1 ∙ choose-next c.args.larger c.loop-i.i c.loop-i.ways c.loop-i.invariant.1)

pub returns-in_err-ways : goal.returns-in_err-ways
returns-in_err-ways c =
    rw c.from_residual.ensures
    (choose-next_wide _ c.args.larger c.loop-i.i c.args.smaller c.loop-i.ways c.loop-i-test.true c.loop-i.invariant.1 c.in_err-ways.ensures)

pub returns : goal.returns
returns c =
    let last : c.loop-i.i ≡ c.args.smaller = omega arith in
    let value : c.loop-i.ways ≡ choose (c.args.larger + c.args.smaller) c.args.smaller =
    c.loop-i.invariant.1 ∙ ap (λ i. choose (c.args.larger + i) i) last in
    (omega (arith, value, c.loop-i.invariant.0), value)

pub loop-i-init : goal.loop-i-init
loop-i-init c = (lit< tt, sym (choose-none (c.args.larger + 0)))
