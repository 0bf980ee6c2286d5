use Rattle.std.proofs.Common.{◌≡◌, arith}
use Rattle.std.specs.Prelude.{◌%◌}
use Rattle.checked_numbers.proofs.SquareLemmas.{pow-one}
use Rattle.checked_numbers.proofs.powers.with_odd_factor.Goals as goal

pub returns-else-left-eq0 : goal.returns-else-left-eq0
returns-else-left-eq0 c =
    let odd : c.args.left % 2 ≡ 1 = omega arith in
    rw (odd, pow-one c.args.factor) c.checked_mul.ensures
