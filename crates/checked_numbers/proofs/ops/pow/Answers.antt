use Rattle.std.proofs.Common.{◌≡◌, arith, ap, sym, ◌∙◌}
use Rattle.std.specs.Prelude.{pos, negsuc, ◌<ℤ◌}
use Rattle.std.proofs.lemmas.Int.{ints, to_z-of_z}
use Rattle.std.specs.Int.{w128}
use Rattle.checked_numbers.specs.Ops.{ranged}
use Rattle.checked_numbers.proofs.PowerLemmas.{power-one, power-minus_one, power-zero}
use Rattle.checked_numbers.proofs.ops.pow.Goals as goal

pub returns-then-a-eq1 : goal.returns-then-a-eq1
returns-then-a-eq1 c =
    let one : c.args.a ≡ pos 1 = omega (arith, ints) in
    c.in_range-then-a-eq1.ensures.some ∙ sym (ap ranged (power-one c.args.a c.args.b one))

pub returns-then-a-eqminus1 : goal.returns-then-a-eqminus1
returns-then-a-eqminus1 c =
    let minus_one : c.args.a ≡ negsuc 0 = omega (arith, ints) in
    let value = rw (to_z-of_z w128 c.args.b c.ranges.b) at c.pow_of_minus_one.ensures in
    value ∙ sym (ap ranged (power-minus_one c.args.a c.args.b minus_one))

pub returns-else-b-lt0 : goal.returns-else-b-lt0
returns-else-b-lt0 c =
    let nothing : c.args.a ≡ pos 0 = omega (arith, ints) in
    let positive : pos 0 <ℤ c.args.b = omega (arith, ints) in
    c.in_range-else-b-lt0.ensures.some ∙ sym (ap ranged (power-zero c.args.a c.args.b nothing positive))
