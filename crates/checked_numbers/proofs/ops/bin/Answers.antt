use Rattle.std.proofs.Common.{arith, ap, sym, ◌∙◌}
use Rattle.std.specs.Prelude.{pos, ◌<ℤ◌, ◌≤ℤ◌}
use Rattle.std.proofs.lemmas.Int.{ints}
use Rattle.checked_numbers.specs.Ops.{in_range}
use Rattle.checked_numbers.proofs.ChooseLemmas.{binomial-above}
use Rattle.checked_numbers.proofs.ops.bin.Goals as goal

pub returns-else-b-a : goal.returns-else-b-a
returns-else-b-a c =
    let upper : pos 0 ≤ℤ c.args.a = omega (arith, ints) in
    let less : c.args.a <ℤ c.args.b = omega (arith, ints) in
    c.in_range-else-b-a.ensures.some ∙ sym (ap in_range (binomial-above c.args.a c.args.b upper less))
