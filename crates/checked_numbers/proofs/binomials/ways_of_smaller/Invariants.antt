use Rattle.std.proofs.Common.{◌≡◌, ◌+◌, ◌<◌, ◌^◌}
use Rattle.checked_numbers.specs.Ops.{choose}
use Rattle.checked_numbers.proofs.binomials.ways_of_smaller.Given as goal

abbrev pub invariant-loop-i : goal.invariant-loop-i
invariant-loop-i l = (l.ways < 2 ^ 128) × (l.ways ≡ choose (l.larger + l.i) l.i)
