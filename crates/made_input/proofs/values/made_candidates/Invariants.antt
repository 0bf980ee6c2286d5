use Rattle.std.proofs.Common.{◌≡◌, ◌++◌}
use Rattle.made_input.specs.Values.{first, plain, each}
use Rattle.made_input.proofs.values.made_candidates.Given as goal

abbrev pub invariant-loop-place : goal.invariant-loop-place
invariant-loop-place l = l.candidates ≡ each first l.place

abbrev pub invariant-loop-place-2 : goal.invariant-loop-place-2
invariant-loop-place-2 l = l.candidates ≡ each first l.n ++ each plain l.place
