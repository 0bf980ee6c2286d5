use Rattle.std.proofs.Common.{◌≡◌}
use Rattle.made_input.specs.Values.{made_store}
use Rattle.made_input.proofs.values.made_store.Given as goal

abbrev pub invariant-loop-place : goal.invariant-loop-place
invariant-loop-place l = l.store ≡ made_store l.place
