use Rattle.std.proofs.Common.{◌≡◌}
use Rattle.made_input.specs.Values.{first_terms}
use Rattle.made_input.proofs.values.terms_of.Given as goal

abbrev pub invariant-loop-k : goal.invariant-loop-k
invariant-loop-k l = l.terms.items ≡ first_terms l.place l.k
