use Rattle.std.proofs.Common.{◌≡◌, drop}
use Rattle.term_index.specs.Keys.{mixed_sizes}
use Rattle.term_index.proofs.key.terms_key.Given as goal

abbrev pub invariant-loop-term : goal.invariant-loop-term
invariant-loop-term l = mixed_sizes l.key (drop l.term-index l.terms) ≡ mixed_sizes 0 l.terms
