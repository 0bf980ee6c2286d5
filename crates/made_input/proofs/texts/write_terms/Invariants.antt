use Rattle.std.proofs.Common.{◌≡◌, ◌++◌}
use Rattle.made_input.specs.Texts.{term_texts}
use Rattle.made_input.proofs.texts.write_terms.Given as goal

abbrev pub invariant-loop-k : goal.invariant-loop-k
invariant-loop-k l = l.out.items ≡ l.initial.out.items ++ term_texts l.place l.k
