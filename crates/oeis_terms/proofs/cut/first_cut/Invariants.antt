use Rattle.std.proofs.Common.{◌≡◌, take, drop}
use Rattle.oeis_terms.specs.Cut.{first_cut}
use Rattle.oeis_terms.proofs.Cuts.{after}
use Rattle.oeis_terms.proofs.cut.first_cut.Given as goal

abbrev pub invariant-loop-at : goal.invariant-loop-at
invariant-loop-at l = after (take l.at l.text) (first_cut l.byte (drop l.at l.text)) ≡ first_cut l.byte l.text
