use Rattle.std.proofs.Common.{length}
use Rattle.oeis_terms.proofs.Terms.{HasKept}
use Rattle.oeis_terms.proofs.line.usable_terms.Given as goal

abbrev pub invariant-loop-piece : goal.invariant-loop-piece
invariant-loop-piece l = HasKept l.line l.rest l.at l.is_wide l.terms.items

abbrev pub decreases-loop-piece : goal.decreases-loop-piece
decreases-loop-piece l = length l.rest
