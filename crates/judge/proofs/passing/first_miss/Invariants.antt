use Rattle.std.proofs.Common.{◌≡◌}
use Rattle.judge.specs.Passed.{PassesBelow}
use Rattle.judge.proofs.passing.first_miss.Given as goal

abbrev pub invariant-loop-term : goal.invariant-loop-term
invariant-loop-term g l = (l.index ≡ l.term-index) × PassesBelow (g.B.Library.programs l.lib) l.terms l.name l.limit l.index
