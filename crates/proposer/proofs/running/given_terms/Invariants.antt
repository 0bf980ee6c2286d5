use Rattle.std.proofs.Common.{◌≡◌, ◌≤◌, ◌+◌, length, drop}
use Rattle.std.specs.Prelude.{All}
use Rattle.minimiser.specs.Given.{IsGivenRun, arguments}
use Rattle.proposer.specs.Short.{given_from, first_arguments}
use Rattle.proposer.proofs.running.given_terms.Given as goal

abbrev pub invariant-loop-term : goal.invariant-loop-term
invariant-loop-term g l = record {
  place : l.index ≡ l.term-index;
  many : length l.given.items ≡ l.term-index;
  args : arguments l.given.items ≡ first_arguments l.term-index;
  runs : All (IsGivenRun (g.B.Library.programs l.lib) l.limit l.program) l.given.items;
  rest : l.term-index + given_from (g.B.Library.programs l.lib) l.limit l.program l.term-index (drop l.term-index l.row)
      ≡ given_from (g.B.Library.programs l.lib) l.limit l.program 0 l.row;
  counted : l.fn.steps ≤ l.steps;
}
