use Rattle.std.proofs.Common.{◌≡◌, ◌≤◌, length}
use Rattle.minimiser.specs.Minimum.{minimum}
use Rattle.minimiser.specs.Laws.{KeepsValues}
use Rattle.minimiser.specs.Given.{arguments, AreGiven}
use Rattle.minimiser.proofs.minimising.minimise_given.Given as goal

abbrev pub invariant-loop-trials : goal.invariant-loop-trials
invariant-loop-trials g l = record {
  same : minimum (g.B.Library.programs l.lib) (arguments l.fn.given.items) l.limit l.least
      ≡ minimum (g.B.Library.programs l.lib) (arguments l.fn.given.items) l.limit l.fn.program;
  known : AreGiven (g.B.Library.programs l.lib) (arguments l.fn.given.items) l.limit l.least l.known.items;
  keeps : KeepsValues (g.B.Library.programs l.lib) (arguments l.fn.given.items) l.limit l.fn.program l.least;
  no_longer : length l.least ≤ length l.fn.program;
  counted : l.fn.steps ≤ l.steps;
}

abbrev pub decreases-loop-trials : goal.decreases-loop-trials
decreases-loop-trials g l = length l.least
