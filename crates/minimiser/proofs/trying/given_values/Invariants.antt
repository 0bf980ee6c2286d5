use Rattle.std.proofs.Common.{◌≤◌, take}
use Rattle.minimiser.specs.Given.{AreGiven}
use Rattle.minimiser.proofs.trying.given_values.Given as goal

abbrev pub invariant-loop-arg : goal.invariant-loop-arg
invariant-loop-arg g l = record {
  given : AreGiven (g.B.Library.programs l.lib) (take l.arg-index l.args) l.limit l.program l.given.items;
  counted : l.fn.steps ≤ l.steps;
}
