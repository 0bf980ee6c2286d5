use Rattle.std.proofs.Common.{◌≡◌, ◌≤◌, ℕ, ℤ, List, take, drop}
use Rattle.loda_syntax.specs.Programs.{Text}
use Rattle.minimiser.specs.Given.{AreGiven, is_good_for}
use Rattle.minimiser.proofs.trying.passes_all.Given as goal

abbrev pub invariant-loop-known : goal.invariant-loop-known
invariant-loop-known g l = record {
  same : is_good_for (g.B.Library.programs l.lib) (drop l.known-index l.given) l.program ≡ is_good_for (g.B.Library.programs l.lib) l.given l.program;
  runs : (args : List ℤ) (limit : ℕ) (p : Text) → AreGiven (g.B.Library.programs l.lib) args limit p l.given
      → AreGiven (g.B.Library.programs l.lib) (take l.known-index args) limit l.program l.trials.runs.items;
  counted : l.fn.steps ≤ l.steps;
}
