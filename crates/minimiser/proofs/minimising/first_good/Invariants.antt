use Rattle.std.proofs.Common.{◌≡◌, ◌≤◌, ◌-◌, length}
use Rattle.minimiser.specs.Cuts.{cut_at}
use Rattle.minimiser.specs.Minimum.{is_good, first_good}
use Rattle.minimiser.specs.Given.{arguments}
use Rattle.minimiser.proofs.Found.{found_from}
use Rattle.minimiser.proofs.minimising.first_good.Given as goal

abbrev pub invariant-loop-place : goal.invariant-loop-place
invariant-loop-place g l = record {
  same : found_from (is_good (g.B.Library.programs l.lib) (arguments l.given) l.limit l.program) (cut_at l.program) l.place (length l.program - l.place)
      ≡ first_good (g.B.Library.programs l.lib) (arguments l.given) l.limit l.program;
  counted : l.fn.steps ≤ l.steps;
}
