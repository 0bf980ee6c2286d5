use Rattle.std.proofs.Common.{◌≡◌, ◌≤◌, drop}
use Rattle.minimiser.specs.Cuts.{behind_loop}
use Rattle.minimiser.proofs.cutting.behind_loop.Given as goal

abbrev pub invariant-loop-place : goal.invariant-loop-place
invariant-loop-place l = record { same : behind_loop l.depth (drop l.place l.list) ≡ behind_loop 0 l.list; few : l.depth ≤ l.place }
