use Rattle.std.proofs.Common.{◌≡◌, ◌≤◌, take}
use Rattle.loda_mine.specs.Outputs.{gains_nothing, count_answered}
use Rattle.loda_mine.proofs.making.no_gains_in.Given as goal

abbrev pub invariant-loop-entry : goal.invariant-loop-entry
invariant-loop-entry l = (l.count ≡ count_answered gains_nothing (take l.entry-index l.entries)) × (l.count ≤ l.entry-index)
