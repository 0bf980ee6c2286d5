use Rattle.std.proofs.Common.{◌≡◌, ◌≤◌, take}
use Rattle.loda_mine.specs.Outputs.{accepts, count_answered}
use Rattle.loda_mine.proofs.making.accepted_in.Given as goal

abbrev pub invariant-loop-entry : goal.invariant-loop-entry
invariant-loop-entry l = (l.count ≡ count_answered accepts (take l.entry-index l.entries)) × (l.count ≤ l.entry-index)
