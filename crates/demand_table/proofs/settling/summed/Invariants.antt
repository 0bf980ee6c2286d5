use Rattle.std.proofs.Common.{ℕ, ◌+◌, ◌≡◌, take, sum_by}
use Rattle.loda_semantics.specs.declared.kinds.Pair.{Pair}
use Rattle.demand_table.specs.Loaded.{slots_of}
use Rattle.demand_table.specs.Settling.{AreRight}
use Rattle.demand_table.proofs.settling.summed.Given as goal

abbrev pub invariant-loop-at : goal.invariant-loop-at
invariant-loop-at l = (t : Pair → ℕ) → AreRight (slots_of l.known.pages.now l.work) t → l.sum ≡ l.fn.own + sum_by t (take l.at l.calls)
