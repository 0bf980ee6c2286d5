use Rattle.std.proofs.Common.{Contains, take}
use Rattle.std.specs.Prelude.{IsSome}
use Rattle.loda_semantics.specs.declared.kinds.Pair.{Pair}
use Rattle.demand_table.specs.Loaded.{slots_of}
use Rattle.demand_table.proofs.standing.all_stand.Given as goal

abbrev pub invariant-loop-pair : goal.invariant-loop-pair
invariant-loop-pair l = (q : Pair) → Contains (take l.pair-index l.pairs) q → IsSome (slots_of l.known.pages.now l.work q).entry
