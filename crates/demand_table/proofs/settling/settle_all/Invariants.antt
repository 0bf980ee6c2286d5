use Rattle.std.proofs.Common.{◌≡◌, [], Contains, drop}
use Rattle.loda_semantics.specs.declared.kinds.Pair.{Pair}
use Rattle.demand_table.specs.Loaded.{slots_of}
use Rattle.demand_table.specs.Settling.{IsUnsettled, IsSettling, Settles}
use Rattle.demand_table.proofs.settling.settle_all.Given as goal

abbrev pub invariant-loop-pair : goal.invariant-loop-pair
invariant-loop-pair l = record {
  empty : l.stack.items ≡ [];
  settling : IsSettling (slots_of l.known.pages.now l.work) l.left;
  settles : Settles (slots_of l.known.pages.now l.fn.work) (slots_of l.known.pages.now l.work);
  rest : (q : Pair) → IsUnsettled (slots_of l.known.pages.now l.work) q → Contains (drop l.pair-index l.pairs) q;
}
