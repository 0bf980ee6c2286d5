use Rattle.std.proofs.Common.{◌≡◌, [], drop, nat_eq}
use Rattle.indexmap.specs.IndexSet.{insert_all}
use Rattle.carry_over.proofs.reach.as_set.Given as goal

abbrev pub invariant-loop-name : goal.invariant-loop-name
invariant-loop-name l = insert_all nat_eq [] l.names ≡ insert_all nat_eq l.set.keys (drop l.name-index l.names)
