use Rattle.std.proofs.Common.{◌≡◌, drop, nat_eq}
use Rattle.indexmap.specs.IndexSet.{insert_all}
use Rattle.call_graph.proofs.closure.add_names.Given as goal

abbrev pub invariant-loop-name : goal.invariant-loop-name
invariant-loop-name l = insert_all nat_eq l.fn.names.keys l.more ≡ insert_all nat_eq l.names.keys (drop l.name-index l.more)
