use Rattle.std.proofs.Common.{◌≡◌, drop, nat_eq}
use Rattle.std.specs.List.{list_any}
use Rattle.program_store.specs.Graph.{calls_of, called_by}
use Rattle.call_graph.proofs.groups.calls_itself.Given as goal

-- the name is called just if it is called by what is left
abbrev pub invariant-loop-instr : goal.invariant-loop-instr
invariant-loop-instr g l = list_any (nat_eq l.name) (calls_of l.list) ≡ list_any (nat_eq l.name) (called_by (drop l.instr-index l.list))
