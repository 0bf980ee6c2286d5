use Rattle.std.proofs.Common.{◌≡◌, ◌++◌, drop}
use Rattle.program_store.specs.Graph.{calls_of, called_by}
use Rattle.call_graph.proofs.closure.called_names.Given as goal

abbrev pub invariant-loop-instr : goal.invariant-loop-instr
invariant-loop-instr l = calls_of l.list ≡ l.names.items ++ called_by (drop l.instr-index l.list)
