use Rattle.std.proofs.Common.{take}
use Rattle.call_graph.specs.Callers.{names_under, AddsCaller}
use Rattle.call_graph.proofs.callers.add_program.Given as goal

abbrev pub invariant-loop-name : goal.invariant-loop-name
invariant-loop-name l = AddsCaller (names_under l.fn.callers) (names_under l.callers) l.caller (take l.name-index l.name-items)
