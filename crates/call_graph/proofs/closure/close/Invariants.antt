use Rattle.std.proofs.Common.{◌-◌, ◌^◌}
use Rattle.call_graph.proofs.Closing.{IsGrown}
use Rattle.call_graph.proofs.closure.close.Given as goal

abbrev pub invariant-loop-next : goal.invariant-loop-next
invariant-loop-next g l = IsGrown (g.B.Library.programs l.lib) l.fn.names.keys l.names.keys l.next

abbrev pub decreases-loop-next : goal.decreases-loop-next
decreases-loop-next g l = 2 ^ 64 - l.next
