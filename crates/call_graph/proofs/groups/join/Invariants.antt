use Rattle.std.proofs.Common.{length}
use Rattle.std.specs.Prelude.{reverse}
use Rattle.call_graph.proofs.Joining.{IsCutting}
use Rattle.call_graph.proofs.groups.join.Given as goal

abbrev pub invariant-loop-start : goal.invariant-loop-start
invariant-loop-start l = IsCutting (reverse l.fn.starts.items) l.place (reverse l.starts.items)

abbrev pub decreases-loop-start : goal.decreases-loop-start
decreases-loop-start l = length l.starts.items
