use Rattle.std.proofs.Common.{◌-◌}
use Rattle.call_graph.specs.Callers.{names_under}
use Rattle.call_graph.proofs.Turning.{IsTurned}
use Rattle.call_graph.proofs.callers.callers.Given as goal
use Rattle.text_parts.specs.declared.names.TheConstants.{GREATEST_NAME}

abbrev pub invariant-loop-caller : goal.invariant-loop-caller
invariant-loop-caller g l = IsTurned (g.V.View.store l.view) (names_under l.callers) l.after

abbrev pub decreases-loop-caller : goal.decreases-loop-caller
decreases-loop-caller g l = GREATEST_NAME - l.after
