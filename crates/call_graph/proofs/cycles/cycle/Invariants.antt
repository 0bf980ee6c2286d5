use Rattle.std.proofs.Common.{ℕ, ◌-◌, ◌≤◌, Contains}
use Rattle.program_store.specs.Store.{programs_of}
use Rattle.program_store.specs.Graph.{OnCycle}
use Rattle.call_graph.specs.Walks.{IsSettled}
use Rattle.call_graph.proofs.cycles.cycle.Given as goal
use Rattle.text_parts.specs.declared.names.TheConstants.{GREATEST_NAME}

abbrev pub invariant-loop-name : goal.invariant-loop-name
invariant-loop-name g l = record {
  named : l.after ≤ GREATEST_NAME;
  done : (k : ℕ) → 1 ≤ k → k ≤ l.after → OnCycle (programs_of (g.V.View.store l.view)) k → Contains l.walk.done.keys k;
  settled : IsSettled (programs_of (g.V.View.store l.view)) l.walk;
}

abbrev pub decreases-loop-name : goal.decreases-loop-name
decreases-loop-name g l = GREATEST_NAME - l.after
