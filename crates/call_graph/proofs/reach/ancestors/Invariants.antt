use Rattle.std.proofs.Common.{◌-◌, ◌^◌}
use Rattle.program_store.specs.Store.{programs_of}
use Rattle.call_graph.proofs.Upward.{IsClimbed}
use Rattle.call_graph.proofs.reach.ancestors.Given as goal

abbrev pub invariant-loop-next : goal.invariant-loop-next
invariant-loop-next g l = IsClimbed (programs_of (g.V.View.store l.view)) l.name l.above.keys l.next

abbrev pub decreases-loop-next : goal.decreases-loop-next
decreases-loop-next g l = 2 ^ 64 - l.next
