use Rattle.std.proofs.Common.{◌-◌, ◌+◌, ◌*◌, ◌^◌, length, reverse}
use Rattle.call_graph.proofs.Walking.{IsWalk}
use Rattle.call_graph.proofs.walk.Walk.visit.Given as goal

abbrev pub invariant-loop-frame : goal.invariant-loop-frame
invariant-loop-frame g l =
    IsWalk (g.B.Library.programs l.lib) l.fn.self.done.keys l.fn.name l.self.done.keys l.self.looped.items l.self.stack.keys (reverse l.self.starts.items) (reverse l.self.path.items)

-- each turn enters a name, or leaves one
abbrev pub decreases-loop-frame : goal.decreases-loop-frame
decreases-loop-frame g l = 2 * (2 ^ 64 - (length l.self.done.keys + length l.self.stack.keys)) + length l.self.path.items
