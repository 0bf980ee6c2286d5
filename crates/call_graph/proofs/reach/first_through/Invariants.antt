use Rattle.std.proofs.Common.{take}
use Rattle.call_graph.proofs.Barren.{IsBarren}
use Rattle.call_graph.proofs.reach.first_through.Given as goal

abbrev pub invariant-loop-name : goal.invariant-loop-name
invariant-loop-name g l = IsBarren (g.B.Library.programs l.lib) l.target l.seen.keys (take l.name-index l.name-items)
