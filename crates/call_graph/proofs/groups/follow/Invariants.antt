use Rattle.std.proofs.Common.{ℕ, Contains, reverse}
use Rattle.call_graph.specs.Groups.{IsGrouped, IsFollowed}
use Rattle.call_graph.proofs.groups.follow.Given as goal

abbrev pub invariant-loop-at : goal.invariant-loop-at
invariant-loop-at g l = record {
  grouped : IsGrouped (g.B.Library.programs l.lib) l.done.keys l.stack.keys (reverse l.starts.items);
  fewer : (b : ℕ) → Contains (reverse l.starts.items) b → Contains (reverse l.fn.starts.items) b;
  followed : IsFollowed (g.B.Library.programs l.lib) l.done.keys l.stack.keys (reverse l.starts.items) l.frame.place l.at;
}
