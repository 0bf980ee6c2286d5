use Rattle.std.proofs.Common.{◌≡◌, length}
use Rattle.lex_loops.proofs.Forgetting.{Forgets}
use Rattle.lex_loops.proofs.cells.Cells.forget.Given as goal

abbrev pub invariant-loop-place : goal.invariant-loop-place
invariant-loop-place l = record {
  forgets : Forgets l.from l.place l.kept (length l.fn.self.values.items) l.fn.self.log.items l.self.log.items l.seen.items;
  values : l.self.values.items ≡ l.fn.self.values.items;
}
