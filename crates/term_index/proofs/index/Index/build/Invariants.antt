use Rattle.std.proofs.Common.{take}
use Rattle.term_index.specs.Buckets.{AreBuckets}
use Rattle.term_index.proofs.index.Index.build.Given as goal

abbrev pub invariant-loop-place : goal.invariant-loop-place
invariant-loop-place l = AreBuckets (take l.place l.terms.rows) l.equals l.lines
