use Rattle.std.proofs.Common.{rules}
use Rattle.program_store.proofs.WholeLines.{goes_on, stops, ends}
use Rattle.program_store.proofs.lines.line_length.Goals as goal

pub loop-at-preserved : goal.loop-at-preserved
loop-at-preserved c = goes_on c.args.bytes.now c.loop-at.at c.loop-at-test.true (search rules) c.loop-at.invariant

pub returns-then-byte-eq10-clause-cut : goal.returns-then-byte-eq10-clause-cut
returns-then-byte-eq10-clause-cut c = stops c.args.bytes.now c.loop-at.at c.loop-at-test.true (search rules) c.loop-at.invariant

pub returns-clause-cut : goal.returns-clause-cut
returns-clause-cut c = ends c.args.bytes.now c.loop-at.at c.requires (search rules) c.loop-at.invariant
