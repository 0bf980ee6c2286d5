use Rattle.version_pages.specs.Table.{held}
use Rattle.version_pages.proofs.Blocks.{IsSearched}
use Rattle.version_pages.proofs.row.next_held.Given as goal

abbrev pub invariant-loop-block : goal.invariant-loop-block
invariant-loop-block g l = IsSearched (held l.blocks) l.fn.from l.block l.start
