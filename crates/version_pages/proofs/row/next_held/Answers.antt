use Rattle.std.proofs.Common.{arith}
use Rattle.version_pages.proofs.Blocks.{length-held, searched_over, searched_least, searched_found, searched_done}
use Rattle.version_pages.proofs.row.next_held.Goals as goal

pub returns-in-Some-clause-found : goal.returns-in-Some-clause-found
returns-in-Some-clause-found g c =
    let e = c.in-Some.ensures in
    searched_found _ _ _ _ _ c.loop-block.invariant e.range.1 e.found

pub returns-in-Some-clause-least : goal.returns-in-Some-clause-least
returns-in-Some-clause-least g c =
    let e = c.in-Some.ensures in
    searched_least _ _ _ _ _ c.loop-block.invariant e.range.1 e.least

pub returns-clause-none : goal.returns-clause-none
returns-clause-none g c = searched_done _ _ _ _ c.loop-block.invariant (omega (arith, length-held c.args.blocks.now))

pub loop-block-preserved : goal.loop-block-preserved
loop-block-preserved g c = searched_over _ _ _ _ c.loop-block.invariant c.in_default.ensures.none
