use Rattle.std.proofs.Common.{◌∙◌}
use Rattle.lex_loops.proofs.Memories.{less-step}
use Rattle.lex_loops.proofs.cells.Cells.is_less.Goals as goal

pub loop-place-preserved : goal.loop-place-preserved
loop-place-preserved c =
    c.loop-place.invariant
    ∙ less-step c.args.count c.loop-place.place c.args.start _ _ c.read-new.result c.read_before-old.result c.zero.result c.from.result
    c.loop-place-test.true c.from.ensures c.read-new.ensures c.read_before-old.ensures c.zero.ensures c.if-is_below.ensures c.if-is_below-2.ensures c.if-is_below-3.ensures
