use Rattle.std.proofs.Common.{sym, arith}
use Rattle.version_pages.proofs.Blocks.{place_past, taken_here, taken_others}
use Rattle.version_pages.proofs.row.taken_out.Goals as goal

pub returns-then-at-len-clause-taken : goal.returns-then-at-len-clause-taken
returns-then-at-len-clause-taken g c = sym (place_past c.args.blocks.now.items c.args.at (omega arith))

pub returns-clause-taken : goal.returns-clause-taken
returns-clause-taken g c = taken_here _ _ _ _ c.in_ok-left.ensures.taken c.taken-slot.ensures.taken

pub returns-clause-others : goal.returns-clause-others
returns-clause-others g c =
    taken_others _ _ _ _ _ (omega arith) c.taken-slot.ensures.taken c.taken-slot.ensures.others c.in_ok-left.ensures.others
