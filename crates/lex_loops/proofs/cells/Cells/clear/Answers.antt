use Rattle.std.proofs.Common.{◌≤◌, ◌+◌, length, refl, arith}
use Rattle.lex_loops.proofs.Memories.{clears-one, clears-past}
use Rattle.lex_loops.proofs.cells.Cells.clear.Goals as goal

pub returns-then-from-len-clause-memory : goal.returns-then-from-len-clause-memory
returns-then-from-len-clause-memory c =
    let past : length c.loop-place.self.values.items ≤ c.args.start + c.loop-place.place = omega arith in
    clears-past c.args.start c.loop-place.place c.args.count c.args.logged _ _ c.args.self.now.values.items c.loop-place.self.values.items c.loop-place.invariant past (omega arith)

pub loop-place-preserved : goal.loop-place-preserved
loop-place-preserved c =
    clears-one c.args.start c.loop-place.place c.args.logged _ _ _ c.args.self.now.values.items c.loop-place.self.values.items c.write.new.self.values.items _ c.zero.result c.loop-place.invariant
    refl c.zero.ensures c.in_ok-write.ensures.memory c.in_ok-write.ensures.replaces c.in_ok-write.ensures.within c.in_ok-write.ensures.len
