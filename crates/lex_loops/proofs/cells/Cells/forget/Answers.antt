use Rattle.std.proofs.Common.{◌<◌, ◌≤◌, length, arith}
use Rattle.lex_loops.proofs.Forgetting.{next-later, next-first, forgotten}
use Rattle.lex_loops.proofs.cells.Cells.forget.Goals as goal

pub loop-place-preserved-then-index : goal.loop-place-preserved-then-index
loop-place-preserved-then-index c =
    let r = c.loop-place.invariant.forgets in
    let more : c.loop-place.place < length c.loop-place.self.log.items = (let s = r.size in omega (arith, s, c.loop-place-test.true, c.len-place-end.ensures)) in
    record {
      forgets = next-later _ _ _ _ _ c.loop-place.self.log.items c.loop-place.seen.items r more c.index-write.result.now c.index-write.ensures c.from-cell.result c.index.result.now c.from-cell.ensures c.index.ensures c.if-index.true;
      values = c.loop-place.invariant.values;
    }

pub loop-place-preserved : goal.loop-place-preserved
loop-place-preserved c =
    let r = c.loop-place.invariant.forgets in
    let more : c.loop-place.place < length c.loop-place.self.log.items = (let s = r.size in omega (arith, s, c.loop-place-test.true, c.len-place-end.ensures)) in
    record {
      forgets = next-first _ _ _ _ _ c.loop-place.self.log.items c.loop-place.seen.items r more c.index-write.result.now c.index-write.ensures c.from-cell.result c.index.result.now c.from-cell.ensures c.index.ensures c.if-index.false;
      values = c.loop-place.invariant.values;
    }

pub returns-clause-log : goal.returns-clause-log
returns-clause-log c =
    let r = c.loop-place.invariant.forgets in
    let all : length c.args.self.now.log.items ≤ c.loop-place.place = omega (arith, c.loop-place-test.false, c.len-place-end.ensures) in
    let within : c.args.from ≤ c.len-place-end.result = omega (arith, c.requires.from, c.len-place-end.ensures) in
    let le : c.loop-place.place ≤ length c.args.self.now.log.items = (let b = c.loop-place.auto.place-end within in omega (arith, b, c.len-place-end.ensures)) in
    forgotten _ _ _ _ _ c.loop-place.self.log.items _ _ r all le c.truncate.ensures.items
