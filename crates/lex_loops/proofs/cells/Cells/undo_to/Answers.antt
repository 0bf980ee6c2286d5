use Rattle.std.proofs.Common.{◌<◌, length, arith}
use Rattle.lex_loops.proofs.Memories.{undoes-one}
use Rattle.lex_loops.proofs.cells.Cells.undo_to.Goals as goal

pub loop-self-preserved-in-Some : goal.loop-self-preserved-in-Some
loop-self-preserved-in-Some c =
    let more : c.args.len < length c.loop-self.self.log.items = omega arith in
    undoes-one c.args.len c.args.self.now.log.items c.loop-self.self.log.items c.pop.new.self.items c.put.new.self.log.items c.args.self.now.values.items c.loop-self.self.values.items c.put.new.self.values.items
    c.in-Some.last c.loop-self.invariant c.in-Some.ensures.items c.put.ensures.log more c.put.ensures.memory c.put.ensures.len
