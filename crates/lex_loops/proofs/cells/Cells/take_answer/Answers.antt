use Rattle.std.proofs.Common.{◌≤◌, ◌<◌, length, ap, refl, arith}
use Rattle.lex_loops.proofs.Memories.{replaces-write, within-write}
use Rattle.lex_loops.proofs.cells.Cells.take_answer.Goals as goal

pub returns-clause-replaces : goal.returns-clause-replaces
returns-clause-replaces c =
    replaces-write c.args.logged _ c.args.self.now.log.items _ _ c.args.self.now.values.items c.args.self.now.values.items c.note_reserved.new.self.values.items c.put.new.self.values.items _ _
    refl c.note_reserved.ensures.log c.put.ensures.log refl c.note_reserved.ensures.values c.put.ensures.memory

pub returns-clause-within : goal.returns-clause-within
returns-clause-within c = λ h.
    let le : length c.args.self.now.values.items ≤ length c.put.new.self.values.items = omega (arith, c.put.ensures.len, ap length c.note_reserved.ensures.values) in
    let lt : c.args.address < length c.put.new.self.values.items = omega (arith, c.put.ensures.len, c.requires.cell, ap length c.note_reserved.ensures.values) in
    within-write c.args.logged _ c.args.self.now.log.items _ _ _ _ c.args.address _ refl c.note_reserved.ensures.log c.put.ensures.log le lt h
