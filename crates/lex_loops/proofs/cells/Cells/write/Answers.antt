use Rattle.std.proofs.Common.{◌≤◌, ◌<◌, length, ap, arith}
use Rattle.lex_loops.proofs.Memories.{replaces-write, within-write}
use Rattle.lex_loops.proofs.cells.Cells.write.Goals as goal

pub returns-clause-replaces : goal.returns-clause-replaces
returns-clause-replaces c =
    replaces-write c.args.logged _ _ _ _ c.args.self.now.values.items c.reach.new.self.values.items c.note.new.self.values.items c.put.new.self.values.items _ _
    c.in_ok-reach.ensures.log c.in_ok-note.ensures.ok c.put.ensures.log c.in_ok-reach.ensures.memory c.in_ok-note.ensures.values c.put.ensures.memory

pub returns-clause-within : goal.returns-clause-within
returns-clause-within c = λ h.
    let le : length c.args.self.now.values.items ≤ length c.put.new.self.values.items = omega (arith, c.in_ok-reach.ensures.len, ap length c.in_ok-note.ensures.values) in
    let lt : c.args.address < length c.put.new.self.values.items = omega (arith, c.in_ok-reach.ensures.ok, ap length c.in_ok-note.ensures.values) in
    within-write c.args.logged _ _ _ _ _ _ c.args.address _ c.in_ok-reach.ensures.log c.in_ok-note.ensures.ok c.put.ensures.log le lt h
