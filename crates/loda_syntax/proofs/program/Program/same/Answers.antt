use Rattle.std.proofs.lemmas.Slice.Eq.{slice_eq-Decides}
use Rattle.loda_syntax.proofs.Equal.{instr_decides, decided}
use Rattle.loda_syntax.proofs.program.Program.same.Goals as goal

pub returns : goal.returns
returns c = decided c.eq.result _ _ _ _ c.self.view_is c.other.view_is (slice_eq-Decides instr_decides c.self.inside.list.items c.other.inside.list.items c.eq.result c.eq.ensures)
