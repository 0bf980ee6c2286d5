use Rattle.std.proofs.Common.{subst}
use Rattle.loda_syntax.specs.WellFormed.{IsProgram}
use Rattle.loda_syntax.proofs.Spelling.{spelled-tree_of}
use Rattle.loda_syntax.proofs.laws.tree_spells_its_program.Goals as goal

pub returns : goal.returns
returns c = spelled-tree_of c.args.program.now (subst IsProgram c.instrs-list.ensures.value c.instrs-list.ensures.program)
