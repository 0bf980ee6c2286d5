use Rattle.std.proofs.Common.{subst}
use Rattle.loda_syntax.specs.WellFormed.{IsProgram}
use Rattle.loda_syntax.proofs.Sections.{canon_section}
use Rattle.loda_syntax.proofs.laws.canonical_text_is_a_section.Goals as goal

pub returns : goal.returns
returns c = canon_section c.args.program.now (subst IsProgram c.instrs-list.ensures.value c.instrs-list.ensures.program)
