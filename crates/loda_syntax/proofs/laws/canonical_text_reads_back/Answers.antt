use Rattle.std.proofs.Common.{◌≡◌, subst}
use Rattle.std.specs.Prelude.{Ok}
use Rattle.loda_syntax.specs.Canon.{canon}
use Rattle.loda_syntax.specs.Reading.{text_read}
use Rattle.loda_syntax.specs.WellFormed.{IsProgram}
use Rattle.loda_syntax.proofs.Causes.{reads}
use Rattle.loda_syntax.proofs.Round.{reads_back}
use Rattle.loda_syntax.proofs.laws.canonical_text_reads_back.Goals as goal

pub returns-clause-reader : goal.returns-clause-reader
returns-clause-reader c =
    reads_back c.args.program.now (subst IsProgram c.instrs-list.ensures.value c.instrs-list.ensures.program)

pub returns-clause-relation : goal.returns-clause-relation
returns-clause-relation c =
    let p = c.args.program.now in
    let back : text_read (canon p) ≡ Ok p = reads_back p (subst IsProgram c.instrs-list.ensures.value c.instrs-list.ensures.program) in
    reads (canon p) p back
