use Rattle.loda_syntax.proofs.Causes.{answers_read, answers_bad}
use Rattle.loda_syntax.proofs.reading.parse.Goals as goal

pub returns-clause-reads : goal.returns-clause-reads
returns-clause-reads c = answers_read c.args.text.now c.read.result c.read.ensures

pub returns-clause-bad : goal.returns-clause-bad
returns-clause-bad c = answers_bad c.args.text.now c.read.result c.read.ensures
