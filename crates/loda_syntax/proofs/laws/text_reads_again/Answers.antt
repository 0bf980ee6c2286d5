use Rattle.loda_syntax.proofs.Meaning.{reads_again}
use Rattle.loda_syntax.proofs.laws.text_reads_again.Goals as goal

pub returns : goal.returns
returns c = reads_again c.args.text.now
