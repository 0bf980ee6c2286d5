use Rattle.loda_syntax.proofs.Meaning.{one_meaning}
use Rattle.loda_syntax.proofs.laws.text_has_one_meaning.Goals as goal

pub returns : goal.returns
returns c = one_meaning c.args.text.now
