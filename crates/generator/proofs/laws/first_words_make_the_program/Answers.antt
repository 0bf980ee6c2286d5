use Rattle.generator.proofs.FirstWords.{same-generated}
use Rattle.generator.proofs.laws.first_words_make_the_program.Goals as goal

pub returns : goal.returns
returns c = same-generated c.args.names.now
