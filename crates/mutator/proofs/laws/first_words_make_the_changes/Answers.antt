use Rattle.loda_syntax.specs.Programs.{instrs}
use Rattle.mutator.proofs.FirstWords.{same-mutated}
use Rattle.mutator.proofs.laws.first_words_make_the_changes.Goals as goal

pub returns : goal.returns
returns c = same-mutated c.args.names.now (instrs c.args.program.now)
