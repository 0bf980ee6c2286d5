use Rattle.word_stream.proofs.WordsOf.{word-listed}
use Rattle.word_stream.proofs.listed.Listed.new.Goals as goal

pub returns-clause-words : goal.returns-clause-words
returns-clause-words c = word-listed _
