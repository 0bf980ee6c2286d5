-- What the code makes of the words, by the bytes of its paths.
use Rattle.std.specs.Option.{option_map}
use Rattle.command_words.specs.declared.request.Request.{Request as Told}
use Rattle.command_words.specs.Words.{Request}

-- the words as the code keeps them, by the bytes of the paths
abbrev pub asked : Told → Request
asked r = record { task = r.task; terms = option_map (λ p. p.now) r.terms; store = option_map (λ p. p.now) r.store; candidates = option_map (λ p. p.now) r.candidates; limit = r.limit }
