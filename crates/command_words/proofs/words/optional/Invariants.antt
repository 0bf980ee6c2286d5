use Rattle.std.proofs.Common.{◌≡◌, map, drop, string_bytes}
use Rattle.std.specs.Option.{option_map}
use Rattle.command_words.specs.Words.{values_of, optional}
use Rattle.command_words.proofs.ReadWords.{with_found}
use Rattle.command_words.proofs.words.optional.Given as goal

abbrev pub invariant-loop-word : goal.invariant-loop-word
invariant-loop-word l =
    optional (values_of l.key (map string_bytes l.words)) ≡ with_found (option_map (λ v. v.now) l.found) (values_of l.key (map string_bytes (drop l.word-index l.words)))
