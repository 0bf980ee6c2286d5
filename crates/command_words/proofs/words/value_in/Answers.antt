use Rattle.std.proofs.Common.{◌≡◌, List, ℕ, Bor, sym}
use Rattle.std.specs.Prelude.{Option, Some, None}
use Rattle.std.specs.Option.{option_map, MatchOption}
use Rattle.std.specs.Str.Pattern.{FindsTextPrefix}
use Rattle.command_words.specs.Words.{value_in}
use Rattle.command_words.proofs.ReadWords.{Strips, no_key, a_key}
use Rattle.command_words.proofs.words.value_in.Goals as goal

stripped : (key word : List ℕ) (r : Option (Bor (List ℕ))) → MatchOption r (FindsTextPrefix key word None) (λ v. Strips key word v.now) → option_map (λ v. v.now) r ≡ value_in key word
stripped key word None h = sym (no_key key word h)
stripped key word (Some v) h = sym (a_key key word v.now h)

pub returns : goal.returns
returns c = stripped c.args.key.now c.args.word.now c.strip_prefix.result c.strip_prefix.ensures.cases
