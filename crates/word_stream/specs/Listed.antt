-- A source over a given list of words.
use Rattle.std.specs.Prelude.{ℕ, List, [], ◌∷◌}
use Rattle.rand_core.specs.Stream.{Stream}
use Rattle.rand_core.specs.Steps.{stream_of, steps_u32}

-- the first word and the words after it; past the end each word is 0
abbrev pub next_listed : List ℕ → ℕ × List ℕ
next_listed [] = (0, [])
next_listed (w ∷ ws) = (w, ws)

-- what a source over this list gives
abbrev pub listed : List ℕ → Stream
listed words = stream_of (steps_u32 next_listed) words
