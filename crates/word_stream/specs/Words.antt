-- The words that a source will give, and numbers that are drawn from them.
use Rattle.std.specs.Prelude.{ℕ, zero, suc, ◌≤◌, ◌<◌, ◌%◌, ◌≡◌}
use Rattle.rand_core.specs.Stream.{Stream, next_u32}

-- what a source still gives after its next k words
abbrev pub advanced : ℕ → Stream → Stream
advanced zero words = words
advanced (suc k) words = advanced k (next_u32 words).1

-- the word at place k, counted from 0
abbrev pub word : ℕ → Stream → ℕ
word k words = (next_u32 (advanced k words)).0

-- the next word modulo n
abbrev pub below : ℕ → Stream → ℕ
below n words = (next_u32 words).0 % n

-- what is left after the next word
abbrev pub rest : Stream → Stream
rest words = (next_u32 words).1

-- the source gave some words, at most `most` of them
pub record IsDrawnWithin (most : ℕ) (old new : Stream) : Type 0 where
  pub taken : ℕ
  pub few : taken ≤ most
  pub left : new ≡ advanced taken old

-- two sources give the same first `count` words
pub record SameWords (count : ℕ) (one other : Stream) : Type 0 where
  pub each : (k : ℕ) → k < count → word k one ≡ word k other
