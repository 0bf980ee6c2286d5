-- The source of a job's words.
use Rattle.std.specs.Prelude.{ℕ, List, ◌++◌, replicate}
use Rattle.std.specs.Int.{w64, to_le_bytes}
use Rattle.rand_core.specs.Stream.{Stream}
use Rattle.rand_core.specs.Steps.{stream_of, steps_u32}
use Rattle.rand_chacha.specs.ChaCha.{ChaCha, key_of, next_word}

-- a seed as 32 bytes: its own eight, least byte first, and then zeros
abbrev pub seed_bytes : ℕ → List ℕ
seed_bytes seed = to_le_bytes w64 seed ++ replicate 24 0

-- ChaCha8 under the seed's key, at the start of the stream of the job's number
abbrev pub job_source : ℕ → ℕ → ChaCha
job_source seed job = record { key = key_of (seed_bytes seed); stream = job; word_pos = 0 }

-- the words that it gives
abbrev pub job_words : ℕ → ℕ → Stream
job_words seed job = stream_of (steps_u32 (next_word 4)) (job_source seed job)
