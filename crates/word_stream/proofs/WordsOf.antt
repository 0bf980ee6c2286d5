-- Which words the two sources give.
use Rattle.std.proofs.Common.{◌≡◌, ℕ, zero, suc, ◌+◌, ◌%◌, ◌^◌, ◌<◌, List, [], ◌∷◌, refl, ap, sym, ◌∙◌, arith, slice_index, add-zero, add-one, zero-add}
use Rattle.std.proofs.Math.Nat.{mod-eq_of_lt}
use Rattle.rand_core.specs.Stream.{Stream, next_u32}
use Rattle.rand_core.specs.Steps.{stream_of, steps_u32}
use Rattle.rand_chacha.specs.ChaCha.{key_of, word_at, next_word}
use Rattle.word_stream.specs.Words.{word}
use Rattle.word_stream.specs.Listed.{listed}
use Rattle.word_stream.specs.Jobs.{job_words, seed_bytes}

-- a list's words, and 0 past its end
pub word-listed : (words : List ℕ) (k : ℕ) → word k (listed words) ≡ slice_index words k
unfolding next_u32 stream_of
word-listed [] zero = refl
word-listed [] (suc k) = word-listed [] k
word-listed (w ∷ ws) zero = refl
word-listed (w ∷ ws) (suc k) = word-listed ws k

-- ChaCha from a place on, by n double rounds
chacha_from : ℕ → List ℕ → ℕ → ℕ → Stream
chacha_from n key stream place = stream_of (steps_u32 (next_word n)) (record { key = key; stream = stream; word_pos = place })

word-chacha_from : (n : ℕ) (key : List ℕ) (stream place k : ℕ) → place + k < 2 ^ 68
    → word k (chacha_from n key stream place) ≡ word_at n key stream (place + k)
unfolding next_u32 stream_of chacha_from
word-chacha_from n key stream place zero small = ap (λ (p : ℕ). word_at n key stream p) (sym (add-zero place))
word-chacha_from n key stream place (suc k) small =
    let below : place + 1 < 2 ^ 68 = omega arith in
    let next : (place + 1) % 2 ^ 68 ≡ suc place = mod-eq_of_lt below ∙ add-one place in
    let there : suc place + k ≡ place + suc k = omega arith in
    ap (λ (p : ℕ). word k (stream_of (steps_u32 (next_word n)) (record { key = key; stream = stream; word_pos = p }))) next
    ∙ word-chacha_from n key stream (suc place) k (omega arith)
    ∙ ap (λ (p : ℕ). word_at n key stream p) there

-- the words of a job, from the start of its stream
pub word-job_words : (seed job k : ℕ) → k < 2 ^ 68 → word k (job_words seed job) ≡ word_at 4 (key_of (seed_bytes seed)) job k
unfolding chacha_from
word-job_words seed job k small =
    let start : 0 + k ≡ k = zero-add k in
    word-chacha_from 4 (key_of (seed_bytes seed)) job 0 k (omega arith) ∙ ap (λ (p : ℕ). word_at 4 (key_of (seed_bytes seed)) job p) start
