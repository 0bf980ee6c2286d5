-- How many words are taken at most.
use Rattle.std.proofs.Common.{ℕ, zero, suc, ◌+◌, ◌*◌, ◌<◌, List, [], ◌∷◌, arith, nat_lt, ◌==◌}
use Rattle.rand_core.specs.Stream.{Stream}
use Rattle.word_stream.specs.Words.{below, rest, IsDrawnWithin}
use Rattle.word_stream.proofs.Within.{drawn_none, drawn_first, drawn_then, drawn_within}
use Rattle.loda_syntax.specs.declared.instr.Verb.{Verb}
use Rattle.loda_syntax.specs.declared.instr.Operand.{Operand}
use Rattle.generator.proofs.Choices.{of_either}
use Rattle.generator.specs.Arithmetic.{verb_at, drawn_source, drawn_arithmetic}
use Rattle.generator.specs.Generating.{turn, turns, generated, end_turn, call_turn, Turn}

pub within-drawn_source : (words : Stream) → IsDrawnWithin 2 words (drawn_source words).1
within-drawn_source words =
    of_either (λ (p : Operand × Stream). IsDrawnWithin 2 words p.1) (nat_lt (below 8 words) 4) _ _
    (drawn_within 1 2 _ _ (omega arith) (drawn_first 0 _ _ (drawn_none _)))
    (drawn_first 1 _ _ (drawn_first 0 _ _ (drawn_none _)))

pub within-drawn_arithmetic : (verb : Verb) (words : Stream) → IsDrawnWithin 3 words (drawn_arithmetic verb words).1
within-drawn_arithmetic verb words = drawn_first 2 _ _ (within-drawn_source (rest words))

within-end_turn : (depth : ℕ) (words : Stream) → IsDrawnWithin 3 words (end_turn depth words).words
within-end_turn zero words = drawn_within 0 3 _ _ (omega arith) (drawn_none words)
within-end_turn (suc depth) words = drawn_within 0 3 _ _ (omega arith) (drawn_none words)

within-call_turn : (names : List ℕ) (depth : ℕ) (words : Stream) → IsDrawnWithin 3 words (call_turn names depth words).words
within-call_turn [] depth words = drawn_within 0 3 _ _ (omega arith) (drawn_none words)
within-call_turn (n ∷ ns) depth words = drawn_within 2 3 _ _ (omega arith) (drawn_first 1 _ _ (drawn_first 0 _ _ (drawn_none _)))

within-turn : (names : List ℕ) (depth : ℕ) (words : Stream) → IsDrawnWithin 4 words (turn names depth words).words
within-turn names depth words =
    let P : Turn → Type 0 = λ t. IsDrawnWithin 3 (rest words) t.words in
    let k = below 16 words in
    drawn_first 3 words _
    (of_either P (nat_lt k 12) _ _ (within-drawn_arithmetic (verb_at k) (rest words))
    (of_either P (k == 12) _ _ (drawn_within 1 3 _ _ (omega arith) (drawn_first 0 _ _ (drawn_none _)))
    (of_either P (k == 13) _ _ (within-end_turn depth (rest words)) (within-call_turn names depth (rest words)))))

within-turns : (count : ℕ) (names : List ℕ) (depth : ℕ) (words : Stream) → IsDrawnWithin (4 * count) words (turns count names depth words).1
within-turns zero names depth words = drawn_none words
within-turns (suc count) names depth words =
    let first = turn names depth words in
    drawn_within (4 * count + 4) (4 * suc count) _ _ (omega arith)
    (drawn_then 4 (4 * count) words first.words _ (within-turn names depth words) (within-turns count names first.depth first.words))

pub within-generated : (names : List ℕ) (words : Stream) → IsDrawnWithin 33 words (generated names words).1
within-generated names words =
    let few : below 8 words < 8 = omega arith in
    drawn_first 32 words _ (drawn_within (4 * suc (below 8 words)) 32 _ _ (omega arith) (within-turns (suc (below 8 words)) names 0 (rest words)))
