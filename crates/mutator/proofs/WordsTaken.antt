-- How many words are taken at most.
use Rattle.std.proofs.Common.{ℕ, zero, suc, ◌+◌, ◌*◌, ◌<◌, ◌==◌, List, [], ◌∷◌, length, arith}
use Rattle.rand_core.specs.Stream.{Stream}
use Rattle.word_stream.specs.Words.{below, rest, IsDrawnWithin}
use Rattle.word_stream.proofs.Within.{drawn_none, drawn_first, drawn_then, drawn_within}
use Rattle.loda_syntax.specs.declared.instr.Operand.TheVariants.{Constant, Direct, Indirect}
use Rattle.loda_syntax.specs.declared.instr.Instr.{Instr}
use Rattle.loda_syntax.specs.declared.instr.Instr.TheVariants.{Arith, Clear, LoopStart, LoopEnd, Call}
use Rattle.generator.specs.Arithmetic.{verb_at}
use Rattle.generator.proofs.Choices.{of_either}
use Rattle.generator.proofs.WordsTaken.{within-drawn_arithmetic}
use Rattle.mutator.specs.Mutating.{drawn_instr, redrawn, nudged, retargeted, renamed, changed_instr, changed_at, lengthened, changed, changes, mutated}
use Rattle.loda_syntax.specs.declared.instr.TheConstants.{MOST_INSTRS}

-- no word, of at most four
none : (words : Stream) → IsDrawnWithin 4 words words
none words = drawn_within 0 4 words words (omega arith) (drawn_none words)

-- one word, of at most four
single : (words : Stream) → IsDrawnWithin 4 words (rest words)
single words = drawn_within 1 4 words (rest words) (omega arith) (drawn_first 0 words (rest words) (drawn_none (rest words)))

within-drawn_instr : (words : Stream) → IsDrawnWithin 4 words (drawn_instr words).1
within-drawn_instr words = drawn_first 3 words _ (within-drawn_arithmetic (verb_at (below 12 words)) (rest words))

within-redrawn : (instr : Instr) (words : Stream) → IsDrawnWithin 4 words (redrawn instr words).1
within-redrawn (Arith v t s) words = within-drawn_instr words
within-redrawn (Clear c n) words = none words
within-redrawn (LoopStart c n) words = none words
within-redrawn LoopEnd words = none words
within-redrawn (Call t q) words = none words

within-nudged : (instr : Instr) (words : Stream) → IsDrawnWithin 4 words (nudged instr words).1
within-nudged (Arith v t (Constant value)) words = single words
within-nudged (Arith v t (Direct c)) words = none words
within-nudged (Arith v t (Indirect c)) words = none words
within-nudged (Clear c n) words = none words
within-nudged (LoopStart c n) words = none words
within-nudged LoopEnd words = none words
within-nudged (Call t q) words = none words

within-retargeted : (instr : Instr) (words : Stream) → IsDrawnWithin 4 words (retargeted instr words).1
within-retargeted (Arith v t s) words = single words
within-retargeted (Clear c n) words = none words
within-retargeted (LoopStart c n) words = none words
within-retargeted LoopEnd words = none words
within-retargeted (Call t q) words = none words

within-renamed : (names : List ℕ) (instr : Instr) (words : Stream) → IsDrawnWithin 4 words (renamed names instr words).1
within-renamed [] (Arith v t s) words = none words
within-renamed [] (Clear c n) words = none words
within-renamed [] (LoopStart c n) words = none words
within-renamed [] LoopEnd words = none words
within-renamed [] (Call t q) words = none words
within-renamed (n ∷ ns) (Arith v t s) words = none words
within-renamed (n ∷ ns) (Clear c k) words = none words
within-renamed (n ∷ ns) (LoopStart c k) words = none words
within-renamed (n ∷ ns) LoopEnd words = none words
within-renamed (n ∷ ns) (Call t q) words = single words

within-changed_instr : (m : ℕ) (names : List ℕ) (instr : Instr) (words : Stream) → IsDrawnWithin 4 words (changed_instr m names instr words).1
within-changed_instr m names instr words =
    let P : Instr × Stream → Type 0 = λ made. IsDrawnWithin 4 words made.1 in
    of_either P (m == 0) _ _ (within-redrawn instr words)
    (of_either P (m == 3) _ _ (within-nudged instr words)
    (of_either P (m == 4) _ _ (within-retargeted instr words) (within-renamed names instr words)))

within-changed_at : (m : ℕ) (names : List ℕ) (list : List Instr) (place : ℕ) (words : Stream)
    → IsDrawnWithin 4 words (changed_at m names list place words).1
within-changed_at m names list place words =
    of_either (λ (made : List Instr × Stream). IsDrawnWithin 4 words made.1) (m == 2) _ _ (none words)
    (within-changed_instr m names _ words)

within-lengthened : (list : List Instr) (words : Stream) → IsDrawnWithin 5 words (lengthened list words).1
within-lengthened list words =
    of_either (λ (made : List Instr × Stream). IsDrawnWithin 5 words made.1) (length list == MOST_INSTRS) _ _
    (drawn_within 4 5 words words (omega arith) (none words)) (drawn_first 4 words _ (within-drawn_instr (rest words)))

within-changed : (names : List ℕ) (list : List Instr) (words : Stream) → IsDrawnWithin 6 words (changed names list words).1
within-changed names list words =
    let after = rest words in
    let P : List Instr × Stream → Type 0 = λ made. IsDrawnWithin 5 after made.1 in
    drawn_first 5 words _
    (of_either P (below 6 words == 1) _ _ (within-lengthened list after)
    (of_either P (length list == 0) _ _ (drawn_within 4 5 after after (omega arith) (none after))
    (drawn_first 4 after _ (within-changed_at (below 6 words) names list (below (length list) after) (rest after)))))

within-changes : (count : ℕ) (names : List ℕ) (list : List Instr) (words : Stream) → IsDrawnWithin (6 * count) words (changes count names list words).1
within-changes zero names list words = drawn_none words
within-changes (suc count) names list words =
    let first = changed names list words in
    drawn_within (6 * count + 6) (6 * suc count) words _ (omega arith)
    (drawn_then 6 (6 * count) words first.1 _ (within-changed names list words) (within-changes count names first.0 first.1))

pub within-mutated : (names : List ℕ) (list : List Instr) (words : Stream) → IsDrawnWithin 19 words (mutated names list words).1
within-mutated names list words =
    let few : below 3 words < 3 = omega arith in
    let count = suc (below 3 words) in
    drawn_first 18 words _
    (drawn_within (6 * count) 18 (rest words) _ (omega (arith, few)) (within-changes count names list (rest words)))
