-- Which program is made of which words.
use Rattle.std.specs.Prelude.{ℕ, zero, suc, pos, List, [], ◌∷◌, ◌++◌, length, slice_index, replicate, nat_lt, ◌==◌, if◌then◌else◌}
use Rattle.rand_core.specs.Stream.{Stream}
use Rattle.word_stream.specs.Words.{below, rest}
use Rattle.loda_syntax.specs.declared.instr.Verb.TheVariants.{Sub}
use Rattle.loda_syntax.specs.declared.instr.Operand.TheVariants.{Constant, Direct}
use Rattle.loda_syntax.specs.declared.instr.Instr.{Instr}
use Rattle.loda_syntax.specs.declared.instr.Instr.TheVariants.{Arith, LoopStart, LoopEnd, Call}
use Rattle.generator.specs.Arithmetic.{verb_at, drawn_arithmetic}

-- what one turn adds, how many loops aren't ended after it, and the words that are left
pub record Turn : Type 0 where
  pub added : List Instr
  pub depth : ℕ
  pub words : Stream

-- an arithmetic instruction with verb k
abbrev pub arithmetic_turn : ℕ → ℕ → Stream → Turn
arithmetic_turn k depth words =
    let drawn = drawn_arithmetic (verb_at k) words in
    record { added = drawn.0 ∷ []; depth = depth; words = drawn.1 }

-- a loop is begun that counts a cell down
abbrev pub loop_turn : ℕ → Stream → Turn
loop_turn depth words =
    let t = below 4 words in
    record {
      added = LoopStart t 1 ∷ Arith Sub (Direct t) (Constant (pos 1)) ∷ [];
      depth = suc depth;
      words = rest words;
    }

-- the innermost loop is ended, where there is one
abbrev pub end_turn : ℕ → Stream → Turn
end_turn zero words = record { added = []; depth = zero; words = words }
end_turn (suc depth) words = record { added = LoopEnd ∷ []; depth = depth; words = words }

-- one of the names is called, where there is one
abbrev pub call_turn : List ℕ → ℕ → Stream → Turn
call_turn [] depth words = record { added = []; depth = depth; words = words }
call_turn (n ∷ ns) depth words =
    let names = n ∷ ns in
    let name = slice_index names (below (length names) (rest words)) in
    record { added = Call (Direct (below 4 words)) name ∷ []; depth = depth; words = rest (rest words) }

-- one turn, where `depth` loops aren't ended
abbrev pub turn : List ℕ → ℕ → Stream → Turn
turn names depth words =
    let k = below 16 words in
    if nat_lt k 12 then arithmetic_turn k depth (rest words)
    else if k == 12 then loop_turn depth (rest words)
    else if k == 13 then end_turn depth (rest words)
    else call_turn names depth (rest words)

-- this many turns, and then an end for each loop that isn't ended
abbrev pub turns : ℕ → List ℕ → ℕ → Stream → List Instr × Stream
turns zero names depth words = (replicate depth LoopEnd, words)
turns (suc count) names depth words =
    let first = turn names depth words in
    let others = turns count names first.depth first.words in
    (first.added ++ others.0, others.1)

-- the instructions of the program, and the words that are left
abbrev pub generated : List ℕ → Stream → List Instr × Stream
generated names words = turns (suc (below 8 words)) names 0 (rest words)
