-- How an arithmetic instruction is drawn.
use Rattle.std.specs.Prelude.{ℕ, pos, ◌-ℤ◌, List, [], ◌∷◌, slice_index_or, nat_lt, if◌then◌else◌}
use Rattle.rand_core.specs.Stream.{Stream}
use Rattle.word_stream.specs.Words.{below, rest}
use Rattle.loda_syntax.specs.declared.instr.Verb.{Verb}
use Rattle.loda_syntax.specs.declared.instr.Verb.TheVariants.{Mov, Add, Sub, Mul, Trn, Div, Mod, Pow, Gcd, Bin, Equ, Max}
use Rattle.loda_syntax.specs.declared.instr.Operand.{Operand}
use Rattle.loda_syntax.specs.declared.instr.Operand.TheVariants.{Constant, Direct}
use Rattle.loda_syntax.specs.declared.instr.Instr.{Instr}
use Rattle.loda_syntax.specs.declared.instr.Instr.TheVariants.{Arith}

-- the verbs that are drawn, numbered from 0
abbrev pub drawn_verbs : List Verb
drawn_verbs = Mov ∷ Add ∷ Sub ∷ Mul ∷ Trn ∷ Div ∷ Mod ∷ Pow ∷ Gcd ∷ Bin ∷ Equ ∷ Max ∷ []

-- the verb with this number
abbrev pub verb_at : ℕ → Verb
verb_at k = slice_index_or drawn_verbs k Mov

-- a source, and the words that are left: one of the first four cells, or a constant from -2 to 9
abbrev pub drawn_source : Stream → Operand × Stream
drawn_source words =
    let s = below 8 words in
    let after = rest words in
    if nat_lt s 4 then (Direct s, after) else (Constant (pos (below 12 after) -ℤ pos 2), rest after)

-- an instruction with this verb, and the words that are left: the target is one of the first four cells
abbrev pub drawn_arithmetic : Verb → Stream → Instr × Stream
drawn_arithmetic verb words =
    let source = drawn_source (rest words) in
    (Arith verb (Direct (below 4 words)) source.0, source.1)
