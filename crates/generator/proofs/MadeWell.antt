-- What is made is a program.
use Rattle.std.proofs.Common.{◌≡◌, ℕ, zero, suc, ℤ, pos, ◌-ℤ◌, unsigned_abs, ◌+◌, ◌*◌, ◌^◌, ◌≤◌, ◌<◌, List, [], ◌∷◌, ◌++◌, length, replicate, refl, arith, All, nat_lt, ◌==◌, slice_index, length-append, lit<, lit≤}
use Rattle.std.proofs.lemmas.List.Elements.{All-append, All-replicate, All-get_or, All-nil, All-cons}
use Rattle.std.proofs.lemmas.List.{length-replicate}
use Rattle.rand_core.specs.Stream.{Stream}
use Rattle.word_stream.specs.Words.{below, rest}
use Rattle.loda_syntax.specs.declared.instr.Verb.{Verb}
use Rattle.loda_syntax.specs.declared.instr.Operand.{Operand}
use Rattle.loda_syntax.specs.declared.instr.Instr.{Instr}
use Rattle.loda_syntax.specs.declared.instr.Instr.TheVariants.{Arith, LoopStart, LoopEnd, Call}
use Rattle.loda_syntax.specs.declared.instr.Operand.TheVariants.{Constant, Direct}
use Rattle.loda_syntax.specs.declared.instr.Verb.TheVariants.{Sub}
use Rattle.loda_syntax.specs.WellFormed.{IsInstr, IsSource, IsBalanced, IsProgram}
use Rattle.generator.specs.Arithmetic.{verb_at, drawn_source, drawn_arithmetic}
use Rattle.text_parts.specs.Names.{IsName}
use Rattle.generator.specs.Names.{AreNames}
use Rattle.generator.specs.Generating.{Turn, arithmetic_turn, loop_turn, end_turn, call_turn, turn, turns, generated}
use Rattle.generator.proofs.Choices.{of_either}

small_constant : (x : ℕ) → x < 12 → unsigned_abs (pos x -ℤ pos 2) < 2 ^ 127
small_constant x h = of_either (λ (z : ℤ). unsigned_abs z < 2 ^ 127) (nat_lt x 2) _ _ (omega arith) (omega arith)

IsSource-drawn_source : (words : Stream) → IsSource (drawn_source words).0
IsSource-drawn_source words =
    of_either (λ (p : Operand × Stream). IsSource p.0) (nat_lt (below 8 words) 4) _ _ (omega arith)
    (small_constant _ (omega arith))

pub IsInstr-drawn_arithmetic : (verb : Verb) (words : Stream) → IsInstr (drawn_arithmetic verb words).0
IsInstr-drawn_arithmetic verb words = (omega arith, IsSource-drawn_source (rest words))

-- what a turn adds is in range and short, and leaves as many loops open as it says
record IsGoodTurn (depth : ℕ) (t : Turn) : Type 0 where
  short : length t.added + t.depth ≤ depth + 3
  each : All IsInstr t.added
  balanced : (after : List Instr) → IsBalanced t.depth after → IsBalanced depth (t.added ++ after)

one : (x : Instr) → IsInstr x → All IsInstr (x ∷ [])
one x h = All-cons IsInstr x [] h (All-nil IsInstr)

good_arithmetic : (k depth : ℕ) (words : Stream) → IsGoodTurn depth (arithmetic_turn k depth words)
good_arithmetic k depth words = record {
  short = omega arith;
  each = one _ (IsInstr-drawn_arithmetic (verb_at k) words);
  balanced = λ after h. h;
}

good_loop : (depth : ℕ) (words : Stream) → IsGoodTurn depth (loop_turn depth words)
good_loop depth words =
    let cell = below 4 words in
    let begins : IsInstr (LoopStart cell 1) = (lit≤ tt, lit≤ tt, omega arith) in
    let down : Instr = Arith Sub (Direct cell) (Constant (pos 1)) in
    let counts : IsInstr down = (omega arith, lit< tt) in
    record {
      short = omega arith;
      each = All-cons IsInstr (LoopStart cell 1) (down ∷ []) begins (one down counts);
      balanced = λ after h. h;
    }

good_end : (depth : ℕ) (words : Stream) → IsGoodTurn depth (end_turn depth words)
good_end zero words = record { short = omega arith; each = All-nil IsInstr; balanced = λ after h. h }
good_end (suc depth) words = record { short = omega arith; each = one LoopEnd tt; balanced = λ after h. h }

good_call : (names : List ℕ) (depth : ℕ) (words : Stream) → AreNames names → IsGoodTurn depth (call_turn names depth words)
good_call [] depth words are = record { short = omega arith; each = All-nil IsInstr; balanced = λ after h. h }
good_call (n ∷ ns) depth words are =
    let there : below (length (n ∷ ns)) (rest words) < length (n ∷ ns) = omega arith in
    let name = All-get_or IsName (n ∷ ns) _ 0 there are.each in
    let called : IsInstr (Call (Direct (below 4 words)) (slice_index (n ∷ ns) (below (length (n ∷ ns)) (rest words)))) = (omega arith, name.0, name.1) in
    record { short = omega arith; each = one _ called; balanced = λ after h. h }

good_turn : (names : List ℕ) (depth : ℕ) (words : Stream) → AreNames names → IsGoodTurn depth (turn names depth words)
good_turn names depth words are =
    let P : Turn → Type 0 = λ t. IsGoodTurn depth t in
    let k = below 16 words in
    of_either P (nat_lt k 12) _ _ (good_arithmetic k depth (rest words))
    (of_either P (k == 12) _ _ (good_loop depth (rest words))
    (of_either P (k == 13) _ _ (good_end depth (rest words)) (good_call names depth (rest words) are)))

balanced_ends : (depth : ℕ) → IsBalanced depth (replicate depth LoopEnd)
balanced_ends zero = refl
balanced_ends (suc depth) = balanced_ends depth

balanced_turns : (count : ℕ) (names : List ℕ) (depth : ℕ) (words : Stream) → AreNames names
    → IsBalanced depth (turns count names depth words).0
balanced_turns zero names depth words are = balanced_ends depth
balanced_turns (suc count) names depth words are =
    let first = turn names depth words in
    (good_turn names depth words are).balanced _ (balanced_turns count names first.depth first.words are)

in_range_turns : (count : ℕ) (names : List ℕ) (depth : ℕ) (words : Stream) → AreNames names
    → All IsInstr (turns count names depth words).0
in_range_turns zero names depth words are = All-replicate IsInstr depth LoopEnd tt
in_range_turns (suc count) names depth words are =
    let first = turn names depth words in
    All-append IsInstr first.added _ (good_turn names depth words are).each (in_range_turns count names first.depth first.words are)

length-turns : (count : ℕ) (names : List ℕ) (depth : ℕ) (words : Stream) → AreNames names
    → length (turns count names depth words).0 ≤ 3 * count + depth
length-turns zero names depth words are = omega (arith, length-replicate depth LoopEnd)
length-turns (suc count) names depth words are =
    let first = turn names depth words in
    let others = turns count names first.depth first.words in
    let e : length (first.added ++ others.0) ≡ length first.added + length others.0 = length-append first.added others.0 in
    let short = (good_turn names depth words are).short in
    let fewer = length-turns count names first.depth first.words are in
    omega (arith, e, short, fewer)

pub IsProgram-generated : (names : List ℕ) (words : Stream) → AreNames names → IsProgram (generated names words).0
IsProgram-generated names words are =
    let count = suc (below 8 words) in
    let few : count ≤ 8 = omega arith in
    let short = length-turns count names 0 (rest words) are in
    record {
      short = omega (arith, few, short);
      each = in_range_turns count names 0 (rest words) are;
      balanced = balanced_turns count names 0 (rest words) are;
    }
