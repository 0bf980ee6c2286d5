-- The first 33 words decide which program is made.
use Rattle.std.proofs.Common.{◌≡◌, ℕ, zero, suc, pos, ◌-ℤ◌, ◌+◌, ◌*◌, ◌≤◌, List, [], ◌∷◌, ◌++◌, length, slice_index, refl, ap, subst, ◌∙◌, arith, nat_lt, ◌==◌}
use Rattle.rand_core.specs.Stream.{Stream}
use Rattle.word_stream.specs.Words.{below, rest, SameWords}
use Rattle.word_stream.proofs.Same.{same_first, same_rest, same_fewer, SameDrawn, of_choices}
use Rattle.loda_syntax.specs.declared.instr.Verb.{Verb}
use Rattle.loda_syntax.specs.declared.instr.Verb.TheVariants.{Sub}
use Rattle.loda_syntax.specs.declared.instr.Operand.{Operand}
use Rattle.loda_syntax.specs.declared.instr.Operand.TheVariants.{Constant, Direct}
use Rattle.loda_syntax.specs.declared.instr.Instr.{Instr}
use Rattle.loda_syntax.specs.declared.instr.Instr.TheVariants.{Arith, LoopStart, Call}
use Rattle.generator.specs.Arithmetic.{verb_at, drawn_source, drawn_arithmetic}
use Rattle.generator.specs.Generating.{Turn, arithmetic_turn, loop_turn, end_turn, call_turn, turn, turns, generated}

same-drawn_source : (n : ℕ) (one other : Stream) → SameWords (suc (suc n)) one other → SameDrawn n (drawn_source one) (drawn_source other)
same-drawn_source n one other s =
    let R : Operand × Stream → Operand × Stream → Type 0 = λ p q. SameDrawn n p q in
    let cell = same_first (suc n) one other s 8 in
    let after = same_rest (suc n) one other s in
    let number = same_first n (rest one) (rest other) after 12 in
    let last = same_rest n (rest one) (rest other) after in
    of_choices R (nat_lt (below 8 one) 4) (nat_lt (below 8 other) 4) _ _ _ _ (ap (λ (c : ℕ). nat_lt c 4) cell)
    (record { value = ap (λ (c : ℕ). Direct c) cell; words = same_fewer (suc n) n (rest one) (rest other) (omega arith) after })
    (record { value = ap (λ (x : ℕ). Constant (pos x -ℤ pos 2)) number; words = last })

pub same-drawn_arithmetic : (verb : Verb) (n : ℕ) (one other : Stream) → SameWords (suc (suc (suc n))) one other
    → SameDrawn n (drawn_arithmetic verb one) (drawn_arithmetic verb other)
same-drawn_arithmetic verb n one other s =
    let target = same_first (suc (suc n)) one other s 4 in
    let source = same-drawn_source n (rest one) (rest other) (same_rest (suc (suc n)) one other s) in
    record { value = λ i. Arith verb (Direct (target i)) (source.value i); words = source.words }

-- two turns that add the same and leave as many loops open, with the same next words
record SameTurn (n : ℕ) (t u : Turn) : Type 0 where
  added : t.added ≡ u.added
  depth : t.depth ≡ u.depth
  words : SameWords n t.words u.words

same-arithmetic_turn : (k depth n : ℕ) (one other : Stream) → SameWords (suc (suc (suc n))) one other
    → SameTurn n (arithmetic_turn k depth one) (arithmetic_turn k depth other)
same-arithmetic_turn k depth n one other s =
    let drawn = same-drawn_arithmetic (verb_at k) n one other s in
    record { added = ap (λ (x : Instr). x ∷ []) drawn.value; depth = refl; words = drawn.words }

same-loop_turn : (depth n : ℕ) (one other : Stream) → SameWords (suc (suc (suc n))) one other
    → SameTurn n (loop_turn depth one) (loop_turn depth other)
same-loop_turn depth n one other s =
    let cell = same_first (suc (suc n)) one other s 4 in
    record {
      added = ap (λ (t : ℕ). LoopStart t 1 ∷ Arith Sub (Direct t) (Constant (pos 1)) ∷ []) cell;
      depth = refl;
      words = same_fewer (suc (suc n)) n (rest one) (rest other) (omega arith) (same_rest (suc (suc n)) one other s);
    }

same-end_turn : (depth n : ℕ) (one other : Stream) → SameWords (suc (suc (suc n))) one other
    → SameTurn n (end_turn depth one) (end_turn depth other)
same-end_turn zero n one other s = record { added = refl; depth = refl; words = same_fewer (suc (suc (suc n))) n one other (omega arith) s }
same-end_turn (suc depth) n one other s = record { added = refl; depth = refl; words = same_fewer (suc (suc (suc n))) n one other (omega arith) s }

same-call_turn : (names : List ℕ) (depth n : ℕ) (one other : Stream) → SameWords (suc (suc (suc n))) one other
    → SameTurn n (call_turn names depth one) (call_turn names depth other)
same-call_turn [] depth n one other s = record { added = refl; depth = refl; words = same_fewer (suc (suc (suc n))) n one other (omega arith) s }
same-call_turn (q ∷ qs) depth n one other s =
    let names : List ℕ = q ∷ qs in
    let target = same_first (suc (suc n)) one other s 4 in
    let after = same_rest (suc (suc n)) one other s in
    let place = same_first (suc n) (rest one) (rest other) after (length names) in
    record {
      added = λ i. Call (Direct (target i)) (slice_index names (place i)) ∷ [];
      depth = refl;
      words = same_fewer (suc n) n (rest (rest one)) (rest (rest other)) (omega arith) (same_rest (suc n) (rest one) (rest other) after);
    }

same-turn : (names : List ℕ) (depth n : ℕ) (one other : Stream) → SameWords (suc (suc (suc (suc n)))) one other
    → SameTurn n (turn names depth one) (turn names depth other)
same-turn names depth n one other s =
    let R : Turn → Turn → Type 0 = λ t u. SameTurn n t u in
    let k = same_first (suc (suc (suc n))) one other s 16 in
    let after = same_rest (suc (suc (suc n))) one other s in
    let arithmetic : SameTurn n (arithmetic_turn (below 16 one) depth (rest one)) (arithmetic_turn (below 16 other) depth (rest other)) =
    subst (λ (j : ℕ). SameTurn n (arithmetic_turn (below 16 one) depth (rest one)) (arithmetic_turn j depth (rest other))) k
    (same-arithmetic_turn (below 16 one) depth n (rest one) (rest other) after) in
    of_choices R (nat_lt (below 16 one) 12) (nat_lt (below 16 other) 12) _ _ _ _ (ap (λ (j : ℕ). nat_lt j 12) k) arithmetic
    (of_choices R (below 16 one == 12) (below 16 other == 12) _ _ _ _ (ap (λ (j : ℕ). j == 12) k) (same-loop_turn depth n (rest one) (rest other) after)
    (of_choices R (below 16 one == 13) (below 16 other == 13) _ _ _ _ (ap (λ (j : ℕ). j == 13) k) (same-end_turn depth n (rest one) (rest other) after)
    (same-call_turn names depth n (rest one) (rest other) after)))

same-turns : (count : ℕ) (names : List ℕ) (depth : ℕ) (one other : Stream) → SameWords (4 * count) one other
    → (turns count names depth one).0 ≡ (turns count names depth other).0
same-turns zero names depth one other s = refl
same-turns (suc count) names depth one other s =
    let first = same-turn names depth (4 * count) one other (same_fewer (4 * suc count) (suc (suc (suc (suc (4 * count))))) one other (omega arith) s) in
    let t = turn names depth one in
    let u = turn names depth other in
    let others = same-turns count names t.depth t.words u.words first.words in
    let deeper : (turns count names t.depth u.words).0 ≡ (turns count names u.depth u.words).0 = ap (λ (d : ℕ). (turns count names d u.words).0) first.depth in
    let all = others ∙ deeper in
    λ i. first.added i ++ all i

pub same-generated : (names : List ℕ) (one other : Stream) → SameWords 33 one other → (generated names one).0 ≡ (generated names other).0
same-generated names one other s =
    let count = same_first 32 one other s 8 in
    let after = same_rest 32 one other s in
    let few : 4 * suc (below 8 one) ≤ 32 = omega arith in
    same-turns (suc (below 8 one)) names 0 (rest one) (rest other) (same_fewer 32 (4 * suc (below 8 one)) (rest one) (rest other) few after)
    ∙ ap (λ (k : ℕ). (turns (suc k) names 0 (rest other)).0) count
