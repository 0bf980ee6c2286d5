-- The first 19 words decide which program is made.
use Rattle.std.proofs.Common.{◌≡◌, ℕ, zero, suc, ◌+◌, ◌*◌, ◌≤◌, ◌==◌, List, [], ◌∷◌, length, slice_index, slice_index_or, slice_set, refl, ap, subst, ◌∙◌, arith}
use Rattle.std.specs.List.{insert}
use Rattle.rand_core.specs.Stream.{Stream}
use Rattle.word_stream.specs.Words.{below, rest, SameWords}
use Rattle.word_stream.proofs.Same.{same_first, same_rest, same_fewer, SameDrawn, of_choices}
use Rattle.loda_syntax.specs.declared.instr.Operand.TheVariants.{Constant, Direct, Indirect}
use Rattle.loda_syntax.specs.declared.instr.Instr.{Instr}
use Rattle.loda_syntax.specs.declared.instr.Instr.TheVariants.{Arith, Clear, LoopStart, LoopEnd, Call}
use Rattle.generator.specs.Arithmetic.{verb_at, drawn_arithmetic}
use Rattle.generator.proofs.FirstWords.{same-drawn_arithmetic}
use Rattle.mutator.specs.Mutating.{drawn_instr, moved, redrawn, nudged, retargeted, renamed, changed_instr, changed_at, lengthened, changed, changes, mutated}
use Rattle.loda_syntax.specs.declared.instr.TheConstants.{MOST_INSTRS}

-- the same next words, of which a change of an instruction takes four at most
abbrev SameFour : ℕ → Stream → Stream → Type 0
SameFour n one other = SameWords (suc (suc (suc (suc n)))) one other

-- nothing is drawn
none : {A : Type 0} (n : ℕ) (x : A) (one other : Stream) → SameFour n one other → SameDrawn n (x, one) (x, other)
none n x one other s = record { value = refl; words = same_fewer (suc (suc (suc (suc n)))) n one other (omega arith) s }

-- one word is drawn
single : (n : ℕ) (one other : Stream) → SameFour n one other → SameWords n (rest one) (rest other)
single n one other s = same_fewer (suc (suc (suc n))) n (rest one) (rest other) (omega arith) (same_rest (suc (suc (suc n))) one other s)

same-drawn_instr : (n : ℕ) (one other : Stream) → SameFour n one other → SameDrawn n (drawn_instr one) (drawn_instr other)
same-drawn_instr n one other s =
    let verb = same_first (suc (suc (suc n))) one other s 12 in
    let after = same_rest (suc (suc (suc n))) one other s in
    subst (λ (v : ℕ). SameDrawn n (drawn_arithmetic (verb_at (below 12 one)) (rest one)) (drawn_arithmetic (verb_at v) (rest other))) verb
    (same-drawn_arithmetic (verb_at (below 12 one)) n (rest one) (rest other) after)

same-redrawn : (instr : Instr) (n : ℕ) (one other : Stream) → SameFour n one other → SameDrawn n (redrawn instr one) (redrawn instr other)
same-redrawn (Arith v t x) n one other s = same-drawn_instr n one other s
same-redrawn (Clear c k) n one other s = none n (Clear c k) one other s
same-redrawn (LoopStart c k) n one other s = none n (LoopStart c k) one other s
same-redrawn LoopEnd n one other s = none n LoopEnd one other s
same-redrawn (Call t q) n one other s = none n (Call t q) one other s

same-nudged : (instr : Instr) (n : ℕ) (one other : Stream) → SameFour n one other → SameDrawn n (nudged instr one) (nudged instr other)
same-nudged (Arith v t (Constant value)) n one other s = record {
  value = ap (λ (e : ℕ). Arith v t (Constant (moved e value))) (same_first (suc (suc (suc n))) one other s 2);
  words = single n one other s;
}
same-nudged (Arith v t (Direct c)) n one other s = none n (Arith v t (Direct c)) one other s
same-nudged (Arith v t (Indirect c)) n one other s = none n (Arith v t (Indirect c)) one other s
same-nudged (Clear c k) n one other s = none n (Clear c k) one other s
same-nudged (LoopStart c k) n one other s = none n (LoopStart c k) one other s
same-nudged LoopEnd n one other s = none n LoopEnd one other s
same-nudged (Call t q) n one other s = none n (Call t q) one other s

same-retargeted : (instr : Instr) (n : ℕ) (one other : Stream) → SameFour n one other → SameDrawn n (retargeted instr one) (retargeted instr other)
same-retargeted (Arith v t x) n one other s = record {
  value = ap (λ (c : ℕ). Arith v (Direct c) x) (same_first (suc (suc (suc n))) one other s 4);
  words = single n one other s;
}
same-retargeted (Clear c k) n one other s = none n (Clear c k) one other s
same-retargeted (LoopStart c k) n one other s = none n (LoopStart c k) one other s
same-retargeted LoopEnd n one other s = none n LoopEnd one other s
same-retargeted (Call t q) n one other s = none n (Call t q) one other s

same-renamed : (names : List ℕ) (instr : Instr) (n : ℕ) (one other : Stream) → SameFour n one other
    → SameDrawn n (renamed names instr one) (renamed names instr other)
same-renamed [] (Arith v t x) n one other s = none n (Arith v t x) one other s
same-renamed [] (Clear c k) n one other s = none n (Clear c k) one other s
same-renamed [] (LoopStart c k) n one other s = none n (LoopStart c k) one other s
same-renamed [] LoopEnd n one other s = none n LoopEnd one other s
same-renamed [] (Call t q) n one other s = none n (Call t q) one other s
same-renamed (m ∷ ms) (Arith v t x) n one other s = none n (Arith v t x) one other s
same-renamed (m ∷ ms) (Clear c k) n one other s = none n (Clear c k) one other s
same-renamed (m ∷ ms) (LoopStart c k) n one other s = none n (LoopStart c k) one other s
same-renamed (m ∷ ms) LoopEnd n one other s = none n LoopEnd one other s
same-renamed (m ∷ ms) (Call t q) n one other s = record {
  value = ap (λ (place : ℕ). Call t (slice_index (m ∷ ms) place)) (same_first (suc (suc (suc n))) one other s (length (m ∷ ms)));
  words = single n one other s;
}

same-changed_instr : (m : ℕ) (names : List ℕ) (instr : Instr) (n : ℕ) (one other : Stream) → SameFour n one other
    → SameDrawn n (changed_instr m names instr one) (changed_instr m names instr other)
same-changed_instr m names instr n one other s =
    let R : Instr × Stream → Instr × Stream → Type 0 = λ p q. SameDrawn n p q in
    of_choices R (m == 0) (m == 0) _ _ _ _ refl (same-redrawn instr n one other s)
    (of_choices R (m == 3) (m == 3) _ _ _ _ refl (same-nudged instr n one other s)
    (of_choices R (m == 4) (m == 4) _ _ _ _ refl (same-retargeted instr n one other s) (same-renamed names instr n one other s)))

same-changed_at : (m : ℕ) (names : List ℕ) (list : List Instr) (place n : ℕ) (one other : Stream) → SameFour n one other
    → SameDrawn n (changed_at m names list place one) (changed_at m names list place other)
same-changed_at m names list place n one other s =
    let R : List Instr × Stream → List Instr × Stream → Type 0 = λ p q. SameDrawn n p q in
    let new = same-changed_instr m names (slice_index_or list place LoopEnd) n one other s in
    of_choices R (m == 2) (m == 2) _ _ _ _ refl (none n _ one other s)
    (record { value = ap (λ (x : Instr). slice_set list place x) new.value; words = new.words })

same-lengthened : (list : List Instr) (n : ℕ) (one other : Stream) → SameWords (suc (suc (suc (suc (suc n))))) one other
    → SameDrawn n (lengthened list one) (lengthened list other)
same-lengthened list n one other s =
    let R : List Instr × Stream → List Instr × Stream → Type 0 = λ p q. SameDrawn n p q in
    let place = same_first (suc (suc (suc (suc n)))) one other s (length list + 1) in
    let new = same-drawn_instr n (rest one) (rest other) (same_rest (suc (suc (suc (suc n)))) one other s) in
    of_choices R (length list == MOST_INSTRS) (length list == MOST_INSTRS) _ _ _ _ refl
    (none n list one other (same_fewer (suc (suc (suc (suc (suc n))))) (suc (suc (suc (suc n)))) one other (omega arith) s))
    (record { value = λ i. insert list (place i) (new.value i); words = new.words })

same-changed : (names : List ℕ) (list : List Instr) (n : ℕ) (one other : Stream) → SameWords (suc (suc (suc (suc (suc (suc n)))))) one other
    → SameDrawn n (changed names list one) (changed names list other)
same-changed names list n one other s =
    let R : List Instr × Stream → List Instr × Stream → Type 0 = λ p q. SameDrawn n p q in
    let m = same_first (suc (suc (suc (suc (suc n))))) one other s 6 in
    let after = same_rest (suc (suc (suc (suc (suc n))))) one other s in
    let place = same_first (suc (suc (suc (suc n)))) (rest one) (rest other) after (length list) in
    let four = same_rest (suc (suc (suc (suc n)))) (rest one) (rest other) after in
    let at = same-changed_at (below 6 one) names list (below (length list) (rest one)) n (rest (rest one)) (rest (rest other)) four in
    let there : SameDrawn n (changed_at (below 6 one) names list (below (length list) (rest one)) (rest (rest one))) (changed_at (below 6 one) names list (below (length list) (rest other)) (rest (rest other))) =
    subst (λ (p : ℕ). SameDrawn n (changed_at (below 6 one) names list (below (length list) (rest one)) (rest (rest one))) (changed_at (below 6 one) names list p (rest (rest other)))) place at in
    let here : SameDrawn n (changed_at (below 6 one) names list (below (length list) (rest one)) (rest (rest one))) (changed_at (below 6 other) names list (below (length list) (rest other)) (rest (rest other))) =
    subst (λ (k : ℕ). SameDrawn n (changed_at (below 6 one) names list (below (length list) (rest one)) (rest (rest one))) (changed_at k names list (below (length list) (rest other)) (rest (rest other)))) m there in
    of_choices R (below 6 one == 1) (below 6 other == 1) _ _ _ _ (ap (λ (k : ℕ). k == 1) m) (same-lengthened list n (rest one) (rest other) after)
    (of_choices R (length list == 0) (length list == 0) _ _ _ _ refl
    (none n list (rest one) (rest other) (same_fewer (suc (suc (suc (suc (suc n))))) (suc (suc (suc (suc n)))) (rest one) (rest other) (omega arith) after)) here)

same-changes : (count : ℕ) (names : List ℕ) (list : List Instr) (one other : Stream) → SameWords (6 * count) one other
    → (changes count names list one).0 ≡ (changes count names list other).0
same-changes zero names list one other s = refl
same-changes (suc count) names list one other s =
    let six = same_fewer (6 * suc count) (suc (suc (suc (suc (suc (suc (6 * count))))))) one other (omega arith) s in
    let first = same-changed names list (6 * count) one other six in
    let p = changed names list one in
    let q = changed names list other in
    same-changes count names p.0 p.1 q.1 first.words ∙ ap (λ (is : List Instr). (changes count names is q.1).0) first.value

pub same-mutated : (names : List ℕ) (list : List Instr) (one other : Stream) → SameWords 19 one other
    → (mutated names list one).0 ≡ (mutated names list other).0
same-mutated names list one other s =
    let count = same_first 18 one other s 3 in
    let after = same_rest 18 one other s in
    let few : 6 * suc (below 3 one) ≤ 18 = omega arith in
    same-changes (suc (below 3 one)) names list (rest one) (rest other) (same_fewer 18 (6 * suc (below 3 one)) (rest one) (rest other) few after)
    ∙ ap (λ (k : ℕ). (changes (suc k) names list (rest other)).0) count
