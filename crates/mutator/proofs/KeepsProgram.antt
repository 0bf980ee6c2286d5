-- What is made of a program is a program.
use Rattle.std.proofs.Common.{◌≡◌, ℕ, zero, suc, ℤ, pos, ◌+ℤ◌, ◌-ℤ◌, unsigned_abs, ◌+◌, ◌^◌, ◌≤◌, ◌<◌, ◌==◌, nat_lt, Bool, true, false, if◌then◌else◌, List, [], ◌∷◌, length, slice_index_or, slice_set, refl, arith}
use Rattle.std.specs.List.{insert, remove}
use Rattle.std.proofs.Math.ListN.{length-set}
use Rattle.std.proofs.lemmas.List.Edits.{length-insert}
use Rattle.std.proofs.lemmas.List.Elements.{All-append, All-take, All-drop, All-cons, All-set, All-get_or}
use Rattle.rand_core.specs.Stream.{Stream}
use Rattle.word_stream.specs.Words.{below, rest}
use Rattle.loda_syntax.specs.declared.instr.Operand.TheVariants.{Constant, Direct, Indirect}
use Rattle.loda_syntax.specs.declared.instr.Instr.{Instr}
use Rattle.loda_syntax.specs.declared.instr.Instr.TheVariants.{Arith, Clear, LoopStart, LoopEnd, Call}
use Rattle.loda_syntax.specs.WellFormed.{IsInstr, IsProgram}
use Rattle.text_parts.specs.Names.{IsName}
use Rattle.generator.specs.Names.{AreNames}
use Rattle.generator.specs.Arithmetic.{verb_at}
use Rattle.generator.proofs.Choices.{of_either}
use Rattle.generator.proofs.MadeWell.{IsInstr-drawn_arithmetic}
use Rattle.mutator.specs.Mutating.{drawn_instr, moved, redrawn, nudged, retargeted, renamed, changed_instr, changed_at, changed, changes, mutated, is_bracket}
use Rattle.mutator.proofs.Balance.{StandsFor, balanced_set, balanced_insert, balanced_remove}
use Rattle.loda_syntax.specs.declared.instr.TheConstants.{MOST_INSTRS}

-- an instruction that may be put in another one's place
record MayReplace (old new : Instr) : Type 0 where
  in_range : IsInstr old → IsInstr new
  stands : StandsFor old new

same : (instr : Instr) → MayReplace instr instr
same instr = record { in_range = λ h. h; stands = λ depth after h. h }

guarded : (next value : ℤ) (fits : Bool) → nat_lt (unsigned_abs next) (2 ^ 127) ≡ fits → unsigned_abs value < 2 ^ 127
    → unsigned_abs (if fits then next else value) < 2 ^ 127
guarded next value true fits h = grind arith
guarded next value false fits h = h

small-moved : (e : ℕ) (value : ℤ) → unsigned_abs value < 2 ^ 127 → unsigned_abs (moved e value) < 2 ^ 127
small-moved e value h = guarded (if e == 1 then value +ℤ pos 1 else value -ℤ pos 1) value _ refl h

replaces-redrawn : (instr : Instr) (words : Stream) → MayReplace instr (redrawn instr words).0
replaces-redrawn (Arith v t s) words = record {
  in_range = λ h. IsInstr-drawn_arithmetic (verb_at (below 12 words)) (rest words);
  stands = λ depth after h. h;
}
replaces-redrawn (Clear c n) words = same (Clear c n)
replaces-redrawn (LoopStart c n) words = same (LoopStart c n)
replaces-redrawn LoopEnd words = same LoopEnd
replaces-redrawn (Call t q) words = same (Call t q)

replaces-nudged : (instr : Instr) (words : Stream) → MayReplace instr (nudged instr words).0
replaces-nudged (Arith v t (Constant value)) words = record {
  in_range = λ h. (h.0, small-moved (below 2 words) value h.1);
  stands = λ depth after h. h;
}
replaces-nudged (Arith v t (Direct c)) words = same (Arith v t (Direct c))
replaces-nudged (Arith v t (Indirect c)) words = same (Arith v t (Indirect c))
replaces-nudged (Clear c n) words = same (Clear c n)
replaces-nudged (LoopStart c n) words = same (LoopStart c n)
replaces-nudged LoopEnd words = same LoopEnd
replaces-nudged (Call t q) words = same (Call t q)

replaces-retargeted : (instr : Instr) (words : Stream) → MayReplace instr (retargeted instr words).0
replaces-retargeted (Arith v t s) words = record {
  in_range = λ h. (omega arith, h.1);
  stands = λ depth after h. h;
}
replaces-retargeted (Clear c n) words = same (Clear c n)
replaces-retargeted (LoopStart c n) words = same (LoopStart c n)
replaces-retargeted LoopEnd words = same LoopEnd
replaces-retargeted (Call t q) words = same (Call t q)

replaces-renamed : (names : List ℕ) (instr : Instr) (words : Stream) → AreNames names → MayReplace instr (renamed names instr words).0
replaces-renamed [] (Arith v t s) words are = same (Arith v t s)
replaces-renamed [] (Clear c n) words are = same (Clear c n)
replaces-renamed [] (LoopStart c n) words are = same (LoopStart c n)
replaces-renamed [] LoopEnd words are = same LoopEnd
replaces-renamed [] (Call t q) words are = same (Call t q)
replaces-renamed (n ∷ ns) (Arith v t s) words are = same (Arith v t s)
replaces-renamed (n ∷ ns) (Clear c k) words are = same (Clear c k)
replaces-renamed (n ∷ ns) (LoopStart c k) words are = same (LoopStart c k)
replaces-renamed (n ∷ ns) LoopEnd words are = same LoopEnd
replaces-renamed (n ∷ ns) (Call t q) words are =
    let there : below (length (n ∷ ns)) words < length (n ∷ ns) = omega arith in
    let name = All-get_or IsName (n ∷ ns) (below (length (n ∷ ns)) words) 0 there are.each in
    record { in_range = λ h. (h.0, name.0, name.1); stands = λ depth after h. h }

replaces-changed_instr : (m : ℕ) (names : List ℕ) (instr : Instr) (words : Stream) → AreNames names
    → MayReplace instr (changed_instr m names instr words).0
replaces-changed_instr m names instr words are =
    let P : Instr × Stream → Type 0 = λ made. MayReplace instr made.0 in
    of_either P (m == 0) _ _ (replaces-redrawn instr words)
    (of_either P (m == 3) _ _ (replaces-nudged instr words)
    (of_either P (m == 4) _ _ (replaces-retargeted instr words) (replaces-renamed names instr words are)))

length-remove_le : (list : List Instr) (place : ℕ) → length (remove list place) ≤ length list
length-remove_le [] zero = omega arith
length-remove_le [] (suc place) = omega arith
length-remove_le (x ∷ xs) zero = omega arith
length-remove_le (x ∷ xs) (suc place) = omega (arith, length-remove_le xs place)

program-set : (list : List Instr) (place : ℕ) (new : Instr) → place < length list → MayReplace (slice_index_or list place LoopEnd) new
    → IsProgram list → IsProgram (slice_set list place new)
program-set list place new there may is = record {
  short = omega (arith, length-set {A = Instr}, is.short);
  each = All-set IsInstr list place new (may.in_range (All-get_or IsInstr list place LoopEnd there is.each)) is.each;
  balanced = balanced_set list place new 0 may.stands is.balanced;
}

program-remove : (list : List Instr) (place : ℕ) (bracket : Bool) → is_bracket (slice_index_or list place LoopEnd) ≡ bracket
    → IsProgram list → IsProgram (if bracket then list else remove list place)
program-remove list place true test is = is
program-remove list place false test is = record {
  short = omega (arith, length-remove_le list place, is.short);
  each = All-append IsInstr _ _ (All-take IsInstr place list is.each) (All-drop IsInstr (suc place) list is.each);
  balanced = balanced_remove list place 0 test is.balanced;
}

program-insert : (list : List Instr) (place : ℕ) (new : Instr) → place ≤ length list → length list < MOST_INSTRS → IsInstr new
    → is_bracket new ≡ false → IsProgram list → IsProgram (insert list place new)
program-insert list place new there room in_range plain is = record {
  short = omega (arith, length-insert list place new there, room);
  each = All-append IsInstr _ _ (All-take IsInstr place list is.each) (All-cons IsInstr new _ in_range (All-drop IsInstr place list is.each));
  balanced = balanced_insert list place new 0 plain is.balanced;
}

program-changed_at : (m : ℕ) (names : List ℕ) (list : List Instr) (place : ℕ) (words : Stream) → place < length list
    → AreNames names → IsProgram list → IsProgram (changed_at m names list place words).0
program-changed_at m names list place words there are is =
    of_either (λ (made : List Instr × Stream). IsProgram made.0) (m == 2) _ _
    (program-remove list place _ refl is)
    (program-set list place _ there (replaces-changed_instr m names (slice_index_or list place LoopEnd) words are) is)

longer : List Instr → Stream → List Instr × Stream
longer list words =
    let new = drawn_instr (rest words) in
    (insert list (below (length list + 1) words) new.0, new.1)

-- `lengthened`, by its test
lengthened_by : Bool → List Instr → Stream → List Instr × Stream
lengthened_by full list words = if full then (list, words) else longer list words

program-lengthened : (list : List Instr) (words : Stream) (full : Bool) → (length list == MOST_INSTRS) ≡ full → IsProgram list
    → IsProgram (lengthened_by full list words).0
unfolding longer lengthened_by
program-lengthened list words true test is = is
program-lengthened list words false test is =
    let short = is.short in
    let room : length list < MOST_INSTRS = grind arith in
    let there : below (length list + 1) words ≤ length list = omega arith in
    program-insert list _ _ there room (IsInstr-drawn_arithmetic (verb_at (below 12 (rest words))) (rest (rest words))) refl is

-- a change of another kind, by the test whether the list is empty
changed_by : ℕ → List ℕ → List Instr → Stream → Bool → List Instr × Stream
changed_by m names list words empty = if empty then (list, words) else changed_at m names list (below (length list) words) (rest words)

program-changed_by : (m : ℕ) (names : List ℕ) (list : List Instr) (words : Stream) (empty : Bool) → (length list == 0) ≡ empty
    → AreNames names → IsProgram list → IsProgram (changed_by m names list words empty).0
unfolding changed_by
program-changed_by m names list words true test are is = is
program-changed_by m names list words false test are is =
    let some : 0 < length list = grind arith in
    let there : below (length list) words < length list = omega arith in
    program-changed_at m names list _ (rest words) there are is

program-changed : (names : List ℕ) (list : List Instr) (words : Stream) → AreNames names → IsProgram list
    → IsProgram (changed names list words).0
unfolding longer lengthened_by changed_by
program-changed names list words are is =
    of_either (λ (made : List Instr × Stream). IsProgram made.0) (below 6 words == 1) _ _
    (program-lengthened list (rest words) _ refl is)
    (program-changed_by (below 6 words) names list (rest words) _ refl are is)

program-changes : (count : ℕ) (names : List ℕ) (list : List Instr) (words : Stream) → AreNames names → IsProgram list
    → IsProgram (changes count names list words).0
program-changes zero names list words are is = is
program-changes (suc count) names list words are is =
    let first = changed names list words in
    program-changes count names first.0 first.1 are (program-changed names list words are is)

pub IsProgram-mutated : (names : List ℕ) (list : List Instr) (words : Stream) → AreNames names → IsProgram list
    → IsProgram (mutated names list words).0
IsProgram-mutated names list words are is = program-changes (suc (below 3 words)) names list (rest words) are is
