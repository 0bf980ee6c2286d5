-- A change that leaves each beginning and each end of a loop in its place keeps loops balanced.
use Rattle.std.proofs.Common.{◌≡◌, ℕ, zero, suc, false, List, [], ◌∷◌, slice_index_or, slice_set}
use Rattle.std.specs.List.{insert, remove}
use Rattle.loda_syntax.specs.declared.instr.Instr.{Instr}
use Rattle.loda_syntax.specs.declared.instr.Instr.TheVariants.{Arith, Clear, LoopStart, LoopEnd, Call}
use Rattle.loda_syntax.specs.WellFormed.{IsBalanced}
use Rattle.mutator.specs.Mutating.{is_bracket}

-- where the second list is balanced wherever the first one is, so it is behind any instruction
under : (x : Instr) (depth : ℕ) (xs ys : List Instr) → ((d : ℕ) → IsBalanced d xs → IsBalanced d ys)
    → IsBalanced depth (x ∷ xs) → IsBalanced depth (x ∷ ys)
under (Arith v t s) depth xs ys keeps h = keeps depth h
under (Clear c n) depth xs ys keeps h = keeps depth h
under (LoopStart c n) depth xs ys keeps h = keeps (suc depth) h
under LoopEnd zero xs ys keeps h = h
under LoopEnd (suc depth) xs ys keeps h = keeps depth h
under (Call t q) depth xs ys keeps h = keeps depth h

balanced_put : (x : Instr) (depth : ℕ) (xs : List Instr) → is_bracket x ≡ false → IsBalanced depth xs → IsBalanced depth (x ∷ xs)
balanced_put (Arith v t s) depth xs plain h = h
balanced_put (Clear c n) depth xs plain h = h
balanced_put (LoopStart c n) depth xs plain h = let no : ⊥ = cc in absurd no
balanced_put LoopEnd depth xs plain h = let no : ⊥ = cc in absurd no
balanced_put (Call t q) depth xs plain h = h

balanced_drop : (x : Instr) (depth : ℕ) (xs : List Instr) → is_bracket x ≡ false → IsBalanced depth (x ∷ xs) → IsBalanced depth xs
balanced_drop (Arith v t s) depth xs plain h = h
balanced_drop (Clear c n) depth xs plain h = h
balanced_drop (LoopStart c n) depth xs plain h = let no : ⊥ = cc in absurd no
balanced_drop LoopEnd depth xs plain h = let no : ⊥ = cc in absurd no
balanced_drop (Call t q) depth xs plain h = h

-- an instruction that may stand where another one stands
abbrev pub StandsFor : Instr → Instr → Type 0
StandsFor old new = (depth : ℕ) (after : List Instr) → IsBalanced depth (old ∷ after) → IsBalanced depth (new ∷ after)

pub balanced_set : (list : List Instr) (place : ℕ) (new : Instr) (depth : ℕ) → StandsFor (slice_index_or list place LoopEnd) new
    → IsBalanced depth list → IsBalanced depth (slice_set list place new)
balanced_set [] place new depth stands h = h
balanced_set (x ∷ xs) zero new depth stands h = stands depth xs h
balanced_set (x ∷ xs) (suc place) new depth stands h = under x depth xs _ (λ d b. balanced_set xs place new d stands b) h

pub balanced_insert : (list : List Instr) (place : ℕ) (new : Instr) (depth : ℕ) → is_bracket new ≡ false
    → IsBalanced depth list → IsBalanced depth (insert list place new)
balanced_insert list zero new depth plain h = balanced_put new depth list plain h
balanced_insert [] (suc place) new depth plain h = balanced_put new depth [] plain h
balanced_insert (x ∷ xs) (suc place) new depth plain h = under x depth xs _ (λ d b. balanced_insert xs place new d plain b) h

pub balanced_remove : (list : List Instr) (place depth : ℕ) → is_bracket (slice_index_or list place LoopEnd) ≡ false
    → IsBalanced depth list → IsBalanced depth (remove list place)
balanced_remove [] place depth plain h = let no : ⊥ = cc in absurd no
balanced_remove (x ∷ xs) zero depth plain h = balanced_drop x depth xs plain h
balanced_remove (x ∷ xs) (suc place) depth plain h = under x depth xs _ (λ d b. balanced_remove xs place d plain b) h
