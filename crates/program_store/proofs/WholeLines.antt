-- Cutting bytes into lines, as a loop does.
use Rattle.std.proofs.Common.{◌≡◌, ℕ, ◌+◌, ◌<◌, ◌≤◌, true, false, eqb, List, [], ◌∷◌, ◌++◌, length, take, drop, get_or, refl, sym, ap, ◌∙◌, arith}
use Rattle.std.proofs.lemmas.List.{take_more, drop_more, drop_all, take_all}
use Rattle.program_store.specs.Sections.{line_with_byte, whole_lines}

-- these bytes before the first of the lines
abbrev pub glued : List ℕ → List (List ℕ) → List (List ℕ)
glued [] lines = lines
glued (b ∷ bs) lines = line_with_byte b (glued bs lines)

pub glued-append : (xs ys : List ℕ) (lines : List (List ℕ)) → glued (xs ++ ys) lines ≡ glued xs (glued ys lines)
glued-append [] ys lines = refl
glued-append (x ∷ xs) ys lines = ap (line_with_byte x) (glued-append xs ys lines)

pub glued-cons : (xs : List ℕ) (line : List ℕ) (lines : List (List ℕ)) → glued xs (line ∷ lines) ≡ (xs ++ line) ∷ lines
glued-cons [] line lines = refl
glued-cons (x ∷ xs) line lines = ap (line_with_byte x) (glued-cons xs line lines)

pub glued-none : (xs : List ℕ) → 0 < length xs → glued xs [] ≡ xs ∷ []
glued-none [] some = absurd (omega arith)
glued-none (x ∷ []) some = refl
glued-none (x ∷ y ∷ ys) some = ap (line_with_byte x) (glued-none (y ∷ ys) (omega arith))

pub goes_on : (bytes : List ℕ) (at : ℕ) → at < length bytes → eqb (get_or bytes at 0) 10 ≡ false → whole_lines bytes ≡ glued (take at bytes) (whole_lines (drop at bytes))
    → whole_lines bytes ≡ glued (take (at + 1) bytes) (whole_lines (drop (at + 1) bytes))
unfolding whole_lines
goes_on bytes at lt differs so_far =
    let b = get_or bytes at 0 in
    let one : whole_lines (drop at bytes) ≡ line_with_byte b (whole_lines (drop (at + 1) bytes)) = rw (drop_more bytes at 0 lt, differs) refl in
    so_far ∙ ap (glued (take at bytes)) one ∙ sym (ap (λ (t : List ℕ). glued t (whole_lines (drop (at + 1) bytes))) (take_more bytes at 0 lt) ∙ glued-append (take at bytes) (b ∷ []) _)

pub stops : (bytes : List ℕ) (at : ℕ) → at < length bytes → eqb (get_or bytes at 0) 10 ≡ true → whole_lines bytes ≡ glued (take at bytes) (whole_lines (drop at bytes))
    → whole_lines bytes ≡ take (at + 1) bytes ∷ whole_lines (drop (at + 1) bytes)
unfolding whole_lines
stops bytes at lt same so_far =
    let b = get_or bytes at 0 in
    let one : whole_lines (drop at bytes) ≡ (b ∷ []) ∷ whole_lines (drop (at + 1) bytes) = rw (drop_more bytes at 0 lt, same) refl in
    so_far ∙ ap (glued (take at bytes)) one ∙ glued-cons (take at bytes) (b ∷ []) _ ∙ sym (ap (λ (t : List ℕ). t ∷ whole_lines (drop (at + 1) bytes)) (take_more bytes at 0 lt))

pub ends : (bytes : List ℕ) (at : ℕ) → 0 < length bytes → length bytes ≤ at → whole_lines bytes ≡ glued (take at bytes) (whole_lines (drop at bytes))
    → whole_lines bytes ≡ take (length bytes) bytes ∷ whole_lines (drop (length bytes) bytes)
unfolding whole_lines
ends bytes at some le so_far = rw (take_all (length bytes) bytes (omega arith), drop_all (length bytes) bytes (omega arith)) (let none : drop at bytes ≡ [] = drop_all at bytes le in let all : take at bytes ≡ bytes = take_all at bytes le in so_far ∙ ap (λ (t : List ℕ). glued (take at bytes) (whole_lines t)) none ∙ ap (λ (t : List ℕ). glued t []) all ∙ glued-none bytes some)
