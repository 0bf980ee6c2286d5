-- Two keys of terms: one is the same for all rows that follow from one another by a factor and a shift, the other for rows of equal sizes. Only clauses of private functions use what stands here.
use Rattle.std.specs.Prelude.{ℕ, ◌+◌, ◌*◌, ◌/◌, ◌%◌, ◌^◌, ◌==◌, ℤ, ◌-ℤ◌, unsigned_abs, List, [], ◌∷◌, if◌then◌else◌}

-- how far each is from the first
abbrev pub gaps_from : ℤ → List ℤ → List ℕ
gaps_from x [] = []
gaps_from x (y ∷ ys) = unsigned_abs (y -ℤ x) ∷ gaps_from x ys

-- the first that isn't 0, or 0
abbrev pub first_gap : List ℕ → ℕ
first_gap [] = 0
first_gap (g ∷ gs) = if g == 0 then first_gap gs else g

-- a key and one more number, as a key of 64 bits
abbrev pub mixed : ℕ → ℕ → ℕ
mixed key q = (key * 11400714819323198485 % 2 ^ 64 + q % 2 ^ 64) % 2 ^ 64

-- One of Euclid's steps from two numbers, with its quotient mixed into the key; none where the second is 0.
abbrev pub euclid_step : ℕ → ℕ → ℕ → ℕ × ℕ × ℕ
euclid_step key a b = if b == 0 then (key, a, b) else (mixed key (a / b), b, a % b)

-- up to three of Euclid's quotients, mixed into a key: it is that of all numbers in about this ratio
unfoldable pub ratio_key : ℕ → ℕ → ℕ → ℕ
ratio_key key a b =
    let s = euclid_step key a b in
    let t = euclid_step s.0 s.1 s.2 in
    (euclid_step t.0 t.1 t.2).0

-- the ratios of the numbers to the unit, mixed into a key
abbrev pub key_by : ℕ → ℕ → List ℕ → ℕ
key_by unit key [] = key
key_by unit key (g ∷ gs) = key_by unit (ratio_key key g unit) gs

-- the key of distances, which is that of their multiples too
abbrev pub key_of_gaps : List ℕ → ℕ
key_of_gaps gs = key_by (first_gap gs) 0 gs

-- the key of terms, which is that of a times the terms, and b
abbrev pub line_key : List ℤ → ℕ
line_key [] = 0
line_key (x ∷ xs) = key_of_gaps (gaps_from x xs)

-- the sizes of numbers, mixed into a key
abbrev pub mixed_sizes : ℕ → List ℤ → ℕ
mixed_sizes key [] = key
mixed_sizes key (x ∷ xs) = mixed_sizes (mixed key (unsigned_abs x)) xs

-- the key of the terms themselves
abbrev pub terms_key : List ℤ → ℕ
terms_key xs = mixed_sizes 0 xs
