-- Terms that are a times values, and b.
use Rattle.std.specs.Prelude.{◌≡◌, ◌≢◌, ◌/◌, ℤ, pos, ◌+ℤ◌, ◌-ℤ◌, ◌*ℤ◌, unsigned_abs, int_lt, List, [], ◌∷◌, map, Option, Some, None, Bool, true, false, ◌&&◌, not, if◌then◌else◌}
use Rattle.std.specs.Ordering.{int_eq}
use Rattle.checked_numbers.specs.Numbers.{IsNumber, is_number}
use Rattle.checked_numbers.specs.Ops.{signed}

-- all are equal to the number
abbrev pub AllAre : ℤ → List ℤ → Type 0
AllAre x [] = Unit {0}
AllAre x (y ∷ ys) = (y ≡ x) × AllAre x ys

-- all are equal
abbrev pub IsConstant : List ℤ → Type 0
IsConstant [] = Unit {0}
IsConstant (x ∷ xs) = AllAre x xs

-- Each term is a times the value and b, for numbers a and b that don't leave the values as they are, and the values are not all equal.
pub record IsLine (values terms : List ℤ) (a b : ℤ) : Type 0 where
  pub a_is : IsNumber a
  pub b_is : IsNumber b
  pub a_not : a ≢ pos 0
  pub changes : ¬ ((a ≡ pos 1) × (b ≡ pos 0))
  pub varied : ¬ IsConstant values
  pub terms_are : terms ≡ map (λ x. a *ℤ x +ℤ b) values

-- ---- how a and b are found

-- whether the terms fall where the values rise, or the other way round
abbrev pub is_falling : ℤ → ℤ → ℤ → ℤ → Bool
is_falling c0 c t0 t = if int_lt t t0 then not (int_lt c c0) else int_lt c c0

-- how much the terms rise where the values rise by one, if they do so evenly from c0 to c
abbrev pub slope : ℤ → ℤ → ℤ → ℤ → ℤ
slope c0 c t0 t = signed (is_falling c0 c t0 t) (unsigned_abs (t -ℤ t0) / unsigned_abs (c -ℤ c0))

-- the slope from one place to another, and the term at the value 0
abbrev pub pair_at : ℤ → ℤ → ℤ → ℤ → ℤ × ℤ
pair_at c0 c t0 t = (slope c0 c t0 t, t0 -ℤ slope c0 c t0 t *ℤ c0)

-- the pair from the first value to the next other one; none where there is no other value
abbrev pub line_through : ℤ → ℤ → List ℤ → List ℤ → Option (ℤ × ℤ)
line_through c0 t0 [] ts = None
line_through c0 t0 (c ∷ cs) [] = None
line_through c0 t0 (c ∷ cs) (t ∷ ts) = if int_eq c c0 then line_through c0 t0 cs ts else Some (pair_at c0 c t0 t)

-- the pair from the first value and term on
abbrev pub line_at : List ℤ → List ℤ → Option (ℤ × ℤ)
line_at [] ts = None
line_at (c ∷ cs) [] = None
line_at (c ∷ cs) (t ∷ ts) = line_through c t cs ts

-- there is none, or one of its numbers is out of range
abbrev pub IsNoPair : Option (ℤ × ℤ) → Type 0
IsNoPair None = Unit {0}
IsNoPair (Some l) = ¬ (IsNumber l.0 × IsNumber l.1)

-- each term is a times the value and b
abbrev pub is_on_line : ℤ → ℤ → List ℤ → List ℤ → Bool
is_on_line a b [] [] = true
is_on_line a b [] (t ∷ ts) = false
is_on_line a b (c ∷ cs) [] = false
is_on_line a b (c ∷ cs) (t ∷ ts) = int_eq t (a *ℤ c +ℤ b) && is_on_line a b cs ts

-- both are numbers, and they don't leave each value as it is
abbrev pub is_pair : ℤ → ℤ → Bool
is_pair a b = is_number a && is_number b && not (int_eq a (pos 0)) && not (int_eq a (pos 1) && int_eq b (pos 0))

-- the pair, where it is one and each term is on its line
abbrev pub checked_line : List ℤ → List ℤ → Option (ℤ × ℤ) → Option (ℤ × ℤ)
checked_line values terms None = None
checked_line values terms (Some l) = if is_pair l.0 l.1 && is_on_line l.0 l.1 values terms then Some l else None

-- the numbers a and b of the terms, where there are any
abbrev pub line_of : List ℤ → List ℤ → Option (ℤ × ℤ)
line_of values terms = checked_line values terms (line_at values terms)

-- The function finds the one pair that there may be.
abbrev pub LinesAreFound : Type 0
LinesAreFound = (values terms : List ℤ) (a b : ℤ) → (line_of values terms ≡ Some (a, b) → IsLine values terms a b) × (IsLine values terms a b → line_of values terms ≡ Some (a, b))
