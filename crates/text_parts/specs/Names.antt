-- A-numbers, as they are written and read.
use Rattle.std.specs.Prelude.{ℕ, zero, suc, ◌/◌, ◌%◌, ◌+◌, ◌≤◌, ◌≡◌, List, [], ◌∷◌, ◌++◌, length, ◌==◌, ◌&&◌, if◌then◌else◌, Option, Some, None}
use Rattle.std.specs.Option.{option_and_then}
use Rattle.text_parts.specs.Digits.{number_spelled}
use Rattle.text_parts.specs.declared.names.TheConstants.{GREATEST_NAME}

-- a name: a number from 1 to 999,999
abbrev pub IsName : ℕ → Type 0
IsName q = (1 ≤ q) × (q ≤ GREATEST_NAME)

-- the last so many digits of a number, with leading zeros
abbrev pub last_digits : ℕ → ℕ → List ℕ
last_digits zero n = []
last_digits (suc count) n = last_digits count (n / 10) ++ (48 + n % 10) ∷ []

-- a name: `A` and six digits
unfoldable pub name_text : ℕ → List ℕ
name_text q = 65 ∷ last_digits 6 q

-- a number, where it isn't 0
abbrev pub if_not_zero : ℕ → Option ℕ
if_not_zero n = if n == 0 then None else Some n

-- a name: `A` and six digits that aren't all 0
unfoldable pub name_read : List ℕ → Option ℕ
name_read [] = None
name_read (b ∷ bs) = if b == 65 && length bs == 6 then option_and_then if_not_zero (number_spelled bs) else None

-- the text of a name is read as that name
abbrev pub NameTextReadsBack : Type 0
NameTextReadsBack = (q : ℕ) → IsName q → name_read (name_text q) ≡ Some q
