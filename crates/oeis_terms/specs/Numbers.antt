-- Decimal integers.
use Rattle.std.specs.Prelude.{ℕ, ◌+◌, ◌-◌, ◌*◌, ◌^◌, ◌==◌, List, [], ◌∷◌, if◌then◌else◌, Bool, true, false, ℤ, pos, neg_ℤ, Option, Some, None}
use Rattle.std.specs.Option.{option_map}
use Rattle.text_parts.specs.Digits.{number_spelled}
use Rattle.checked_numbers.specs.Numbers.{is_number}

-- the integer of this sign and size
abbrev pub integer : Bool → ℕ → ℤ
integer true n = neg_ℤ (pos n)
integer false n = pos n

-- an optional `-` and at least one digit
abbrev pub integer_of : List ℕ → Option ℤ
integer_of [] = None
integer_of (c ∷ cs) = if c == 45 then option_map (integer true) (number_spelled cs) else option_map (integer false) (number_spelled (c ∷ cs))

-- the first absolute value past the number range
abbrev pub wide : ℕ
wide = 2 ^ 127

-- the integer, where it is within the number range
abbrev pub as_number : ℤ → Option ℤ
as_number z = if is_number z then Some z else None
