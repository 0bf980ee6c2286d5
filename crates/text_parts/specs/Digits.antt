-- Decimal numbers.
use Rattle.std.specs.Prelude.{ℕ, ◌+◌, ◌-◌, ◌*◌, ◌==◌, min, List, [], ◌∷◌, if◌then◌else◌, Option, Some, None}
use Rattle.std.specs.Char.{is_ascii_digit}
use Rattle.std.specs.Option.{option_map}

-- the number that digits spell after n, or nothing where another byte stands there
abbrev pub digits_after : ℕ → List ℕ → Option ℕ
digits_after n [] = Some n
digits_after n (b ∷ bs) = if is_ascii_digit b then digits_after (10 * n + (b - 48)) bs else None

-- the number that digits spell, of which there is at least one
abbrev pub number_spelled : List ℕ → Option ℕ
number_spelled [] = None
number_spelled (b ∷ bs) = digits_after 0 (b ∷ bs)

-- a decimal number without a sign or a leading 0
abbrev pub decimal_spelled : List ℕ → Option ℕ
decimal_spelled [] = None
decimal_spelled (b ∷ []) = number_spelled (b ∷ [])
decimal_spelled (b ∷ c ∷ bs) = if b == 48 then None else number_spelled (b ∷ c ∷ bs)

-- a number up to a limit, past which it does not matter by how much
abbrev pub up_to : ℕ → Option ℕ → Option ℕ
up_to most number = option_map (λ n. min n most) number
