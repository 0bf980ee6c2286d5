-- What each operation gives. The value is computed over all integers, and only then compared with the number range.
use Rattle.std.specs.Prelude.{ℕ, zero, suc, ◌+◌, ◌%◌, ◌==◌, ◌&&◌, ℤ, pos, negsuc, ◌+ℤ◌, ◌-ℤ◌, ◌*ℤ◌, neg_ℤ, unsigned_abs, int_le, int_div, int_rem, if◌then◌else◌, Bool, not}
use Rattle.std.specs.declared.option.Option.{Option}
use Rattle.std.specs.declared.option.Option.TheVariants.{Some, None}
use Rattle.std.specs.declared.result.Result.{Result}
use Rattle.std.specs.declared.result.Result.TheVariants.{Ok, Err}
use Rattle.std.specs.Int.{int_max, int_min, int_pow}
use Rattle.checked_numbers.specs.declared.ops.Op.{Op}
use Rattle.checked_numbers.specs.declared.ops.Op.TheVariants.{Mov, Add, Sub, Trn, Mul, Div, Dif, Mod, Pow, Gcd, Bin, Equ, Neq, Leq, Geq, Min, Max}
use Rattle.checked_numbers.specs.declared.ops.NumFault.{NumFault}
use Rattle.checked_numbers.specs.declared.ops.NumFault.TheVariants.{Overflow, DivideByZero}
use Rattle.checked_numbers.specs.Numbers.{is_number}

-- the value where it is a number
abbrev pub in_range : ℤ → Result ℤ NumFault
in_range z = if is_number z then Ok z else Err Overflow

-- whether the integer is 0
abbrev pub is_zero : ℤ → Bool
is_zero z = unsigned_abs z == 0

-- whether two integers are equal
abbrev pub int_eq : ℤ → ℤ → Bool
int_eq a b = is_zero (a -ℤ b)

-- 1 where the test holds, and else 0
abbrev pub of_test : Bool → ℤ
of_test b = if b then pos 1 else pos 0

-- whether d, which is not 0, divides n
abbrev pub divides : ℕ → ℕ → Bool
divides d n = n % d == 0

-- the greatest number up to limit that divides both a and b, or 0 where there is none
unfoldable pub greatest_divisor_up_to : ℕ → ℕ → ℕ → ℕ
greatest_divisor_up_to zero a b = 0
greatest_divisor_up_to (suc limit) a b =
    if divides (suc limit) a && divides (suc limit) b then suc limit else greatest_divisor_up_to limit a b

-- the greatest common divisor, since no divisor of both is above a + b, where that is not 0; 0 of 0 and 0
unfoldable pub gcd : ℕ → ℕ → ℕ
gcd a b = greatest_divisor_up_to (a + b) a b

-- the ways to choose k of n, by Pascal's rule
unfoldable pub choose : ℕ → ℕ → ℕ
choose n zero = 1
choose zero (suc k) = 0
choose (suc n) (suc k) = choose n k + choose n (suc k)

-- 1 for an even number, and -1 for an odd one
abbrev pub sign : ℕ → ℤ
sign n = if n % 2 == 0 then pos 1 else negsuc 0

-- the integer of this sign and size
abbrev pub signed : Bool → ℕ → ℤ
signed negative n = if negative then neg_ℤ (pos n) else pos n

-- the ways to choose b of a: none for b < 0, and (-1)^b times those of b - a - 1 for a < 0 <= b
abbrev pub binomial : ℤ → ℤ → ℤ
binomial a (negsuc k) = pos 0
binomial (pos n) (pos k) = pos (choose n k)
binomial (negsuc n) (pos k) = sign k *ℤ pos (choose (n + k) k)

-- a to the power b; none where a is 0 and b is negative
abbrev pub power : ℤ → ℤ → Option ℤ
power a (pos n) = Some (int_pow a n)
power a (negsuc n) =
    if is_zero a then None
    else if int_eq a (pos 1) then Some (pos 1)
    else if int_eq a (negsuc 0) then Some (sign (suc n))
    else Some (pos 0)

-- what the operation computes over the integers; none is a division by zero
abbrev pub op_value : Op → ℤ → ℤ → Option ℤ
op_value Mov a b = Some b
op_value Add a b = Some (a +ℤ b)
op_value Sub a b = Some (a -ℤ b)
op_value Trn a b = Some (int_max (a -ℤ b) (pos 0))
op_value Mul a b = Some (a *ℤ b)
op_value Div a b = if is_zero b then None else Some (int_div a b)
op_value Dif a b = if is_zero b then Some a else if is_zero (int_rem a b) then Some (int_div a b) else Some a
op_value Mod a b = if is_zero b then None else Some (a -ℤ b *ℤ int_div a b)
op_value Pow a b = power a b
op_value Gcd a b = Some (pos (gcd (unsigned_abs a) (unsigned_abs b)))
op_value Bin a b = Some (binomial a b)
op_value Equ a b = Some (of_test (int_eq a b))
op_value Neq a b = Some (of_test (not (int_eq a b)))
op_value Leq a b = Some (of_test (int_le a b))
op_value Geq a b = Some (of_test (int_le b a))
op_value Min a b = Some (int_min a b)
op_value Max a b = Some (int_max a b)

-- a division by zero where there is no value, and else the value where it is a number
abbrev pub ranged : Option ℤ → Result ℤ NumFault
ranged None = Err DivideByZero
ranged (Some z) = in_range z

-- what the operation answers
abbrev pub op_answer : Op → ℤ → ℤ → Result ℤ NumFault
op_answer op a b = ranged (op_value op a b)
