-- Digits from the front, with a number that stops at a limit; and how large a number of so many digits is.
use Rattle.std.proofs.Common.{◌^◌, ◌≤◌, ◌≡◌, ℕ, ◌+◌, ◌-◌, ◌*◌, ◌<◌, min, Bool, true, false, cond, List, [], ◌∷◌, length, drop, get_or, refl, sym, ap, ◌∙◌, arith}
use Rattle.std.specs.Prelude.{Option, Some, None}
use Rattle.std.proofs.Math.Nat.{mul-le-mul_right, pow-succ'}
use Rattle.std.specs.Char.{is_ascii_digit}
use Rattle.std.proofs.lemmas.List.{drop_more}
use Rattle.text_parts.specs.Digits.{digits_after, number_spelled, up_to}

same_step : (most : ℕ) (b : Bool) (x y : Option ℕ) → up_to most x ≡ up_to most y → up_to most (cond b x None) ≡ up_to most (cond b y None)
same_step most true x y e = e
same_step most false x y e = refl

-- past the limit it does not matter by how much
pub same_up_to : (most : ℕ) (ds : List ℕ) (m n : ℕ) → min m most ≡ min n most → up_to most (digits_after m ds) ≡ up_to most (digits_after n ds)
same_up_to most [] m n e = ap (λ k. Some k) e
same_up_to most (c ∷ cs) m n e = same_step most (is_ascii_digit c) (digits_after (10 * m + (c - 48)) cs) (digits_after (10 * n + (c - 48)) cs) (same_up_to most cs _ _ (omega arith))

pub next_digit : (most : ℕ) (ds : List ℕ) (at number next : ℕ) (all : Option ℕ) → at < length ds → is_ascii_digit (get_or ds at 0) ≡ true → next ≡ min (10 * number + (get_or ds at 0 - 48)) most
    → up_to most (digits_after number (drop at ds)) ≡ all → up_to most (digits_after next (drop (at + 1) ds)) ≡ all
next_digit most ds at number next all lt digit e so_far =
    let c = get_or ds at 0 in
    let one : digits_after number (drop at ds) ≡ digits_after (10 * number + (c - 48)) (drop (at + 1) ds) = rw (drop_more ds at 0 lt, digit) refl in
    same_up_to most (drop (at + 1) ds) next (10 * number + (c - 48)) (omega arith) ∙ ap (up_to most) (sym one) ∙ so_far

-- ---- how large a number of so many digits is

case_digit : (b : Bool) (x : Option ℕ) (m : ℕ) → cond b x None ≡ Some m → (b ≡ true) × (x ≡ Some m)
case_digit true x m e = (refl, e)
case_digit false x m e = absurd cc

pub below_power : (ds : List ℕ) (n m : ℕ) → digits_after n ds ≡ Some m → m < (n + 1) * 10 ^ length ds
below_power [] n m e = let d : n ≡ m = cc in omega arith
below_power (c ∷ cs) n m e =
    let digit = case_digit (is_ascii_digit c) (digits_after (10 * n + (c - 48)) cs) m e in
    let small : c - 48 < 10 = grind arith in
    let so_far = below_power cs (10 * n + (c - 48)) m digit.1 in
    let le : 10 * n + (c - 48) + 1 ≤ 10 * (n + 1) = omega arith in
    let wider = mul-le-mul_right (10 ^ length cs) le in
    rw (pow-succ' 10 (length cs)) (omega (arith, so_far, wider))

within : (o : Option ℕ) (most number : ℕ) → ((m : ℕ) → o ≡ Some m → m < most) → Some number ≡ up_to most o → (number < most) × (Some number ≡ o)
within None most number h e = absurd cc
within (Some m) most number h e =
    let d : number ≡ min m most = cc in
    let lt = h m refl in
    let same : number ≡ m = omega arith in
    (omega arith, ap (λ n. Some n) same)

pub below_million : (ds : List ℕ) (m : ℕ) → length ds ≡ 6 → number_spelled ds ≡ Some m → m < 1_000_000
below_million [] m len h = absurd cc
below_million (c ∷ cs) m len h = let below = below_power (c ∷ cs) 0 m h in let b : m < (0 + 1) * 10 ^ 6 = rw len at below in omega arith

-- six digits spell a number below a million
pub six_digits : (ds : List ℕ) (number : ℕ) → length ds ≡ 6 → Some number ≡ up_to 1_000_000 (number_spelled ds) → (number < 1_000_000) × (Some number ≡ number_spelled ds)
six_digits ds number len e = within (number_spelled ds) 1_000_000 number (λ m h. below_million ds m len h) e
