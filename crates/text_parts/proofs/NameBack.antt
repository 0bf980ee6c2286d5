-- What is read as a name is one, and the text of a name is read as that name.
use Rattle.std.proofs.Common.{ℕ, ◌≡◌, ◌+◌, ◌-◌, ◌*◌, ◌/◌, ◌%◌, ◌<◌, ◌≤◌, Bool, true, false, cond, eqb, ◌&&◌, List, [], ◌∷◌, length, refl, ap, ◌∙◌, arith}
use Rattle.std.specs.Prelude.{Option, Some, None}
use Rattle.std.specs.Option.{option_and_then}
use Rattle.std.specs.Char.{is_ascii_digit}
use Rattle.std.proofs.lemmas.Bool.{ne_eqb}
use Rattle.std.proofs.lemmas.Bool.Decides.{nat_tests}
use Rattle.text_parts.specs.Digits.{digits_after, number_spelled}
use Rattle.text_parts.proofs.Number.{below_million}
use Rattle.text_parts.specs.Names.{IsName, last_digits, name_text, if_not_zero, name_read}
use Rattle.text_parts.specs.declared.names.TheConstants.{GREATEST_NAME}

digit_is : (d : ℕ) → d < 10 → is_ascii_digit (48 + d) ≡ true
digit_is d lt = grind (arith, nat_tests)

one_digit : (n d : ℕ) (ds : List ℕ) → d < 10 → digits_after n ((48 + d) ∷ ds) ≡ digits_after (10 * n + d) ds
one_digit n d ds lt = let value : 10 * n + ((48 + d) - 48) ≡ 10 * n + d = omega arith in rw (digit_is d lt, value) refl

six : (a b c d e f : ℕ) → a < 10 → b < 10 → c < 10 → d < 10 → e < 10 → f < 10
    → digits_after 0 ((48 + a) ∷ (48 + b) ∷ (48 + c) ∷ (48 + d) ∷ (48 + e) ∷ (48 + f) ∷ []) ≡ Some (10 * (10 * (10 * (10 * (10 * (10 * 0 + a) + b) + c) + d) + e) + f)
six a b c d e f la lb lc ld le lf =
    one_digit 0 a ((48 + b) ∷ (48 + c) ∷ (48 + d) ∷ (48 + e) ∷ (48 + f) ∷ []) la
    ∙ one_digit (10 * 0 + a) b ((48 + c) ∷ (48 + d) ∷ (48 + e) ∷ (48 + f) ∷ []) lb
    ∙ one_digit (10 * (10 * 0 + a) + b) c ((48 + d) ∷ (48 + e) ∷ (48 + f) ∷ []) lc
    ∙ one_digit (10 * (10 * (10 * 0 + a) + b) + c) d ((48 + e) ∷ (48 + f) ∷ []) ld
    ∙ one_digit (10 * (10 * (10 * (10 * 0 + a) + b) + c) + d) e ((48 + f) ∷ []) le
    ∙ one_digit (10 * (10 * (10 * (10 * (10 * 0 + a) + b) + c) + d) + e) f [] lf

value_of : (q : ℕ) → q ≤ GREATEST_NAME
    → 10 * (10 * (10 * (10 * (10 * (10 * 0 + q / 10 / 10 / 10 / 10 / 10 % 10) + q / 10 / 10 / 10 / 10 % 10) + q / 10 / 10 / 10 % 10) + q / 10 / 10 % 10) + q / 10 % 10) + q % 10 ≡ q
value_of q le = omega arith

digits_back : (q : ℕ) → q ≤ GREATEST_NAME → number_spelled (last_digits 6 q) ≡ Some q
digits_back q le =
    six (q / 10 / 10 / 10 / 10 / 10 % 10) (q / 10 / 10 / 10 / 10 % 10) (q / 10 / 10 / 10 % 10) (q / 10 / 10 % 10) (q / 10 % 10) (q % 10) (omega arith) (omega arith) (omega arith) (omega arith) (omega arith) (omega arith)
    ∙ ap (λ n. Some n) (value_of q le)

not_zero : (q : ℕ) → 1 ≤ q → if_not_zero q ≡ Some q
not_zero q le = rw (ne_eqb q 0 (λ e. omega arith)) refl

pub name_back : (q : ℕ) → IsName q → name_read (name_text q) ≡ Some q
unfolding name_read name_text
name_back q named = rw (digits_back q named.1) (not_zero q named.0)

-- ---- what is read as a name

read_digits : (b : Bool) (ds : List ℕ) (q : ℕ) → (b ≡ true → length ds ≡ 6) → cond b (option_and_then if_not_zero (number_spelled ds)) None ≡ Some q → IsName q
read_digits false ds q six e = absurd cc
read_digits true ds q six e = not_none (number_spelled ds) refl e
  where
    not_zero_is : (n : ℕ) (z : Bool) → eqb n 0 ≡ z → number_spelled ds ≡ Some n → cond z None (Some n) ≡ Some q → IsName q
    not_zero_is n true z is h = absurd cc
    not_zero_is n false z is h =
        let same : n ≡ q = cc in
        let positive : 1 ≤ n = grind (arith, nat_tests) in
        let below = below_million ds n (six refl) is in
        (rw (← same) positive, rw (← same) (omega (arith, below)))

    not_none : (o : Option ℕ) → number_spelled ds ≡ o → option_and_then if_not_zero o ≡ Some q → IsName q
    not_none None is h = absurd cc
    not_none (Some n) is h = not_zero_is n (eqb n 0) refl is h

-- what is read as a name is one
pub read_is_name : (text : List ℕ) (q : ℕ) → name_read text ≡ Some q → IsName q
unfolding name_read
read_is_name [] q e = absurd cc
read_is_name (b ∷ bs) q e = read_digits (eqb b 65 && eqb (length bs) 6) bs q (six (eqb b 65)) e
  where
    six : (a : Bool) → (a && eqb (length bs) 6) ≡ true → length bs ≡ 6
    six true h = grind (arith, nat_tests)
    six false h = absurd cc

-- a text of fewer than seven bytes is none
pub short_is_none : (text : List ℕ) → length text < 7 → name_read text ≡ None
unfolding name_read
short_is_none [] lt = refl
short_is_none (b ∷ bs) lt = rw (ne_eqb (length bs) 6 (λ e. omega arith)) (neither (eqb b 65))
  where
    neither : (a : Bool) → cond (a && false) (option_and_then if_not_zero (number_spelled bs)) None ≡ None
    neither true = refl
    neither false = refl
