-- Greatest common divisors.
use Rattle.std.proofs.Common.{ℕ, zero, suc, ◌+◌, ◌<◌, ◌≤◌, ◌≡◌, ◌≢◌, refl, sym, ◌∙◌, arith, subst, zero-lt-suc}
use Rattle.std.specs.Prelude.{◌%◌, ◌&&◌, Bool, true, false, cond, ℤ, ◌-ℤ◌, ◌*ℤ◌, int_div, int_rem}
use Rattle.std.proofs.lemmas.Int.{ints, quot-rem}
use Prim.Native.Nat.{◌∣◌}
use Rattle.std.proofs.Math.Nat.{mod-zero}
use Rattle.std.specs.Int.{IsGcd}
use Rattle.std.proofs.lemmas.Bool.Decides.{nat_tests}
use Rattle.std.proofs.lemmas.Nat.Gcd.{le_from_IsGcd, dvd_of_mod-eq-zero, mod-eq-zero_of_dvd, le_of_dvd, dvd-zero}
use Rattle.checked_numbers.specs.Ops.{divides, greatest_divisor_up_to, gcd}

divides-true : (d n : ℕ) → divides d n ≡ true → d ∣ n
divides-true d n e = let z : n % d ≡ 0 = grind (arith, nat_tests) in dvd_of_mod-eq-zero d z

divides-false : (d n : ℕ) → divides d n ≡ false → ¬ (d ∣ n)
divides-false d n e h = let z : n % d ≡ 0 = mod-eq-zero_of_dvd d h in let p : divides d n ≡ true = rw z refl in cc

below_top : (g d n : ℕ) → g ∣ n → g ≤ suc d → divides (suc d) n ≡ false → g ≤ d
below_top g d n h le e =
    let not_top : g ≢ suc d = λ s. divides-false (suc d) n e (subst (λ m. m ∣ n) s h) in
    omega arith

-- the search from above finds the greatest common divisor
pub greatest_divisor_up_to-is : (limit a b g : ℕ) → IsGcd a b g → 0 < g → g ≤ limit → greatest_divisor_up_to limit a b ≡ g
unfolding greatest_divisor_up_to
greatest_divisor_up_to-is zero a b g h some le = absurd (omega arith)
greatest_divisor_up_to-is (suc d) a b g h some le =
    by_tests (divides (suc d) a) (divides (suc d) b) refl refl (greatest_divisor_up_to-is d a b g h some)
  where
    by_tests : (x y : Bool) → divides (suc d) a ≡ x → divides (suc d) b ≡ y → (g ≤ d → greatest_divisor_up_to d a b ≡ g) →
        cond (x && y) (suc d) (greatest_divisor_up_to d a b) ≡ g
    by_tests true true p q below =
        let k : suc d ≤ g = le_from_IsGcd a b g (suc d) h some (divides-true (suc d) a p) (divides-true (suc d) b q) in
        omega arith
    by_tests true false p q below = below (below_top g d b h.1 le q)
    by_tests false y p q below = below (below_top g d a h.0 le p)

-- 0 divides 0 alone
zero-divides : (n : ℕ) → 0 ∣ n → n ≡ 0
zero-divides n h = let z : n % 0 ≡ 0 = mod-eq-zero_of_dvd 0 h in sym (mod-zero n) ∙ z

positive-gcd-le : (a b g : ℕ) → IsGcd a b g → 0 < g → g ≤ a + b
positive-gcd-le zero zero g h some =
    absurd (let k : suc g ≤ g = le_from_IsGcd 0 0 g (suc g) h some (dvd-zero (suc g)) (dvd-zero (suc g)) in omega arith)
positive-gcd-le zero (suc b) g h some = let k : g ≤ suc b = le_of_dvd (zero-lt-suc b) h.1 in omega arith
positive-gcd-le (suc a) b g h some = let k : g ≤ suc a = le_of_dvd (zero-lt-suc a) h.0 in omega arith

-- what divides both and is divided by each common divisor is the greatest
pub gcd-is : (a b g : ℕ) → IsGcd a b g → gcd a b ≡ g
unfolding gcd greatest_divisor_up_to
gcd-is a b zero h =
    let x : a ≡ 0 = zero-divides a h.0 in
    let y : b ≡ 0 = zero-divides b h.1 in
    let at_zeros : gcd 0 0 ≡ 0 = refl in
    subst (λ n. gcd n b ≡ 0) (sym x) (subst (λ n. gcd 0 n ≡ 0) (sym y) at_zeros)
gcd-is a b (suc g) h =
    greatest_divisor_up_to-is (a + b) a b (suc g) h (zero-lt-suc g) (positive-gcd-le a b (suc g) h (zero-lt-suc g))

-- the rest of the division that rounds toward zero
pub rest-is : (a b : ℤ) → a -ℤ b *ℤ int_div a b ≡ int_rem a b
rest-is a b = let h = quot-rem a b in omega (arith, ints, h)
