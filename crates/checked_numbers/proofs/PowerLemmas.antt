-- Powers of 0, 1 and -1.
use Rattle.std.proofs.Common.{ℕ, zero, suc, ◌^◌, ◌<◌, ◌≡◌, refl, sym, ap, arith, subst}
use Rattle.std.specs.Prelude.{◌%◌, ◌==◌, Bool, true, false, cond, ℤ, pos, negsuc, neg_ℤ, unsigned_abs, if◌then◌else◌, ◌<ℤ◌}
use Rattle.std.proofs.lemmas.Int.{ints}
use Rattle.std.specs.declared.option.Option.{Option}
use Rattle.std.specs.declared.option.Option.TheVariants.{Some}
use Rattle.checked_numbers.specs.Ops.{power, sign}

one_pow : (n : ℕ) → 1 ^ n ≡ 1
one_pow zero = refl
one_pow (suc n) = let h = one_pow n in omega (arith, h)

zero_pow : (n : ℕ) → 0 < n → 0 ^ n ≡ 0
zero_pow zero h = absurd (omega arith)
zero_pow (suc n) h = omega arith

pub power-one : (a b : ℤ) → a ≡ pos 1 → power a b ≡ Some (pos 1)
power-one a b e = subst (λ z. power z b ≡ Some (pos 1)) (sym e) (at_one b)
  where
    at_one : (z : ℤ) → power (pos 1) z ≡ Some (pos 1)
    at_one (pos n) = ap (λ z. Some (pos z)) (one_pow n)
    at_one (negsuc n) = refl

pub power-minus_one : (a b : ℤ) → a ≡ negsuc 0 → power a b ≡ Some (sign (unsigned_abs b))
power-minus_one a b e = subst (λ z. power z b ≡ Some (sign (unsigned_abs b))) (sym e) (at_minus_one b)
  where
    by_test : (n : ℕ) (t : Bool) → ◌≡◌ {A = Option ℤ} (Some (cond t (pos (1 ^ n)) (neg_ℤ (pos (1 ^ n))))) (Some (if t then pos 1 else negsuc 0))
    by_test n true = ap (λ z. Some (pos z)) (one_pow n)
    by_test n false = ap (λ z. Some (neg_ℤ (pos z))) (one_pow n)

    at_minus_one : (z : ℤ) → power (negsuc 0) z ≡ Some (sign (unsigned_abs z))
    at_minus_one (pos n) = by_test n (n % 2 == 0)
    at_minus_one (negsuc n) = refl

pub power-zero : (a b : ℤ) → a ≡ pos 0 → pos 0 <ℤ b → power a b ≡ Some (pos 0)
power-zero a (pos n) e h = subst (λ z. power z (pos n) ≡ Some (pos 0)) (sym e) (ap (λ z. Some (pos z)) (zero_pow n (omega (arith, ints))))
power-zero a (negsuc n) e h = absurd (omega (arith, ints))
