-- The ways to choose k of n.
use Rattle.std.proofs.Common.{ℕ, zero, suc, ◌+◌, ◌*◌, ◌^◌, ◌<◌, ◌≤◌, ◌≡◌, refl, sym, ap, ◌∙◌, arith, subst, add-zero, add-one, add-suc, add_comm}
use Rattle.std.specs.Prelude.{◌-◌, ◌/◌, ◌%◌, ℤ, pos, negsuc, ◌<ℤ◌, ◌≤ℤ◌}
use Rattle.std.proofs.lemmas.Int.{ints}
use Rattle.std.proofs.Math.Nat.{mul-le-mul_right, le_of_mul-le-mul_right, div-eq_of_eq-mul_left, div-add-mod, mul-add-div_right, zero-lt-suc}
use Rattle.std.proofs.Math.Pow.{pow_mono}
use Rattle.checked_numbers.specs.Ops.{choose, binomial}

-- there is one way to choose none
pub choose-none : (n : ℕ) → choose n 0 ≡ 1
unfolding choose
choose-none n = refl

-- one more of one more
pub choose-suc : (n k : ℕ) → choose (suc n) (suc k) * suc k ≡ suc n * choose n k
unfolding choose
choose-suc zero zero = refl
choose-suc zero (suc k) = omega arith
choose-suc (suc n) zero = let h = choose-suc n zero in omega (arith, h)
choose-suc (suc n) (suc k) =
    let h0 = choose-suc n k in
    let h1 = choose-suc n (suc k) in
    omega (arith, h0, h1)

-- it rises along a diagonal
choose-rises : (n k : ℕ) → choose n k ≤ choose (suc n) (suc k)
unfolding choose
choose-rises n k = omega arith

pub choose-rises_by : (n k more : ℕ) → choose n k ≤ choose (n + more) (k + more)
choose-rises_by n k zero = rw (add-zero n, add-zero k) (omega arith)
choose-rises_by n k (suc more) =
    let h : choose n k ≤ choose (n + more) (k + more) = choose-rises_by n k more in
    let step : choose (n + more) (k + more) ≤ choose (suc (n + more)) (suc (k + more)) = choose-rises (n + more) (k + more) in
    rw (add-suc n more, add-suc k more) (omega (arith, h, step))

-- there is no way to choose more than there are
pub choose-above : (n k : ℕ) → n < k → choose n k ≡ 0
unfolding choose
choose-above n zero h = absurd (omega arith)
choose-above zero (suc k) h = refl
choose-above (suc n) (suc k) h =
    let h0 : choose n k ≡ 0 = choose-above n k (omega arith) in
    let h1 : choose n (suc k) ≡ 0 = choose-above n (suc k) (omega arith) in
    omega (arith, h0, h1)

pub binomial-above : (a b : ℤ) → pos 0 ≤ℤ a → a <ℤ b → binomial a b ≡ pos 0
binomial-above (pos n) (pos k) h less = ap pos (choose-above n k (omega (arith, ints)))
binomial-above a (negsuc k) h less = refl
binomial-above (negsuc n) (pos k) h less = absurd (omega (arith, ints))

pub choose-all : (n : ℕ) → choose n n ≡ 1
unfolding choose
choose-all zero = refl
choose-all (suc n) =
    let h0 = choose-all n in
    let h1 : choose n (suc n) ≡ 0 = choose-above n (suc n) (omega arith) in
    omega (arith, h0, h1)

-- to choose what is kept is to choose what is left
pub choose-left : (n left kept : ℕ) → left + kept ≡ n → choose n kept ≡ choose n left
unfolding choose
choose-left n zero kept e = let f : kept ≡ n = omega arith in subst (λ k. choose n k ≡ 1) (sym f) (choose-all n)
choose-left n (suc left) zero e = let f : suc left ≡ n = omega arith in sym (subst (λ k. choose n k ≡ 1) (sym f) (choose-all n))
choose-left zero (suc left) (suc kept) e = absurd (omega arith)
choose-left (suc n) (suc left) (suc kept) e =
    let h0 : choose n kept ≡ choose n (suc left) = choose-left n (suc left) kept (omega arith) in
    let h1 : choose n (suc kept) ≡ choose n left = choose-left n left (suc kept) (omega arith) in
    omega (arith, h0, h1)

pub choose-swap : (left kept : ℕ) → choose (left + kept) kept ≡ choose (kept + left) left
choose-swap left kept = choose-left (left + kept) left kept refl ∙ ap (λ n. choose n left) (add_comm left kept)

doubles : (c wider k n : ℕ) → wider * suc k ≡ n * c → 2 * suc k ≤ n → 2 * c ≤ wider
doubles c wider k n e h =
    let more : 2 * suc k * c ≤ n * c = mul-le-mul_right c h in
    let both : 2 * c * suc k ≤ wider * suc k = omega (arith, more, e) in
    le_of_mul-le-mul_right both (zero-lt-suc k)

-- where at least as many are left as kept, each one more at least doubles the ways
pub choose-wide : (left kept : ℕ) → kept ≤ left → 2 ^ kept ≤ choose (left + kept) kept
unfolding choose
choose-wide left zero h = omega arith
choose-wide left (suc kept) h =
    let below : 2 ^ kept ≤ choose (left + kept) kept = choose-wide left kept (omega arith) in
    let twice : 2 * choose (left + kept) kept ≤ choose (suc (left + kept)) (suc kept) =
    doubles (choose (left + kept) kept) (choose (suc (left + kept)) (suc kept)) kept (suc (left + kept))
    (choose-suc (left + kept) kept) (omega arith) in
    rw (add-suc left kept) (omega (arith, below, twice))

pub choose-wide_from : (w left kept : ℕ) → kept ≤ left → w ≤ kept → 2 ^ w ≤ choose (left + kept) kept
choose-wide_from w left kept h k =
    let i : 2 ^ w ≤ 2 ^ kept = pow_mono k in
    let j = choose-wide left kept h in
    omega (arith, i, j)

-- one step of the product of the quotients (left + i) / i
choose-step : (left i : ℕ) → choose (left + i) i * (left + (i + 1)) / (i + 1) ≡ choose (left + (i + 1)) (i + 1)
choose-step left i =
    let e : choose (left + i) i * suc (left + i) ≡ choose (suc (left + i)) (suc i) * suc i = let h = choose-suc (left + i) i in omega (arith, h) in
    rw (add-one i, add-suc left i) (div-eq_of_eq-mul_left (zero-lt-suc i) e)

-- a step that is wide already leads to a wide end
choose-stays_wide : (w left i kept : ℕ) → i < kept → w ≤ choose (left + (i + 1)) (i + 1) → w ≤ choose (left + kept) kept
choose-stays_wide w left i kept h k =
    let more = kept - (i + 1) in
    let rise : choose (left + (i + 1)) (i + 1) ≤ choose (left + (i + 1) + more) (i + 1 + more) = choose-rises_by (left + (i + 1)) (i + 1) more in
    let at_left : left + (i + 1) + more ≡ left + kept = omega arith in
    let at_kept : i + 1 + more ≡ kept = omega arith in
    let end : choose (left + (i + 1)) (i + 1) ≤ choose (left + kept) kept = rw (at_left, at_kept) at rise in
    omega (arith, k, end)

pub choose-next : (left i ways : ℕ) → ways ≡ choose (left + i) i → ways * (left + (i + 1)) / (i + 1) ≡ choose (left + (i + 1)) (i + 1)
choose-next left i ways e = ap (λ w. w * (left + (i + 1)) / (i + 1)) e ∙ choose-step left i

pub choose-next_wide : (w left i kept ways : ℕ) → i < kept → ways ≡ choose (left + i) i → ¬ (ways * (left + (i + 1)) / (i + 1) < w) → ¬ (choose (left + kept) kept < w)
choose-next_wide w left i kept ways h e wide small =
    let next = choose-next left i ways e in
    let k : w ≤ choose (left + (i + 1)) (i + 1) = rw (← next) (omega (arith, wide)) in
    let end = choose-stays_wide w left i kept h k in
    omega (arith, end, small)

product-in_parts : (q s p t d : ℕ) → (d * q + s) * (d * p + t) ≡ (q * (d * p + t) + s * p) * d + s * t
product-in_parts q s p t d = omega arith

-- the quotient of a product, from the quotients and the rests of its factors
pub divided_parts : (a b d : ℕ) → 0 < d → a * b / d ≡ a / d * b + a % d * (b / d) + a % d * (b % d) / d
divided_parts a b d h =
    let e = product-in_parts (a / d) (a % d) (b / d) (b % d) d in
    let whole : a * b ≡ (a / d * b + a % d * (b / d)) * d + a % d * (b % d) = rw (div-add-mod a d, div-add-mod b d) at e in
    rw whole (mul-add-div_right h (a / d * b + a % d * (b / d)) (a % d * (b % d)))
