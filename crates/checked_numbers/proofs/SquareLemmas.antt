-- Raising to a power by squares.
use Rattle.std.proofs.Common.{ℕ, ◌+◌, ◌*◌, ◌^◌, ◌<◌, ◌≤◌, ◌≡◌, refl, sym, ap, ◌∙◌, arith}
use Rattle.std.specs.Prelude.{◌/◌, ◌%◌}
use Rattle.std.proofs.Math.Nat.{mul_assoc, mul_comm, one-le-pow, pow-le-pow_right, mul-le-mul_left, one-le-mul, pow-suc, pow-zero}
use Rattle.std.proofs.lemmas.Nat.{pow-add, mul-pow}

-- what is done, times the powers that are left, is the value
pub record Squares (power square left value : ℕ) : Type 0 where
  pub product : power * square ^ left ≡ value
  pub some_power : 0 < power
  pub some_square : 0 < square
  pub some_left : 0 < left

pub pow-one : (n : ℕ) → n ^ 1 ≡ n
pow-one n = rw (pow-suc n 0, pow-zero n) (omega arith)

squared : (n k : ℕ) → n ^ (2 * k) ≡ (n * n) ^ k
squared n k = let two : 2 * k ≡ k + k = omega arith in rw (two, pow-add n k k, mul-pow n n k) refl

-- one turn
halved : (n left : ℕ) → n ^ left ≡ n ^ (left % 2) * (n * n) ^ (left / 2)
halved n left =
    let parts : left ≡ left % 2 + 2 * (left / 2) = omega arith in
    ap (λ k. n ^ k) parts ∙ pow-add n (left % 2) (2 * (left / 2)) ∙ ap (λ m. n ^ (left % 2) * m) (squared n (left / 2))

turned : (power square left value : ℕ) → power * square ^ left ≡ value → power * square ^ (left % 2) * (square * square) ^ (left / 2) ≡ value
turned power square left value e = mul_assoc power (square ^ (left % 2)) ((square * square) ^ (left / 2)) ∙ sym (ap (λ m. power * m) (halved square left)) ∙ e

positive-product : (m n : ℕ) → 0 < m → 0 < n → 0 < m * n
positive-product m n h k = one-le-mul h k

pub Squares-turned : (power square left value power' square' : ℕ) → Squares power square left value → 1 < left →
    power' ≡ power * square ^ (left % 2) → square' ≡ square * square → Squares power' square' (left / 2) value
Squares-turned power square left value power' square' s h p q =
    let factor : 0 < square ^ (left % 2) = one-le-pow (left % 2) square s.some_square in
    let some : 0 < power * square ^ (left % 2) = positive-product power (square ^ (left % 2)) s.some_power factor in
    let both : 0 < square * square = positive-product square square s.some_square s.some_square in
    record {
      product = rw (p, q) (turned power square left value s.product);
      some_power = omega (arith, some, p);
      some_square = omega (arith, both, q);
      some_left = omega arith;
    }

-- a product is no less than its first factor, where the other is positive
factor-le : (m n : ℕ) → 0 < n → m ≤ m * n
factor-le m n h = let k : m * 1 ≤ m * n = mul-le-mul_left m h in omega (arith, k)

-- a power so far that is wide
pub Squares-wide_power : (w power square left value : ℕ) → Squares power square left value → 1 < left →
    ¬ (power * square ^ (left % 2) < w) → ¬ (value < w)
Squares-wide_power w power square left value s h wide small =
    let both : 0 < square * square = positive-product square square s.some_square s.some_square in
    let rest : 0 < (square * square) ^ (left / 2) = one-le-pow (left / 2) (square * square) both in
    let le = factor-le (power * square ^ (left % 2)) ((square * square) ^ (left / 2)) rest in
    let e = turned power square left value s.product in
    wide (omega (arith, le, e, small))

-- a square that is wide
pub Squares-wide_square : (w power square left value : ℕ) → Squares power square left value → 1 < left →
    ¬ (square * square < w) → ¬ (value < w)
Squares-wide_square w power square left value s h wide small =
    let two : 2 ≤ left = omega arith in
    let up : square ^ 2 ≤ square ^ left = pow-le-pow_right s.some_square two in
    let is_square : square ^ 2 ≡ square * square = rw (pow-suc square 1, pow-one square) refl in
    let le : square ^ left ≤ square ^ left * power = factor-le (square ^ left) power s.some_power in
    let e : square ^ left * power ≡ value = mul_comm (square ^ left) power ∙ s.product in
    wide (omega (arith, up, is_square, le, e, small))

-- the last turn
pub Squares-last : (power square left value : ℕ) → Squares power square left value → left ≤ 1 → value ≡ power * square
Squares-last power square left value s h =
    let one : left ≡ 1 = let some = s.some_left in omega arith in
    sym s.product ∙ ap (λ k. power * square ^ k) one ∙ ap (λ m. power * m) (pow-one square)
