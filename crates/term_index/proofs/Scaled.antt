-- Terms on a line have the key of the values.
use Rattle.std.proofs.Common.{ℕ, zero, suc, ◌-◌, ◌*◌, ◌/◌, ◌%◌, ◌<◌, ◌≡◌, refl, sym, ap, ◌∙◌, arith, ℤ, List, [], ◌∷◌, map, Bool, true, false, ◌==◌}
use Rattle.std.specs.Prelude.{◌+ℤ◌, ◌-ℤ◌, ◌*ℤ◌, unsigned_abs, if◌then◌else◌}
use Rattle.std.proofs.Math.Nat.{mul-div-mul_left, mod-eq-sub-div-mul, mul_left_comm, mul-sub}
use Rattle.std.proofs.lemmas.Int.{ints, unsigned_abs-mul}
use Rattle.term_index.proofs.Products.{product-of-difference}
use Rattle.term_index.specs.Keys.{gaps_from, first_gap, mixed, euclid_step, ratio_key, key_by, key_of_gaps, line_key}

abbrev times : ℕ → List ℕ → List ℕ
times m [] = []
times m (g ∷ gs) = m * g ∷ times m gs

gap-scaled : (a b x y : ℤ) → unsigned_abs ((a *ℤ y +ℤ b) -ℤ (a *ℤ x +ℤ b)) ≡ unsigned_abs a * unsigned_abs (y -ℤ x)
gap-scaled a b x y = (let e : (a *ℤ y +ℤ b) -ℤ (a *ℤ x +ℤ b) ≡ a *ℤ (y -ℤ x) = (let p = product-of-difference a x y in omega (arith, ints, p)) in ap unsigned_abs e) ∙ unsigned_abs-mul a (y -ℤ x)

gaps-scaled : (a b x : ℤ) (ys : List ℤ) → gaps_from (a *ℤ x +ℤ b) (map (λ y. a *ℤ y +ℤ b) ys) ≡ times (unsigned_abs a) (gaps_from x ys)
gaps-scaled a b x [] = refl
gaps-scaled a b x (y ∷ ys) = ap (λ g. g ∷ gaps_from (a *ℤ x +ℤ b) (map (λ y. a *ℤ y +ℤ b) ys)) (gap-scaled a b x y) ∙ ap (λ gs. unsigned_abs a * unsigned_abs (y -ℤ x) ∷ gs) (gaps-scaled a b x ys)

product : (m g : ℕ) → 0 < m → (g == 0) ≡ false → ((m * g) == 0) ≡ false
product zero g lt e = absurd (omega arith)
product (suc m) zero lt e = absurd (cc)
product (suc m) (suc g) lt e = let z : 0 < suc m * suc g = omega arith in grind (arith, z)

first-scaled : (m : ℕ) (gs : List ℕ) → 0 < m → first_gap (times m gs) ≡ m * first_gap gs
first-scaled m [] lt = omega arith
first-scaled m (g ∷ gs) lt = by_test (g == 0) refl (first-scaled m gs lt)
  where
    by_test : (t : Bool) → (g == 0) ≡ t → first_gap (times m gs) ≡ m * first_gap gs → (if (m * g) == 0 then first_gap (times m gs) else (m * g)) ≡ m * (if t then first_gap gs else g)
    by_test true e rest = let z : (m * g) ≡ 0 = ap (λ k. m * k) (let k : g ≡ 0 = grind arith in k) ∙ omega arith in let f : ((m * g) == 0) ≡ true = grind (arith, z) in rw f rest
    by_test false e rest = let f : ((m * g) == 0) ≡ false = product m g lt e in rw f refl

rest-scaled : (m a b : ℕ) → 0 < m → (m * a) % (m * b) ≡ m * (a % b)
rest-scaled m a b lt =
    mod-eq-sub-div-mul (m * a) (m * b) ∙ ap (λ q. m * a - q * (m * b)) (mul-div-mul_left a b lt)
    ∙ taken m a b (a / b) ∙ ap (λ r. m * r) (sym (mod-eq-sub-div-mul a b))
  where
    taken : (m a b q : ℕ) → m * a - q * (m * b) ≡ m * (a - q * b)
    taken m a b q = ap (λ z. m * a - z) (mul_left_comm q m b) ∙ sym (mul-sub m a (q * b))

-- both numbers of a step, m times as great
abbrev scaled : ℕ → ℕ × ℕ × ℕ → ℕ × ℕ × ℕ
scaled m x = (x.0, m * x.1, m * x.2)

step-scaled : (m key a b : ℕ) → 0 < m → euclid_step key (m * a) (m * b) ≡ scaled m (euclid_step key a b)
step-scaled m key a b lt = by_test (b == 0) refl
  where
    by_test : (t : Bool) → (b == 0) ≡ t → euclid_step key (m * a) (m * b) ≡ scaled m (if t then (key, a, b) else (mixed key (a / b), b, a % b))
    by_test true e = let z : (m * b) ≡ 0 = ap (λ k. m * k) (let k : b ≡ 0 = grind arith in k) ∙ omega arith in let f : ((m * b) == 0) ≡ true = grind (arith, z) in rw f refl
    by_test false e =
        let f : ((m * b) == 0) ≡ false = product m b lt e in
        rw f (ap (λ (q : ℕ). (mixed key q, m * b, (m * a) % (m * b))) (mul-div-mul_left a b lt) ∙ ap (λ (r : ℕ). (mixed key (a / b), m * b, r)) (rest-scaled m a b lt))

ratio-scaled : (m key a b : ℕ) → 0 < m → ratio_key key (m * a) (m * b) ≡ ratio_key key a b
unfolding ratio_key
ratio-scaled m key a b lt =
    let s = euclid_step key a b in
    let t = euclid_step s.0 s.1 s.2 in
    ap (λ (x : ℕ × ℕ × ℕ). (euclid_step (euclid_step x.0 x.1 x.2).0 (euclid_step x.0 x.1 x.2).1 (euclid_step x.0 x.1 x.2).2).0) (step-scaled m key a b lt)
    ∙ ap (λ (x : ℕ × ℕ × ℕ). (euclid_step x.0 x.1 x.2).0) (step-scaled m s.0 s.1 s.2 lt)
    ∙ ap (λ (x : ℕ × ℕ × ℕ). x.0) (step-scaled m t.0 t.1 t.2 lt)

key-scaled : (m unit key : ℕ) (gs : List ℕ) → 0 < m → key_by (m * unit) key (times m gs) ≡ key_by unit key gs
key-scaled m unit key [] lt = refl
key-scaled m unit key (g ∷ gs) lt = ap (λ k. key_by (m * unit) k (times m gs)) (ratio-scaled m key g unit lt) ∙ key-scaled m unit (ratio_key key g unit) gs lt

pub key-of-line : (a b : ℤ) (values : List ℤ) → 0 < unsigned_abs a → line_key (map (λ x. a *ℤ x +ℤ b) values) ≡ line_key values
key-of-line a b [] lt = refl
key-of-line a b (x ∷ xs) lt =
    ap key_of_gaps (gaps-scaled a b x xs)
    ∙ ap (λ unit. key_by unit 0 (times (unsigned_abs a) (gaps_from x xs))) (first-scaled (unsigned_abs a) (gaps_from x xs) lt)
    ∙ key-scaled (unsigned_abs a) (first_gap (gaps_from x xs)) 0 (gaps_from x xs) lt
