-- The least with a property, and the first with it, are one.
use Rattle.std.proofs.Common.{ℕ, suc, ◌≡◌, refl, sym, subst, ◌∙◌, arith, ℤ, List, [], ◌∷◌, ◌++◌}
use Rattle.std.specs.Prelude.{◌<ℤ◌, Contains}
use Rattle.judge.specs.Judged.{LeastWith}
use Rattle.program_store.specs.Graph.{FirstWith}
use Rattle.std.proofs.lemmas.Int.{by_lt_z, ints}

pub int_trichotomy : (x y : ℤ) → (x <ℤ y → ⊥) → (y <ℤ x → ⊥) → x ≡ y
int_trichotomy x y h k = by_lt_z x y (λ l. absurd (h l)) (λ g. by_lt_z y x (λ l. absurd (k l)) (λ g2. omega (arith, ints)))

pub least-same : (P : ℤ → Type 0) (x y : ℤ) → LeastWith P x → LeastWith P y → x ≡ y
least-same P x y hx hy = int_trichotomy x y (λ l. hy.1 x l hx.0) (λ l. hx.1 y l hy.0)

pub contains-here : (x : ℕ) (xs : List ℕ) → Contains (x ∷ xs) x
contains-here x xs = (0, omega arith, refl)

pub contains-there : (y x : ℕ) (xs : List ℕ) → Contains xs x → Contains (y ∷ xs) x
contains-there y x xs h = (suc h.0, (let k = h.1 in omega (arith, k)), h.2)

-- a list with two firsts has one
pub first-same : (P : ℕ → Type 0) (xs : List ℕ) (x y : ℕ) → FirstWith P xs x → FirstWith P xs y → x ≡ y
first-same P xs x y fx fy = go fx.0 fy.0 (sym fx.2 ∙ fy.2) fx.3 fy.3 fx.4 fy.4
  where
    go : (b1 b2 : List ℕ) → b1 ++ x ∷ fx.1 ≡ b2 ++ y ∷ fy.1 → P x → P y → ((z : ℕ) → Contains b1 z → P z → ⊥) → ((z : ℕ) → Contains b2 z → P z → ⊥) → x ≡ y
    go [] [] e px py n1 n2 = cc
    go [] (b ∷ b2) e px py n1 n2 = absurd (let h : x ≡ b = cc in n2 b (contains-here b b2) (subst P h px))
    go (b ∷ b1) [] e px py n1 n2 = absurd (let h : y ≡ b = cc in n1 b (contains-here b b1) (subst P h py))
    go (b ∷ b1) (c ∷ b2) e px py n1 n2 = go b1 b2 (let h : b1 ++ x ∷ fx.1 ≡ b2 ++ y ∷ fy.1 = cc in h) px py (λ z h. n1 z (contains-there b z b1 h)) (λ z h. n2 z (contains-there c z b2 h))
